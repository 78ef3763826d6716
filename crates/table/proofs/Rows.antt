-- Laws of one table: what freeing rows does to the used rows, to lookups and to widths, and cutting a table out of bytes again.
use Prim.Native.Nat.{ℕ, zero, suc, ◌+◌, ◌*◌, ◌≤◌, ◌<◌}
use mathlib.Core.Path.{◌≡◌, refl, sym, ap, ap₂, ◌∙◌}
use mathlib.Core.Bool.{Bool, true, false, cond, not, ◌&&◌, ◌||◌, true≢false}
use mathlib.Core.Logic.{◌≢◌}
use mathlib.Core.Option.{none, some}
use mathlib.Core.List.{List, [], ◌∷◌, ◌++◌, append_assoc}
use native.Mathlib.Nat.{not-suc-le-zero, le_of_suc-le-suc}
use native.Mathlib.Omega.{arith}
use lib.ListN.{length, get_or, drop, set, replicate, length-append, length-set}
use lib.Seq.{take_at, drop_at, get_or-set_other}
use Rattle.table.specs.Lists.{bit, select, count, first, is_some, flat, All}
use Rattle.table.specs.Table.{Row, Table, rows, is_free, body, used, free_rows, has_tag, lookup, holds, index_of, place_of, zero_row, free_at, free_where}
use Rattle.table.proofs.Counting.{both, first-none, none_first}

-- a row of all zeros is free
pub zero_free : (w : ℕ) → is_free (zero_row w) ≡ true
zero_free zero = refl
zero_free (suc w) = refl

-- each row is free or used
pub free_used : (t : Table) → length t ≡ free_rows t + length (used t)
free_used [] = refl
free_used (r ∷ rs) = go (is_free r) (free_used rs)
  where
    go : (b : Bool) → length rs ≡ free_rows rs + length (used rs) → suc (length rs) ≡ bit b + free_rows rs + length (cond b (used rs) (body r ∷ used rs))
    go true e = omega arith
    go false e = omega arith

-- ---- one row

pub all_set : (P : Row → Type 0) (t : Table) (i : ℕ) (row : Row) → P row → All P t → All P (set t i row)
all_set P [] i row h a = tt
all_set P (r ∷ rs) zero row h a = (h, a.1)
all_set P (r ∷ rs) (suc i) row h a = (a.0, all_set P rs i row h a.1)

pub all_at : (P : Row → Type 0) (t : Table) (i : ℕ) → i < length t → All P t → P (get_or t i [])
all_at P [] i h a = absurd (not-suc-le-zero h)
all_at P (r ∷ rs) zero h a = a.0
all_at P (r ∷ rs) (suc i) h a = all_at P rs i (le_of_suc-le-suc h) a.1

-- ---- freeing

pub free_where-used : (w : ℕ) (q : List ℕ → Bool) (t : Table) → used (free_where w q t) ≡ select (λ b. not (q b)) (used t)
free_where-used w q [] = refl
free_where-used w q (r ∷ rs) = go (is_free r) refl (q (body r)) (free_where-used w q rs)
  where
    go : (b : Bool) → is_free r ≡ b → (c : Bool) → used (free_where w q rs) ≡ select (λ b. not (q b)) (used rs)
        → used (cond (not b && q (body r)) (zero_row w) r ∷ free_where w q rs) ≡ select (λ b. not (q b)) (cond b (used rs) (body r ∷ used rs))
    go true h c e = rw h e
    go false h c e = at (q (body r))
      where
        at : (d : Bool) → used (cond d (zero_row w) r ∷ free_where w q rs) ≡ cond (not d) (body r ∷ select (λ b. not (q b)) (used rs)) (select (λ b. not (q b)) (used rs))
        at true = rw (zero_free w) e
        at false = rw h (ap (λ (l : List (List ℕ)). body r ∷ l) e)

pub free_where-length : (w : ℕ) (q : List ℕ → Bool) (t : Table) → length (free_where w q t) ≡ length t
free_where-length w q [] = refl
free_where-length w q (r ∷ rs) = ap suc (free_where-length w q rs)

pub free_where_all : (P : Row → Type 0) (w : ℕ) (q : List ℕ → Bool) (t : Table) → P (zero_row w) → All P t → All P (free_where w q t)
free_where_all P w q [] z a = tt
free_where_all P w q (r ∷ rs) z a = (go (not (is_free r) && q (body r)), free_where_all P w q rs z a.1)
  where
    go : (b : Bool) → P (cond b (zero_row w) r)
    go true = z
    go false = a.0

-- nothing passes
pub free_where_none : (w : ℕ) (t : Table) → free_where w (λ b. false) t ≡ t
free_where_none w [] = refl
free_where_none w (r ∷ rs) = ap₂ (λ (x : Row) (xs : Table). x ∷ xs) (go (is_free r)) (free_where_none w rs)
  where
    go : (b : Bool) → cond (not b && false) (zero_row w) r ≡ r
    go true = refl
    go false = refl

-- freed by one test, then by another
pub free_where-or : (w : ℕ) (p q : List ℕ → Bool) (t : Table) → free_where w q (free_where w p t) ≡ free_where w (λ b. p b || q b) t
free_where-or w p q [] = refl
free_where-or w p q (r ∷ rs) = ap₂ (λ (x : Row) (xs : Table). x ∷ xs) (go (is_free r) (p (body r)) refl) (free_where-or w p q rs)
  where
    go : (f c : Bool) → is_free r ≡ f
        → cond (not (is_free (cond (not f && c) (zero_row w) r)) && q (body (cond (not f && c) (zero_row w) r))) (zero_row w) (cond (not f && c) (zero_row w) r) ≡ cond (not f && (c || q (body r))) (zero_row w) r
    go true c e = rw e
    go false true e = rw (zero_free w)
    go false false e = rw e

-- one used row freed: one used row fewer; a row without the property leaves the first row with it; no more pass
zeroed_length : (w : ℕ) (t : Table) (i : ℕ) → i < length t → is_free (get_or t i []) ≡ false → length (used t) ≡ suc (length (used (set t i (zero_row w))))
zeroed_length w [] i h f = absurd (not-suc-le-zero h)
zeroed_length w (r ∷ rs) zero h f = rw (f, zero_free w) refl
zeroed_length w (r ∷ rs) (suc i) h f = go (is_free r) (zeroed_length w rs i (le_of_suc-le-suc h) f)
  where
    go : (b : Bool) → length (used rs) ≡ suc (length (used (set rs i (zero_row w)))) → length (cond b (used rs) (body r ∷ used rs)) ≡ suc (length (cond b (used (set rs i (zero_row w))) (body r ∷ used (set rs i (zero_row w)))))
    go true e = e
    go false e = ap suc e

zeroed_first : (q : List ℕ → Bool) (w : ℕ) (t : Table) (i : ℕ) → q (body (get_or t i [])) ≡ false → first q (used (set t i (zero_row w))) ≡ first q (used t)
zeroed_first q w [] i e = refl
zeroed_first q w (r ∷ rs) zero e = rw (zero_free w) (go (is_free r))
  where
    go : (b : Bool) → first q (used rs) ≡ first q (cond b (used rs) (body r ∷ used rs))
    go true = refl
    go false = rw e refl
zeroed_first q w (r ∷ rs) (suc i) e = go (is_free r) (zeroed_first q w rs i e)
  where
    go : (b : Bool) → first q (used (set rs i (zero_row w))) ≡ first q (used rs)
        → first q (cond b (used (set rs i (zero_row w))) (body r ∷ used (set rs i (zero_row w)))) ≡ first q (cond b (used rs) (body r ∷ used rs))
    go true k = k
    go false k = ap (cond (q (body r)) (some (body r))) k

zeroed_count : (q : List ℕ → Bool) (w : ℕ) (t : Table) (i : ℕ) → count q (used (set t i (zero_row w))) ≤ count q (used t)
zeroed_count q w [] i = omega arith
zeroed_count q w (r ∷ rs) zero = rw (zero_free w) (go (is_free r))
  where
    go : (b : Bool) → count q (used rs) ≤ count q (cond b (used rs) (body r ∷ used rs))
    go true = omega arith
    go false = omega arith
zeroed_count q w (r ∷ rs) (suc i) = go (is_free r) (zeroed_count q w rs i)
  where
    go : (b : Bool) → count q (used (set rs i (zero_row w))) ≤ count q (used rs)
        → count q (cond b (used (set rs i (zero_row w))) (body r ∷ used (set rs i (zero_row w)))) ≤ count q (cond b (used rs) (body r ∷ used rs))
    go true k = k
    go false k = omega arith

-- freed rows make no row pass
pub free_at-count : (q : List ℕ → Bool) (w : ℕ) (is : List ℕ) (t : Table) → count q (used (free_at w is t)) ≤ count q (used t)
free_at-count q w [] t = omega arith
free_at-count q w (i ∷ is) t = let a = free_at-count q w is (set t i (zero_row w)) in let b = zeroed_count q w t i in omega arith

pub free_at-none : (tag : List ℕ) (w : ℕ) (is : List ℕ) (t : Table) → lookup tag t ≡ none → lookup tag (free_at w is t) ≡ none
unfolding lookup
free_at-none tag w is t e =
    let c = none_first (has_tag tag) (used t) e in
    let d = free_at-count (has_tag tag) w is t in
    first-none (has_tag tag) (used (free_at w is t)) (omega arith)

pub free_at-length : (w : ℕ) (is : List ℕ) (t : Table) → length (free_at w is t) ≡ length t
free_at-length w [] t = refl
free_at-length w (i ∷ is) t = free_at-length w is (set t i (zero_row w)) ∙ length-set t i (zero_row w)

pub free_at_all : (P : Row → Type 0) (w : ℕ) (is : List ℕ) (t : Table) → P (zero_row w) → All P t → All P (free_at w is t)
free_at_all P w [] t z a = a
free_at_all P w (i ∷ is) t z a = free_at_all P w is (set t i (zero_row w)) z (all_set P t i (zero_row w) z a)

-- ---- the index of a lookup

pub index_holds : (q : Row → Bool) (t : Table) → index_of q t < length t → q (get_or t (index_of q t) []) ≡ true
index_holds q [] h = absurd (not-suc-le-zero h)
index_holds q (r ∷ rs) h = go (q r) refl h (index_holds q rs)
  where
    go : (b : Bool) → q r ≡ b → cond b zero (suc (index_of q rs)) < suc (length rs) → (index_of q rs < length rs → q (get_or rs (index_of q rs) []) ≡ true) → q (get_or (r ∷ rs) (cond b zero (suc (index_of q rs))) []) ≡ true
    go true e h k = e
    go false e h k = k (le_of_suc-le-suc h)

index_inside : (q : List ℕ → Bool) (t : Table) → is_some (first q (used t)) ≡ true → index_of (λ r. not (is_free r) && q (body r)) t < length t
index_inside q [] e = absurd (true≢false (sym e))
index_inside q (r ∷ rs) e = go (is_free r) e (index_inside q rs)
  where
    at : (d : Bool) → is_some (cond d (some (body r)) (first q (used rs))) ≡ true → (is_some (first q (used rs)) ≡ true → index_of (λ r. not (is_free r) && q (body r)) rs < length rs)
        → cond d zero (suc (index_of (λ r. not (is_free r) && q (body r)) rs)) < suc (length rs)
    at true e k = omega arith
    at false e k = let h = k e in omega arith

    go : (b : Bool) → is_some (first q (cond b (used rs) (body r ∷ used rs))) ≡ true → (is_some (first q (used rs)) ≡ true → index_of (λ r. not (is_free r) && q (body r)) rs < length rs)
        → cond (not b && q (body r)) zero (suc (index_of (λ r. not (is_free r) && q (body r)) rs)) < suc (length rs)
    go true e k = let h = k e in omega arith
    go false e k = at (q (body r)) e k

-- the row at a lookup's index is used and has the tag
pub record Held (tag : List ℕ) (t : Table) (i : ℕ) : Type 0 where
  pub inside : i < length t
  pub taken : is_free (get_or t i []) ≡ false
  pub tagged : has_tag tag (body (get_or t i [])) ≡ true

not-true_is : (b : Bool) → not b ≡ true → b ≡ false
not-true_is true e = sym e
not-true_is false e = refl

pub place_held : (tag : List ℕ) (t : Table) → holds tag t ≡ true → Held tag t (place_of tag t)
unfolding holds lookup place_of
place_held tag t e =
    let h = index_inside (has_tag tag) t e in
    let k = index_holds (λ r. not (is_free r) && has_tag tag (body r)) t h in
    let b = both (not (is_free (get_or t (place_of tag t) []))) (has_tag tag (body (get_or t (place_of tag t) []))) k in
    record { inside = h; taken = not-true_is (is_free (get_or t (place_of tag t) [])) b.0; tagged = b.1 }

-- rows at different places freed: as many used rows fewer, and a lookup whose tag is none of theirs is as it was
pub free_one_length : (tag : List ℕ) (w : ℕ) (t : Table) (i : ℕ) → Held tag t i → length (used t) ≡ suc (length (used (set t i (zero_row w))))
free_one_length tag w t i h = zeroed_length w t i h.inside h.taken

pub free_one_other : (tag : List ℕ) (w : ℕ) (t : Table) (i : ℕ) → has_tag tag (body (get_or t i [])) ≡ false → lookup tag (set t i (zero_row w)) ≡ lookup tag t
unfolding lookup
free_one_other tag w t i e = zeroed_first (has_tag tag) w t i e

pub held_other : (tag : List ℕ) (w : ℕ) (t : Table) (i j : ℕ) → j ≢ i → Held tag t j → Held tag (set t i (zero_row w)) j
held_other tag w t i j ne h =
    let e = get_or-set_other t i j (zero_row w) [] ne in
    record {
      inside = rw (length-set t i (zero_row w)) h.inside;
      taken = rw e h.taken;
      tagged = rw e h.tagged;
    }

-- ---- a table out of bytes

pub flat-length : (w : ℕ) (t : Table) → All (λ r. length r ≡ w) t → length (flat t) ≡ w * length t
flat-length w [] a = omega arith
flat-length w (r ∷ rs) a = let e = flat-length w rs a.1 in let h = a.0 in length-append r (flat rs) ∙ omega arith

pub rows-flat : (w : ℕ) (t : Table) (rest : List ℕ) → All (λ r. length r ≡ w) t → rows w (length t) (flat t ++ rest) ≡ t
rows-flat w [] rest a = refl
rows-flat w (r ∷ rs) rest a =
    rw (append_assoc r (flat rs) rest, take_at r (flat rs ++ rest) w a.0, drop_at r (flat rs ++ rest) w a.0, rows-flat w rs rest a.1) refl

-- rows of zeros
pub rows_zero : (w n : ℕ) → flat (replicate n (zero_row w)) ≡ replicate (w * n) 0
rows_zero w zero = let e : 0 ≡ w * 0 = omega arith in ap (λ (k : ℕ). replicate k 0) e
rows_zero w (suc n) =
    let e : w + w * n ≡ w * suc n = omega arith in
    rw (rows_zero w n) (lib.ListN.replicate-append-replicate w (w * n) 0 ∙ ap (λ (k : ℕ). replicate k 0) e)

pub used_zero : (w n : ℕ) → used (replicate n (zero_row w)) ≡ []
used_zero w zero = refl
used_zero w (suc n) = rw (zero_free w) (used_zero w n)

pub all_replicate : (P : Row → Type 0) (n : ℕ) (r : Row) → P r → All P (replicate n r)
all_replicate P zero r h = tt
all_replicate P (suc n) r h = (h, all_replicate P n r h)

-- ---- pieces of bytes

pub rows-length : (w n : ℕ) (l : List ℕ) → length (rows w n l) ≡ n
rows-length w zero l = refl
rows-length w (suc n) l = ap suc (rows-length w n (drop w l))

pub rows_wide : (w n : ℕ) (l : List ℕ) → w * n ≤ length l → All (λ r. length r ≡ w) (rows w n l)
rows_wide w zero l h = tt
rows_wide w (suc n) l h =
    let d = lib.ListN.length-drop w l in
    (lib.Seq.length-take-le w l (omega arith), rows_wide w n (drop w l) (omega arith))
