-- Flags set by one test after another leave the ids that pass all of them; and the loops go over the ids one by one.
use Prim.Native.Nat.{ℕ, zero, suc, ◌+◌, ◌*◌, ◌%◌, ◌≤◌, ◌<◌}
use mathlib.Core.Path.{◌≡◌, refl, sym, ap, ap₂, ◌∙◌}
use mathlib.Core.Bool.{Bool, true, false, cond, ◌&&◌}
use mathlib.Core.List.{List, [], ◌∷◌, ◌++◌, append-nil, append_assoc}
use native.Mathlib.Nat.{not-suc-le-zero}
use native.Mathlib.Numerals.{add-one}
use native.Mathlib.Omega.{arith}
use lib.Dec.{eqb}
use lib.ListN.{length, get_or, set, take, drop, replicate, length-append}
use lib.Seq.{take-suc, drop-cons}
use Rattle.std.specs.List.{count_by}
use Rattle.std.proofs.lemmas.List.Recursion.{is_count_by}
use Rattle.octets.specs.Part.{written}
use Rattle.octets.proofs.Parts.{written_none, written_more}
use Rattle.table.specs.Lists.{bit, select, count, all_of, flat}
use Rattle.table.specs.Table.{Table}
use Rattle.table.proofs.Counting.{count-append}
use Rattle.table.proofs.Below.{flat_append}
use Rattle.hmac.specs.declared.Keyed.{Keyed}
use Rattle.chains.specs.Chains.{id_by, row_at, kept_ids}
use Rattle.chains.proofs.Chains.{RowsM, id_wide}
use Rattle.chains.proofs.Kept.{kept_length}
use Rattle.sifting.specs.Sifting.{flag_of, sifted, sifted_by, stays, staying, unset}

-- ---- what stays

pub sifted-length : (q : List ℕ → Bool) (xs : List (List ℕ)) (fs : List ℕ) → length (sifted q xs fs) ≡ length fs
sifted-length q [] fs = refl
sifted-length q (x ∷ xs) [] = refl
sifted-length q (x ∷ xs) (f ∷ fs) = ap suc (sifted-length q xs fs)

-- no flag is set
pub staying_all : (xs : List (List ℕ)) (k : ℕ) → length xs ≤ k → staying xs (replicate k 0) ≡ xs
unfolding stays
staying_all [] k h = refl
staying_all (x ∷ xs) zero h = absurd (not-suc-le-zero h)
staying_all (x ∷ xs) (suc k) h = ap (λ (l : List (List ℕ)). x ∷ l) (staying_all xs k (omega arith))

-- those that a test says no to go
pub staying-sifted : (q : List ℕ → Bool) (xs : List (List ℕ)) (fs : List ℕ) → staying xs (sifted q xs fs) ≡ select q (staying xs fs)
unfolding stays flag_of
staying-sifted q [] fs = refl
staying-sifted q (x ∷ xs) [] = refl
staying-sifted q (x ∷ xs) (f ∷ fs) = go (eqb f 0) (q x) refl refl (staying-sifted q xs fs)
  where
    go : (a b : Bool) → eqb f 0 ≡ a → q x ≡ b → staying xs (sifted q xs fs) ≡ select q (staying xs fs)
        → stays (cond a (cond b 0 1) f) x ++ staying xs (sifted q xs fs) ≡ select q (cond a (x ∷ []) [] ++ staying xs fs)
    go true true ea eb k = rw eb (ap (λ (l : List (List ℕ)). x ∷ l) k)
    go true false ea eb k = rw eb k
    go false b ea eb k = rw ea k

select_both : (p q : List ℕ → Bool) (xs : List (List ℕ)) → select p (select q xs) ≡ select (λ x. q x && p x) xs
select_both p q [] = refl
select_both p q (x ∷ xs) = go (q x) (p x) refl (select_both p q xs)
  where
    go : (a b : Bool) → p x ≡ b → select p (select q xs) ≡ select (λ x. q x && p x) xs
        → select p (cond a (x ∷ select q xs) (select q xs)) ≡ cond (a && b) (x ∷ select (λ x. q x && p x) xs) (select (λ x. q x && p x) xs)
    go true true e k = rw e (ap (λ (l : List (List ℕ)). x ∷ l) k)
    go true false e k = rw e k
    go false b e k = k

select_every : (xs : List (List ℕ)) → select (λ x. true) xs ≡ xs
select_every [] = refl
select_every (x ∷ xs) = ap (λ (l : List (List ℕ)). x ∷ l) (select_every xs)

-- after several tests: those that pass all
pub staying_by : (tests : List ℕ → List ℕ → Bool) (xs ps : List (List ℕ)) (fs : List ℕ) → staying xs (sifted_by tests xs ps fs) ≡ select (λ x. all_of (λ p. tests p x) ps) (staying xs fs)
staying_by tests xs [] fs = sym (select_every (staying xs fs))
staying_by tests xs (p ∷ ps) fs =
    staying_by tests xs ps (sifted (tests p) xs fs) ∙ ap (select (λ x. all_of (λ p. tests p x) ps)) (staying-sifted (tests p) xs fs)
    ∙ select_both (λ x. all_of (λ p. tests p x) ps) (tests p) (staying xs fs)

pub sifted_by-length : (tests : List ℕ → List ℕ → Bool) (xs ps : List (List ℕ)) (fs : List ℕ) → length (sifted_by tests xs ps fs) ≡ length fs
sifted_by-length tests xs [] fs = refl
sifted_by-length tests xs (p ∷ ps) fs = sifted_by-length tests xs ps (sifted (tests p) xs fs) ∙ sifted-length (tests p) xs fs

pub sifted_by_both : (tests : List ℕ → List ℕ → Bool) (xs ps qs : List (List ℕ)) (fs : List ℕ) → sifted_by tests xs qs (sifted_by tests xs ps fs) ≡ sifted_by tests xs (ps ++ qs) fs
sifted_by_both tests xs [] qs fs = refl
sifted_by_both tests xs (p ∷ ps) qs fs = sifted_by_both tests xs ps qs (sifted (tests p) xs fs)

-- how many flags are not set, by std's word
pub unset_is : (n : ℕ) (fs : List ℕ) → unset n fs ≡ count_by (λ f. eqb f 0) (take n fs)
unfolding unset
unset_is n fs = is_count_by (count (λ f. eqb f 0)) (λ f. eqb f 0) refl (λ x xs. go (eqb x 0) (count (λ f. eqb f 0) xs)) (take n fs)
  where
    go : (b : Bool) (k : ℕ) → bit b + k ≡ cond b (1 + k) k
    go true k = refl
    go false k = let e : 0 + k ≡ k = omega arith in e

-- as many as flags that are not set
pub staying-length : (xs : List (List ℕ)) (fs : List ℕ) → length (staying xs fs) ≡ unset (length xs) fs
unfolding unset stays
staying-length [] fs = refl
staying-length (x ∷ xs) [] = refl
staying-length (x ∷ xs) (f ∷ fs) = go (eqb f 0) (staying-length xs fs)
  where
    go : (a : Bool) → length (staying xs fs) ≡ unset (length xs) fs → length (cond a (x ∷ []) [] ++ staying xs fs) ≡ bit a + unset (length xs) fs
    go true k = ap suc k ∙ omega arith
    go false k = k ∙ omega arith

-- ---- one id more

pub sifted_end : (q : List ℕ → Bool) (xs : List (List ℕ)) (x : List ℕ) (fs : List ℕ) → length xs < length fs
    → sifted q (xs ++ (x ∷ [])) fs ≡ set (sifted q xs fs) (length xs) (flag_of q x (get_or (sifted q xs fs) (length xs) 0))
sifted_end q [] x [] h = absurd (not-suc-le-zero h)
sifted_end q [] x (f ∷ fs) h = refl
sifted_end q (y ∷ ys) x [] h = absurd (not-suc-le-zero h)
sifted_end q (y ∷ ys) x (f ∷ fs) h = ap (λ (l : List ℕ). flag_of q y f ∷ l) (sifted_end q ys x fs (omega arith))

staying_end : (xs : List (List ℕ)) (x : List ℕ) (fs : List ℕ) → length xs < length fs → staying (xs ++ (x ∷ [])) fs ≡ staying xs fs ++ stays (get_or fs (length xs) 0) x
staying_end [] x [] h = absurd (not-suc-le-zero h)
staying_end [] x (f ∷ fs) h = append-nil (stays f x)
staying_end (y ∷ ys) x [] h = absurd (not-suc-le-zero h)
staying_end (y ∷ ys) x (f ∷ fs) h =
    ap (λ (l : List (List ℕ)). stays f y ++ l) (staying_end ys x fs (omega arith)) ∙ sym (append_assoc (stays f y) (staying ys fs) (stays (get_or fs (length ys) 0) x))

pub unset_next : (fs : List ℕ) (i : ℕ) → i < length fs → unset (i + 1) fs ≡ unset i fs + bit (eqb (get_or fs i 0) 0)
unfolding unset
unset_next fs i h =
    ap (λ (k : ℕ). count (λ f. eqb f 0) (take k fs)) (add-one i) ∙ ap (count (λ f. eqb f 0)) (take-suc fs i 0 h) ∙ count-append (λ f. eqb f 0) (take i fs) (get_or fs i 0 ∷ []) ∙ omega arith

pub unset_more : (fs : List ℕ) (n i : ℕ) → i ≤ n → unset i fs ≤ unset n fs
unfolding unset
unset_more fs n zero h = omega arith
unset_more [] n (suc i) h = omega arith
unset_more (f ∷ fs) zero (suc i) h = absurd (not-suc-le-zero h)
unset_more (f ∷ fs) (suc n) (suc i) h = let k = unset_more fs n i (omega arith) in omega arith

module _ (me : Keyed) (t : Table) (index : List ℕ) where
  -- the id of number i
  abbrev id_of : ℕ → List ℕ
  id_of i = id_by me t (row_at index i)

  kept_next : (i : ℕ) → kept_ids me t index (i + 1) ≡ kept_ids me t index i ++ (id_of i ∷ [])
  unfolding kept_ids
  kept_next i = rw (add-one i) refl

  -- the flags of the first i ids are those after the test
  pub sift_none : (q : List ℕ → Bool) (fs : List ℕ) → fs ≡ sifted q (kept_ids me t index 0) fs
  unfolding kept_ids
  sift_none q fs = refl

  pub sift_next : (q : List ℕ → Bool) (fs₀ fs : List ℕ) (i f : ℕ) → fs ≡ sifted q (kept_ids me t index i) fs₀ → i < length fs₀ → f ≡ flag_of q (id_of i) (get_or fs i 0)
      → set fs i f ≡ sifted q (kept_ids me t index (i + 1)) fs₀
  sift_next q fs₀ fs i f e h g =
      let n = kept_length me t index i in
      ap₂ (λ (l : List ℕ) (v : ℕ). set l i v) e (g ∙ ap (λ (l : List ℕ). flag_of q (id_of i) (get_or l i 0)) e)
      ∙ ap (λ (k : ℕ). set (sifted q (kept_ids me t index i) fs₀) k (flag_of q (id_of i) (get_or (sifted q (kept_ids me t index i) fs₀) k 0))) (sym n)
      ∙ sym (sifted_end q (kept_ids me t index i) (id_of i) fs₀ (omega arith)) ∙ ap (λ (l : List (List ℕ)). sifted q l fs₀) (sym (kept_next i))

  -- of the first i ids those that stay were written over o₀
  pub record Wrote (fs o₀ : List ℕ) (i k : ℕ) (o : List ℕ) : Type 0 where
    pub bytes : o ≡ written o₀ 0 (flat (staying (kept_ids me t index i) fs))
    pub wide : length (flat (staying (kept_ids me t index i) fs)) ≡ 16 * k
    pub place : k ≡ unset i fs

  pub wrote_none : (fs o : List ℕ) → Wrote fs o 0 0 o
  unfolding kept_ids unset
  wrote_none fs o = record { bytes = sym (written_none o 0); wide = refl; place = refl }

  -- the next id, if it stays
  pub stays-length : (f i : ℕ) → length (stays f (id_of i)) ≡ bit (eqb f 0)
  unfolding stays
  stays-length f i = go (eqb f 0)
    where
      go : (a : Bool) → length (cond a (id_of i ∷ []) []) ≡ bit a
      go true = refl
      go false = refl

  stays_wide : (f i : ℕ) → length (id_of i) ≡ 16 → length (flat (stays f (id_of i))) ≡ 16 * length (stays f (id_of i))
  unfolding stays
  stays_wide f i h = go (eqb f 0)
    where
      go : (a : Bool) → length (flat (cond a (id_of i ∷ []) [])) ≡ 16 * length (cond a (id_of i ∷ []) [])
      go true = ap length (append-nil (id_of i)) ∙ h
      go false = refl

  pub wrote_next : (fs o₀ : List ℕ) (i k : ℕ) (o : List ℕ) → RowsM t → row_at index i % 4096 < length t → i < length fs → Wrote fs o₀ i k o
      → (k' : ℕ) → k' ≡ k + length (stays (get_or fs i 0) (id_of i)) → (o' : List ℕ) → o' ≡ written o (16 * k) (flat (stays (get_or fs i 0) (id_of i))) → Wrote fs o₀ (i + 1) k' o'
  wrote_next fs o₀ i k o w h l x k' e o' f =
      let n = kept_length me t index i in
      let front = staying (kept_ids me t index i) fs in
      let more = stays (get_or fs i 0) (id_of i) in
      let next : staying (kept_ids me t index (i + 1)) fs ≡ front ++ more =
      ap (λ (y : List (List ℕ)). staying y fs) (kept_next i) ∙ staying_end (kept_ids me t index i) (id_of i) fs (omega arith) ∙ ap (λ (j : ℕ). front ++ stays (get_or fs j 0) (id_of i)) n in
      let flats : flat (staying (kept_ids me t index (i + 1)) fs) ≡ flat front ++ flat more = ap flat next ∙ flat_append front more in
      let at : 16 * k ≡ 0 + length (flat front) = omega (arith, x.wide) in record {
        bytes = f ∙ ap₂ (λ (y : List ℕ) (j : ℕ). written y j (flat more)) x.bytes at ∙ written_more o₀ (flat front) (flat more) 0 (omega arith) ∙ ap (written o₀ 0) (sym flats);
        wide = ap length flats ∙ length-append (flat front) (flat more) ∙ omega (arith, x.wide, stays_wide (get_or fs i 0) i (id_wide me t (row_at index i) w h));
        place = e ∙ omega (arith, x.place, stays-length (get_or fs i 0) i, unset_next fs i l);
      }

-- the parts from i on are left
pub parts_next : (tests : List ℕ → List ℕ → Bool) (xs ps : List (List ℕ)) (i : ℕ) (fs : List ℕ) → i < length ps
    → sifted_by tests xs (drop i ps) fs ≡ sifted_by tests xs (drop (i + 1) ps) (sifted (tests (get_or ps i [])) xs fs)
parts_next tests xs ps i fs h = ap (λ (l : List (List ℕ)). sifted_by tests xs l fs) (drop-cons ps i [] h) ∙ ap (λ (k : ℕ). sifted_by tests xs (drop k ps) (sifted (tests (get_or ps i [])) xs fs)) (sym (add-one i))
