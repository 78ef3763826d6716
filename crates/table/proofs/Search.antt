-- Laws of search in a table in form whose used rows all have mark 1: the rows that do not come before a key begin where a search by
-- halves ends, those that start with the key stand together from there on, and so a search finds what a lookup finds.
use Prim.Native.Nat.{ℕ, zero, suc, ◌+◌, ◌-◌, ◌≤◌, ◌<◌}
use mathlib.Core.Path.{◌≡◌, refl, sym, ap, ◌∙◌}
use mathlib.Core.Bool.{Bool, true, false, cond, not, ◌&&◌, ◌||◌, true≢false}
use mathlib.Core.Logic.{◌⊎◌, inl, inr}
use mathlib.Core.List.{List, [], ◌∷◌, ◌++◌}
use native.Mathlib.Nat.{not-suc-le-zero, le_of_suc-le-suc}
use native.Mathlib.Omega.{arith}
use lib.Dec.{eqb, ltb}
use lib.ListN.{length, get_or, take, replicate, get_or-append, get_or-replicate}
use lib.Seq.{get_or-append-add}
use borrow.Author.Tests.{eq-eqb, ltb-true, ltb-false}
use Rattle.table.specs.Lists.{same}
use Rattle.table.specs.Table.{Row, Table, is_free, mark_of, mark_bad, body, free_rows, index_of, place_of, zero_row}
use Rattle.table.specs.Order.{precedes, used_rows}
use Rattle.table.specs.Search.{not_before, first_not_before}
use Rattle.table.proofs.Counting.{both, neither, same_true, same-eq, ne_same}
use Rattle.table.proofs.Rows.{zero_free, all_at, index_holds}
use Rattle.table.proofs.Order.{precedes_self, neither_before, not_before_trans, Ascending, none_all, Used, used_all, rows_counted, InForm}

-- ---- the order of parts

pub take-precedes : (k : ℕ) (a b : List ℕ) → precedes (take k a) (take k b) ≡ true → precedes a b ≡ true
take-precedes zero a b e = absurd (true≢false (sym e))
take-precedes (suc k) a [] e = e
take-precedes (suc k) [] (y ∷ ys) e = refl
take-precedes (suc k) (x ∷ xs) (y ∷ ys) e = go (ltb x y) (eqb x y) e (take-precedes k xs ys)
  where
    go : (l m : Bool) → (l || (m && precedes (take k xs) (take k ys))) ≡ true → (precedes (take k xs) (take k ys) ≡ true → precedes xs ys ≡ true) → (l || (m && precedes xs ys)) ≡ true
    go true m e h = refl
    go false true e h = h e
    go false false e h = e

not_before_take : (k : ℕ) (a b : List ℕ) → precedes a b ≡ false → precedes (take k a) (take k b) ≡ false
not_before_take k a b e = go (precedes (take k a) (take k b)) refl
  where
    go : (c : Bool) → precedes (take k a) (take k b) ≡ c → c ≡ false
    go true f = absurd (true≢false (sym (take-precedes k a b f) ∙ e))
    go false f = refl

-- rows with one mark are in the order of their bodies
body_order : (a b : Row) → mark_of a ≡ 1 → mark_of b ≡ 1 → precedes a b ≡ false → precedes (body a) (body b) ≡ false
body_order [] b h k e = absurd (omega arith)
body_order (x ∷ xs) [] h k e = refl
body_order (x ∷ xs) (y ∷ ys) h k e =
    let g = neither (ltb x y) (eqb x y && precedes xs ys) e in
    (rw (eq-eqb x y (h ∙ sym k)) at g.1)

pub ascending_at : (l : List Row) (i j : ℕ) → Ascending l → i ≤ j → j < length l → precedes (get_or l j []) (get_or l i []) ≡ false
ascending_at [] i j a h k = absurd (not-suc-le-zero k)
ascending_at (r ∷ rs) zero zero a h k = precedes_self r
ascending_at (r ∷ rs) zero (suc j) a h k = all_at (λ s. precedes s r ≡ false) rs j (le_of_suc-le-suc k) a.0
ascending_at (r ∷ rs) (suc i) zero a h k = absurd (not-suc-le-zero h)
ascending_at (r ∷ rs) (suc i) (suc j) a h k = ascending_at rs i j a.1 (le_of_suc-le-suc h) (le_of_suc-le-suc k)

-- ---- the first index that passes

pub index_le : (q : Row → Bool) (t : Table) (i : ℕ) → i < length t → q (get_or t i []) ≡ true → index_of q t ≤ i
index_le q [] i h e = absurd (not-suc-le-zero h)
index_le q (r ∷ rs) zero h e = rw e (omega arith)
index_le q (r ∷ rs) (suc i) h e = go (q r) (index_le q rs i (le_of_suc-le-suc h) e)
  where
    go : (b : Bool) → index_of q rs ≤ i → cond b zero (suc (index_of q rs)) ≤ suc i
    go true k = omega arith
    go false k = omega arith

pub index_most : (q : Row → Bool) (t : Table) → index_of q t ≤ length t
index_most q [] = omega arith
index_most q (r ∷ rs) = go (q r) (index_most q rs)
  where
    go : (b : Bool) → index_of q rs ≤ length rs → cond b zero (suc (index_of q rs)) ≤ suc (length rs)
    go true k = omega arith
    go false k = omega arith

index_before : (q : Row → Bool) (t : Table) (i : ℕ) → i < index_of q t → q (get_or t i []) ≡ false
index_before q t i h = go (q (get_or t i [])) refl
  where
    go : (b : Bool) → q (get_or t i []) ≡ b → b ≡ false
    go true e = absurd (omega (arith, index_most q t, index_le q t i (omega (arith, index_most q t)) e))
    go false e = refl

-- none before i passes: i, where it passes
pub index_is : (q : Row → Bool) (t : Table) (i : ℕ) → ((j : ℕ) → j < i → q (get_or t j []) ≡ false) → i < length t → q (get_or t i []) ≡ true → index_of q t ≡ i
index_is q t i fail h e = go (ltb (index_of q t) i) refl
  where
    l : index_of q t ≤ i
    l = index_le q t i h e

    go : (b : Bool) → ltb (index_of q t) i ≡ b → index_of q t ≡ i
    go true b = let k = ltb-true (index_of q t) i b in absurd (true≢false (sym (index_holds q t (omega (arith, l))) ∙ fail (index_of q t) k))
    go false b = omega (arith, l, ltb-false (index_of q t) i b)

-- none passes
index_none : (q : Row → Bool) (t : Table) → ((j : ℕ) → j < length t → q (get_or t j []) ≡ false) → index_of q t ≡ length t
index_none q t fail = go (ltb (index_of q t) (length t)) refl
  where
    go : (b : Bool) → ltb (index_of q t) (length t) ≡ b → index_of q t ≡ length t
    go true b = let k = ltb-true (index_of q t) (length t) b in absurd (true≢false (sym (index_holds q t k) ∙ fail (index_of q t) k))
    go false b = omega (arith, index_most q t, ltb-false (index_of q t) (length t) b)

-- ---- a table in form

below_or : (i u : ℕ) → (i < u) ⊎ (u ≤ i)
below_or i u = go (ltb i u) refl
  where
    go : (b : Bool) → ltb i u ≡ b → (i < u) ⊎ (u ≤ i)
    go true e = inl (ltb-true i u e)
    go false e = inr (ltb-false i u e)

-- a used row starts with a key
abbrev pub starts_with : List ℕ → Row → Bool
starts_with key r = not (is_free r) && same (take (length key) (body r)) key

module _ (w : ℕ) (t : Table) (f : InForm w t) where
  pub used_at : (i : ℕ) → i < length (used_rows t) → get_or t i [] ≡ get_or (used_rows t) i []
  used_at i h = ap (λ (l : Table). get_or l i []) f.filled ∙ get_or-append (used_rows t) (replicate (free_rows t) (zero_row w)) [] i h

  pub used_row : (i : ℕ) → i < length (used_rows t) → is_free (get_or t i []) ≡ false
  used_row i h = ap is_free (used_at i h) ∙ all_at Used (used_rows t) i h (used_all t)

  pub free_row : (i : ℕ) → length (used_rows t) ≤ i → i < length t → get_or t i [] ≡ zero_row w
  free_row i h k =
      let c = rows_counted t in
      let d : length (used_rows t) + (i - length (used_rows t)) ≡ i = omega arith in
      ap (λ (l : Table). get_or l i []) f.filled ∙ ap (λ (j : ℕ). get_or (used_rows t ++ replicate (free_rows t) (zero_row w)) j []) (sym d)
      ∙ get_or-append-add (used_rows t) (replicate (free_rows t) (zero_row w)) (i - length (used_rows t)) []
      ∙ get_or-replicate (free_rows t) (i - length (used_rows t)) (zero_row w) [] (omega arith)

  is_free_lem : (i : ℕ) → length (used_rows t) ≤ i → i < length t → is_free (get_or t i []) ≡ true
  is_free_lem i h k = ap is_free (free_row i h k) ∙ zero_free w

  module _ (m : mark_bad 1 t ≡ false) where
    mark_one : (i : ℕ) → i < length (used_rows t) → mark_of (get_or t i []) ≡ 1
    mark_one i h =
        let c = rows_counted t in
        go (mark_of (get_or t i [])) (used_row i h) (ltb-false 1 (mark_of (get_or t i [])) (all_at (λ r. ltb 1 (mark_of r) ≡ false) t i (omega arith) (none_all (λ r. ltb 1 (mark_of r)) t m)))
      where
        go : (x : ℕ) → eqb x 0 ≡ false → x ≤ 1 → x ≡ 1
        go zero e k = absurd (true≢false e)
        go (suc x) e k = omega arith

    -- used rows' bodies, as far as a key goes, ascend
    pub parts_ascend : (k i j : ℕ) → i ≤ j → j < length (used_rows t) → precedes (take k (body (get_or t j []))) (take k (body (get_or t i []))) ≡ false
    parts_ascend k i j h l =
        let o : precedes (get_or t j []) (get_or t i []) ≡ false = rw (used_at j l, used_at i (omega arith)) (ascending_at (used_rows t) i j f.order h l) in
        not_before_take k (body (get_or t j [])) (body (get_or t i [])) (body_order (get_or t j []) (get_or t i []) (mark_one j l) (mark_one i (omega arith)) o)

    module _ (key : List ℕ) where
      holds : (i : ℕ) → precedes (take (length key) (body (get_or t i []))) key ≡ false → not_before key (get_or t i []) ≡ true
      holds i e = rw e (go (is_free (get_or t i [])))
        where
          go : (b : Bool) → (b || true) ≡ true
          go true = refl
          go false = refl

      fails : (i : ℕ) → i < length (used_rows t) → precedes (take (length key) (body (get_or t i []))) key ≡ true → not_before key (get_or t i []) ≡ false
      fails i h e = rw (used_row i h, e) refl

      not_before_lem : (i : ℕ) → i < length (used_rows t) → not_before key (get_or t i []) ≡ true → precedes (take (length key) (body (get_or t i []))) key ≡ false
      not_before_lem i h e = go (precedes (take (length key) (body (get_or t i []))) key) refl
        where
          go : (b : Bool) → precedes (take (length key) (body (get_or t i []))) key ≡ b → b ≡ false
          go true b = absurd (true≢false (sym e ∙ fails i h b))
          go false b = refl

      later : (i j : ℕ) → i ≤ j → j < length (used_rows t) → precedes (take (length key) (body (get_or t i []))) key ≡ false → precedes (take (length key) (body (get_or t j []))) key ≡ false
      later i j h l e =
          not_before_trans key (take (length key) (body (get_or t i []))) (take (length key) (body (get_or t j []))) e (parts_ascend (length key) i j h l)

      -- a row before the key is before the first; a row not before it is not
      pub first_above : (i : ℕ) → i < length (used_rows t) → precedes (take (length key) (body (get_or t i []))) key ≡ true → i < first_not_before key t
      unfolding first_not_before
      first_above i h e = go (below_or i (index_of (not_before key) t))
        where
          go : (i < index_of (not_before key) t) ⊎ (index_of (not_before key) t ≤ i) → i < index_of (not_before key) t
          go (inl k) = k
          go (inr k) =
              let c = rows_counted t in
              let p = index_holds (not_before key) t (omega arith) in
              absurd (true≢false (sym e ∙ later (index_of (not_before key) t) i k h (not_before_lem (index_of (not_before key) t) (omega arith) p)))

      pub first_below : (i : ℕ) → i < length (used_rows t) → precedes (take (length key) (body (get_or t i []))) key ≡ false → first_not_before key t ≤ i
      unfolding first_not_before
      first_below i h e = index_le (not_before key) t i (omega (arith, rows_counted t)) (holds i e)

      pub first_most : first_not_before key t ≤ length (used_rows t)
      unfolding first_not_before
      first_most = go (below_or (length (used_rows t)) (length t))
        where
          go : (length (used_rows t) < length t) ⊎ (length t ≤ length (used_rows t)) → index_of (not_before key) t ≤ length (used_rows t)
          go (inl h) = index_le (not_before key) t (length (used_rows t)) h (rw (is_free_lem (length (used_rows t)) (omega arith) h) refl)
          go (inr h) = omega (arith, index_most (not_before key) t)

      -- no row before the first starts with the key
      pub starts_before : (i : ℕ) → i < first_not_before key t → starts_with key (get_or t i []) ≡ false
      unfolding first_not_before
      starts_before i h = go (starts_with key (get_or t i [])) refl
        where
          go : (b : Bool) → starts_with key (get_or t i []) ≡ b → b ≡ false
          go true b =
              let s = both (not (is_free (get_or t i []))) (same (take (length key) (body (get_or t i []))) key) b in
              let e = same_true (take (length key) (body (get_or t i []))) key s.1 in
              let p : precedes (take (length key) (body (get_or t i []))) key ≡ false = rw e (precedes_self key) in
              absurd (true≢false (sym (holds i p) ∙ index_before (not_before key) t i h))
          go false b = refl

      -- nor any from one on that does not
      pub starts_after : (i j : ℕ) → first_not_before key t ≤ i → starts_with key (get_or t i []) ≡ false → i ≤ j → j < length t → starts_with key (get_or t j []) ≡ false
      unfolding first_not_before
      starts_after i j h n l k = go (below_or j (length (used_rows t)))
        where
          own : (i : ℕ) → i < length (used_rows t) → starts_with key (get_or t i []) ≡ same (take (length key) (body (get_or t i []))) key
          own i h = rw (used_row i h) refl

          go : (j < length (used_rows t)) ⊎ (length (used_rows t) ≤ j) → starts_with key (get_or t j []) ≡ false
          go (inr g) = rw (is_free_lem j g k) refl
          go (inl g) =
              let o = parts_ascend (length key) i j l g in
              let c = rows_counted t in
              let F : ℕ = index_of (not_before key) t in
              let p : precedes (take (length key) (body (get_or t i []))) key ≡ false =
              later F i h (omega arith) (not_before_lem F (omega arith) (index_holds (not_before key) t (omega arith))) in
              own j g ∙ ne_same (take (length key) (body (get_or t j []))) key (λ e.
              let q : precedes key (take (length key) (body (get_or t i []))) ≡ false = (rw e at o) in
              let z : take (length key) (body (get_or t i [])) ≡ key = neither_before (take (length key) (body (get_or t i []))) key p q in
              true≢false (sym (same-eq (take (length key) (body (get_or t i []))) key z) ∙ sym (own i (omega arith)) ∙ n))

      -- search equals lookup: the first row with the key is the first that is not before it, or there is none
      pub search_found : starts_with key (get_or t (first_not_before key t) []) ≡ true → first_not_before key t < length t → index_of (starts_with key) t ≡ first_not_before key t
      search_found e h = index_is (starts_with key) t (first_not_before key t) starts_before h e

      pub search_none : first_not_before key t < length t → starts_with key (get_or t (first_not_before key t) []) ≡ false → index_of (starts_with key) t ≡ length t
      search_none h e = index_none (starts_with key) t (λ j l. go j l (below_or j (first_not_before key t)))
        where
          go : (j : ℕ) → j < length t → (j < first_not_before key t) ⊎ (first_not_before key t ≤ j) → starts_with key (get_or t j []) ≡ false
          go j l (inl g) = starts_before j g
          go j l (inr g) = starts_after (first_not_before key t) j (omega arith) e g l

      pub search_past : length (used_rows t) ≤ first_not_before key t → index_of (starts_with key) t ≡ length t
      search_past h = index_none (starts_with key) t (λ j l. go j l (below_or j (first_not_before key t)))
        where
          go : (j : ℕ) → j < length t → (j < first_not_before key t) ⊎ (first_not_before key t ≤ j) → starts_with key (get_or t j []) ≡ false
          go j l (inl g) = starts_before j g
          go j l (inr g) = rw (is_free_lem j (omega arith) l) refl

-- a tag's place, as the first row that starts with it
pub place_starts : (tag : List ℕ) (t : Table) → length tag ≡ 32 → place_of tag t ≡ index_of (starts_with tag) t
unfolding place_of
place_starts tag t e = ap (λ (k : ℕ). index_of (λ r. not (is_free r) && same (take k (body r)) tag) t) (sym e)
