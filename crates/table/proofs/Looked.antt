-- Rows looked at: in a table in form the used rows with a smaller tag are those before the first that isn't, so a walk that ends there
-- has looked at them and at that one; and they are never more than the used rows.
use Prim.Native.Nat.{ℕ, zero, suc, ◌+◌, ◌≤◌, ◌<◌}
use mathlib.Core.Path.{◌≡◌, refl, sym, ap, ◌∙◌}
use mathlib.Core.Bool.{Bool, true, false, not, ◌&&◌}
use mathlib.Core.List.{List, [], ◌∷◌}
use native.Mathlib.Nat.{not-suc-le-zero, le_of_suc-le-suc}
use native.Mathlib.Omega.{arith}
use lib.Dec.{ltb}
use lib.ListN.{length, get_or, take}
use borrow.Author.Tests.{lt-ltb, le-ltb, ltb-true, ltb-false}
use Rattle.table.specs.Lists.{bit, count}
use Rattle.table.specs.Table.{Row, Table, is_free, body}
use Rattle.table.specs.Order.{precedes, used_rows, Searchable}
use Rattle.table.specs.Search.{first_not_before}
use Rattle.table.specs.Looked.{smaller_rows, looked_at}
use Rattle.table.proofs.Counting.{count-le, count-select}
use Rattle.table.proofs.Rows.{zero_free}
use Rattle.table.proofs.Order.{rows_counted, form_true}
use Rattle.table.proofs.Search.{used_row, free_row, first_above, first_below, first_most}

-- exactly the first k pass
count_until : (q : Row → Bool) (t : Table) (k : ℕ) → k ≤ length t → ((i : ℕ) → i < k → q (get_or t i []) ≡ true)
    → ((i : ℕ) → k ≤ i → i < length t → q (get_or t i []) ≡ false) → count q t ≡ k
count_until q [] k h a b = omega arith
count_until q (r ∷ rs) zero h a b =
    rw (b 0 (omega arith) (omega arith))
    (omega (arith, count_until q rs zero (omega arith) (λ i l. absurd (not-suc-le-zero l)) (λ i l m. b (suc i) (omega arith) (omega arith))))
count_until q (r ∷ rs) (suc k) h a b =
    rw (a 0 (omega arith))
    (omega (arith, count_until q rs k (le_of_suc-le-suc h) (λ i l. a (suc i) (omega arith)) (λ i l m. b (suc i) (omega arith) (omega arith))))

smaller_most : (tag : List ℕ) (t : Table) → smaller_rows tag t ≤ length (used_rows t)
unfolding smaller_rows
smaller_most tag t =
    let before : Row → Bool = λ r. precedes (take 32 (body r)) tag in
    omega (arith, count-select (λ (r : Row). not (is_free r)) before t, count-le before (used_rows t))

-- never more than the used rows [02:W3.11]
pub looked_most : (tag : List ℕ) (t : Table) → looked_at tag t ≤ length (used_rows t)
unfolding looked_at
looked_most tag t = go (ltb (smaller_rows tag t) (length (used_rows t))) refl
  where
    go : (b : Bool) → ltb (smaller_rows tag t) (length (used_rows t)) ≡ b → smaller_rows tag t + bit b ≤ length (used_rows t)
    go true e = omega (arith, ltb-true (smaller_rows tag t) (length (used_rows t)) e)
    go false e = omega (arith, smaller_most tag t)

module _ (w u : ℕ) (t : Table) (s : Searchable w u t) (tag : List ℕ) (l : length tag ≡ 32) where
  abbrev before : Row → Bool
  before r = not (is_free r) && precedes (take (length tag) (body r)) tag

  smaller_before : (i : ℕ) → i < first_not_before tag t → before (get_or t i []) ≡ true
  smaller_before i h =
      let f = form_true w t s.form in
      let k : i < length (used_rows t) = omega (arith, first_most w t f s.marks tag) in
      rw (used_row w t f i k) (go (precedes (take (length tag) (body (get_or t i []))) tag) refl)
    where
      go : (b : Bool) → precedes (take (length tag) (body (get_or t i []))) tag ≡ b → b ≡ true
      go true e = refl
      go false e =
          let f = form_true w t s.form in
          absurd (omega (arith, first_most w t f s.marks tag, first_below w t f s.marks tag i (omega (arith, first_most w t f s.marks tag)) e))

  none_after : (i : ℕ) → first_not_before tag t ≤ i → i < length t → before (get_or t i []) ≡ false
  none_after i h k = go (ltb i (length (used_rows t))) refl
    where
      known : i < length (used_rows t) → (b : Bool) → precedes (take (length tag) (body (get_or t i []))) tag ≡ b → b ≡ false
      known n true e = absurd (omega (arith, first_above w t (form_true w t s.form) s.marks tag i n e))
      known n false e = refl

      go : (b : Bool) → ltb i (length (used_rows t)) ≡ b → before (get_or t i []) ≡ false
      go true e =
          let n = ltb-true i (length (used_rows t)) e in
          rw (used_row w t (form_true w t s.form) i n) (known n (precedes (take (length tag) (body (get_or t i []))) tag) refl)
      go false e =
          let f = ap is_free (free_row w t (form_true w t s.form) i (ltb-false i (length (used_rows t)) e) k) ∙ zero_free w in
          rw f refl

  -- the used rows with a smaller tag stand before the first that isn't smaller
  smaller_first : smaller_rows tag t ≡ first_not_before tag t
  unfolding smaller_rows
  smaller_first =
      ap (λ (k : ℕ). count (λ (r : Row). not (is_free r) && precedes (take k (body r)) tag) t) (sym l)
      ∙ count_until before t (first_not_before tag t) (omega (arith, first_most w t (form_true w t s.form) s.marks tag, rows_counted t)) smaller_before none_after

  -- a walk that ends at a used row, and one that ends after the last [02:W3.1 W3.2 W3.3]
  pub looked_here : (i : ℕ) → i ≡ first_not_before tag t → i < u → i + 1 ≡ looked_at tag t
  unfolding looked_at
  looked_here i e h =
      let n = s.number in
      let d = smaller_first in
      rw (lt-ltb (smaller_rows tag t) (length (used_rows t)) (omega arith)) (omega arith)

  pub looked_past : u ≡ first_not_before tag t → u ≡ looked_at tag t
  unfolding looked_at
  looked_past e =
      let n = s.number in
      let d = smaller_first in
      rw (le-ltb (smaller_rows tag t) (length (used_rows t)) (omega arith)) (omega arith)
