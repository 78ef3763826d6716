-- A table that gives up rows at places for one row is in form again.
use Prim.Native.Nat.{ℕ, zero, suc, ◌+◌, ◌≤◌, ◌<◌}
use mathlib.Core.Path.{◌≡◌, refl, sym, ap, ◌∙◌}
use mathlib.Core.Bool.{Bool, true, false, cond, not}
use mathlib.Core.List.{List, [], ◌∷◌}
use native.Mathlib.Nat.{not-suc-le-zero, le_of_suc-le-suc}
use native.Mathlib.Numerals.{add-one}
use native.Mathlib.Omega.{arith}
use lib.ListN.{length, get_or, take, set, replicate, length-set}
use lib.Seq.{take-suc, get_or-take, length-take-le}
use Rattle.table.specs.Lists.{All}
use Rattle.table.specs.Table.{Row, Table, is_free, free_rows, zero_row, free_at}
use Rattle.table.specs.Order.{used_rows, in_form, reordered, with_rows, Searchable}
use Rattle.table.proofs.Counting.{same_length}
use Rattle.table.proofs.Rows.{zero_free, free_at-length}
use Rattle.table.proofs.Order.{InForm, Used, form_true, true_form, rows_counted}
use Rattle.table.proofs.Arranging.{with_rows_lem, with_same, reordered-length, reordered-Same, reordered_in_form}
use Rattle.closing.specs.Flags.{flagged_at, free_flagged}
use Rattle.closing.proofs.Flags.{flagged_at-append, free_flagged_places}

-- ---- the first k places

all_at : (P : ℕ → Type 0) (l : List ℕ) (i : ℕ) → All P l → i < length l → P (get_or l i 0)
all_at P [] i a h = absurd (not-suc-le-zero h)
all_at P (x ∷ xs) zero a h = a.0
all_at P (x ∷ xs) (suc i) a h = all_at P xs i a.1 (le_of_suc-le-suc h)

module _ (places : List ℕ) (k j : ℕ) (long : k ≤ length places) (h : j < k) where
  pub place_at : (c : ℕ) → All (λ i. i < c) (take k places) → get_or places j 0 < c
  place_at c a = rw (← get_or-take k places j 0 h) (all_at (λ i. i < c) (take k places) j a (rw (length-take-le k places long) h))

  -- one flag more
  pub flag_turn : (fs₀ fs : List ℕ) → fs ≡ flagged_at (take j places) fs₀ → set fs (get_or places j 0) 1 ≡ flagged_at (take (j + 1) places) fs₀
  flag_turn fs₀ fs e =
      ap (λ (x : List ℕ). set x (get_or places j 0) 1) e ∙ sym (flagged_at-append (take j places) (get_or places j 0 ∷ []) fs₀)
      ∙ ap (λ (x : List ℕ). flagged_at x fs₀) (sym (take-suc places j 0 (omega arith)) ∙ ap (λ (n : ℕ). take n places) (sym (add-one j)))

-- ---- rows given up for one row

used_less : (w : ℕ) (t : Table) (i : ℕ) → i < length t → Used (get_or t i []) → length (used_rows t) ≡ suc (length (used_rows (set t i (zero_row w))))
used_less w [] i h e = absurd (not-suc-le-zero h)
used_less w (r ∷ rs) zero h e = rw (e, zero_free w) refl
used_less w (r ∷ rs) (suc i) h e = go (is_free r) (used_less w rs i (le_of_suc-le-suc h) e)
  where
    go : (b : Bool) → length (used_rows rs) ≡ suc (length (used_rows (set rs i (zero_row w))))
        → length (cond (not b) (r ∷ used_rows rs) (used_rows rs)) ≡ suc (length (cond (not b) (r ∷ used_rows (set rs i (zero_row w))) (used_rows (set rs i (zero_row w)))))
    go true k = k
    go false k = ap suc k

free_there : (t : Table) (i : ℕ) → i < length t → is_free (get_or t i []) ≡ true → 1 ≤ free_rows t
free_there [] i h e = absurd (not-suc-le-zero h)
free_there (r ∷ rs) zero h e = rw e (omega arith)
free_there (r ∷ rs) (suc i) h e = omega (arith, free_there rs i (le_of_suc-le-suc h) e)

set_free : (w : ℕ) (t : Table) (i : ℕ) → i < length t → is_free (get_or (set t i (zero_row w)) i []) ≡ true
set_free w [] i h = absurd (not-suc-le-zero h)
set_free w (r ∷ rs) zero h = zero_free w
set_free w (r ∷ rs) (suc i) h = set_free w rs i (le_of_suc-le-suc h)

stays_free : (w : ℕ) (t : Table) (i j : ℕ) → is_free (get_or t i []) ≡ true → is_free (get_or (set t j (zero_row w)) i []) ≡ true
stays_free w [] i j e = e
stays_free w (r ∷ rs) zero zero e = zero_free w
stays_free w (r ∷ rs) zero (suc j) e = e
stays_free w (r ∷ rs) (suc i) zero e = e
stays_free w (r ∷ rs) (suc i) (suc j) e = stays_free w rs i j e

all_free : (w : ℕ) (is : List ℕ) (t : Table) (i : ℕ) → is_free (get_or t i []) ≡ true → is_free (get_or (free_at w is t) i []) ≡ true
all_free w [] t i e = e
all_free w (j ∷ js) t i e = all_free w js (set t j (zero_row w)) i (stays_free w t i j e)

-- a row at least is freed
freed_room : (w : ℕ) (is : List ℕ) (t : Table) → 1 ≤ length is → All (λ i. i < length t) is → 1 ≤ free_rows (free_at w is t)
freed_room w [] t h a = absurd (not-suc-le-zero h)
freed_room w (i ∷ is) t h a =
    free_there (free_at w is (set t i (zero_row w))) i (rw (free_at-length w is (set t i (zero_row w)), length-set t i (zero_row w)) a.0)
    (all_free w is (set t i (zero_row w)) i (set_free w t i a.0))

with_count : (w : ℕ) (row : Row) (t : Table) → Used row → length (used_rows (with_rows w (row ∷ []) t)) ≡ suc (length (used_rows t))
with_count w row t b = same_length _ _ (with_rows_lem w (row ∷ []) t (b, tt))

module _ (w u : ℕ) (t : Table) (s : Searchable w u t) (places : List ℕ) (k : ℕ) (long : k ≤ length places) (inside : All (λ i. i < u) (take k places)) where
  form : InForm w t
  form = form_true w t s.form

  below : u ≤ length t
  below = omega (arith, s.number, rows_counted t)

  -- ---- one place

  module _ (one : k ≡ 1) where
    front_one : take k places ≡ get_or places 0 0 ∷ []
    front_one = ap (λ (n : ℕ). take n places) one ∙ take-suc places 0 0 (omega arith)

    pub one_below : get_or places 0 0 < u
    one_below = place_at places k 0 long (omega arith) u inside

    module _ (row : Row) (busy : Used row) (after : Table) (e : after ≡ with_rows w (row ∷ []) (set t (get_or places 0 0) (zero_row w))) where
      pub one_is : after ≡ with_rows w (row ∷ []) (free_at w (take k places) t)
      one_is = e ∙ ap (λ (is : List ℕ). with_rows w (row ∷ []) (free_at w is t)) (sym front_one)

      pub one_number : u ≡ length (used_rows after)
      one_number =
          s.number ∙ used_less w t (get_or places 0 0) (omega (arith, one_below, below)) (Rattle.table.proofs.Search.used_row w t form (get_or places 0 0) (omega (arith, one_below, s.number)))
          ∙ sym (ap (λ (l : Table). length (used_rows l)) e ∙ with_count w row (set t (get_or places 0 0) (zero_row w)) busy)

  -- ---- several places

  module _ (some : 1 ≤ k) (fs : List ℕ) (n : ℕ) (few : length t ≤ n) (ef : fs ≡ flagged_at (take k places) (replicate n 0)) (shut : Table)
      (es : shut ≡ reordered w (free_flagged w fs t)) where
    freed : Table
    freed = free_at w (take k places) t

    shut_is : shut ≡ reordered w freed
    unfolding freed
    shut_is = es ∙ ap (λ (x : List ℕ). reordered w (free_flagged w x t)) ef ∙ ap (reordered w) (free_flagged_places w (take k places) n t few)

    pub shut_form : in_form w shut ≡ true
    shut_form = rw shut_is (true_form w (reordered w freed) (reordered_in_form w freed))

    shut_count : length (used_rows shut) ≡ length (used_rows freed)
    shut_count = ap (λ (l : Table). length (used_rows l)) shut_is ∙ same_length _ _ (reordered-Same w freed)

    all_below : (is : List ℕ) → All (λ i. i < u) is → All (λ i. i < length t) is
    all_below [] a = tt
    all_below (i ∷ is) a = (omega (arith, a.0, below), all_below is a.1)

    pub shut_room : suc (length (used_rows shut)) ≤ length t
    unfolding freed
    shut_room =
        omega (
          arith,
          shut_count,
          rows_counted freed,
          free_at-length w (take k places) t,
          freed_room w (take k places) t (rw (length-take-le k places long) some) (all_below (take k places) inside),
        )

    module _ (row : Row) (busy : Used row) (after : Table) (e : after ≡ with_rows w (row ∷ []) shut) where
      pub many_is : after ≡ with_rows w (row ∷ []) (free_at w (take k places) t)
      unfolding freed
      many_is = e ∙ ap (with_rows w (row ∷ [])) shut_is ∙ with_same w (row ∷ []) (reordered w freed) freed (reordered-length w freed) (reordered-Same w freed)

      pub many_number : suc (length (used_rows shut)) ≡ length (used_rows after)
      many_number = sym (ap (λ (l : Table). length (used_rows l)) e ∙ with_count w row shut busy)
