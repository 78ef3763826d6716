-- What new rows and closing up do to the used rows, to lookups and to widths. Used rows that ascend are enough: gaps don't matter.
use Prim.Native.Nat.{ℕ, zero, suc, ◌≤◌}
use mathlib.Core.Path.{◌≡◌, refl, sym, ap, subst, ◌∙◌}
use mathlib.Core.Bool.{Bool, true, false, cond, not, ◌&&◌}
use mathlib.Core.Option.{none, some}
use mathlib.Core.List.{List, [], ◌∷◌, ◌++◌, map}
use native.Mathlib.Omega.{arith}
use lib.ListN.{length, set, length-append}
use Rattle.table.specs.Lists.{bit, select, count, first, All, Same}
use Rattle.table.specs.Table.{Row, Table, is_free, body, used, free_rows, has_tag, lookup, zero_row, free_at, free_where}
use Rattle.table.specs.Order.{precedes, used_rows, reordered, with_rows, arranged, closed}
use Rattle.table.proofs.Counting.{count-append, same_length, all_append, Same-refl, Same-map, Same-select, none_first, first_same}
use Rattle.table.proofs.Rows.{zero_free, free_where-used, free_where-length, free_where_all}
use Rattle.table.proofs.Order.{Ascending, Used, InForm, ascending_select, sorted-Same, sorted_is, used_is, used_all, used_rows_all, rows_counted, arranged_used, arranged_form, arranged-length, arranged_all, arranged_same, in_form_is, lookup_agree}

-- the same used rows with their marks, and without
pub used_same : (t : Table) (us : List Row) → Same (used_rows t) us → Same (used t) (map body us)
used_same t us s = subst (λ (l : List (List ℕ)). Same l (map body us)) (sym (used_is t)) (Same-map body (used_rows t) us s)

-- ---- new rows

module _ (w : ℕ) where
  -- rows that fit are added to a table in form
  pub record AddedAll (t : Table) (new : List Row) (t' : Table) : Type 0 where
    pub is : t' ≡ with_rows w new t
    pub room : length new ≤ free_rows t
    pub busy : All Used new
    pub form : InForm w t

  -- a row that fits is added to a table whose used rows ascend
  pub record Added (t : Table) (row : Row) (t' : Table) : Type 0 where
    pub is : t' ≡ with_rows w (row ∷ []) t
    pub room : 1 ≤ free_rows t
    pub busy : Used row
    pub order : Ascending (used_rows t)

  with_busy : (new : List Row) (t : Table) → All Used new → All Used (new ++ used_rows t)
  with_busy new t b = all_append Used new (used_rows t) b (used_all t)

  pub with_rows_lem : (new : List Row) (t : Table) → All Used new → Same (used_rows (with_rows w new t)) (new ++ used_rows t)
  unfolding with_rows
  with_rows_lem new t b = subst (λ (l : List Row). Same l (new ++ used_rows t)) (sym (arranged_used w (length t) (new ++ used_rows t) (with_busy new t b))) (sorted-Same (new ++ used_rows t))

  pub with_form : (new : List Row) (t : Table) → All Used new → InForm w (with_rows w new t)
  unfolding with_rows
  with_form new t b = arranged_form w (length t) (new ++ used_rows t) (with_busy new t b)

  pub with_length : (new : List Row) (t : Table) → length new ≤ free_rows t → length (with_rows w new t) ≡ length t
  unfolding with_rows
  with_length new t h = arranged-length w (length t) (new ++ used_rows t) (omega (arith, length-append new (used_rows t), rows_counted t))

  pub with_all : (P : Row → Type 0) (new : List Row) (t : Table) → P (zero_row w) → All P new → All P t → All P (with_rows w new t)
  unfolding with_rows
  with_all P new t z a b = arranged_all P w (length t) (new ++ used_rows t) z (all_append P new (used_rows t) a (used_rows_all P t b))

  -- only the used rows and the number of rows matter
  pub with_same : (new : List Row) (t u : Table) → length t ≡ length u → Same (used_rows t) (used_rows u) → with_rows w new t ≡ with_rows w new u
  unfolding with_rows
  with_same new t u l s =
      ap (λ (n : ℕ). arranged w n (new ++ used_rows t)) l
      ∙ arranged_same w (length u) (new ++ used_rows t) (new ++ used_rows u)
      (record { counts = λ p. omega (arith, count-append p new (used_rows t), count-append p new (used_rows u), s.counts p) })

  -- one row, then the others
  pub with_next : (row : Row) (rest : List Row) (t : Table) → Used row → 1 ≤ free_rows t → with_rows w (row ∷ rest) t ≡ with_rows w rest (with_rows w (row ∷ []) t)
  unfolding with_rows
  with_next row rest t b h =
      let t₁ : Table = with_rows w (row ∷ []) t in
      let l : length t₁ ≡ length t = with_length (row ∷ []) t h in
      let s : Same (used_rows t₁) (row ∷ used_rows t) = with_rows_lem (row ∷ []) t (b, tt) in
      arranged_same w (length t) (row ∷ rest ++ used_rows t) (rest ++ used_rows t₁)
      (record { counts = λ p. omega (arith, count-append p rest (used_rows t), count-append p rest (used_rows t₁), s.counts p) })
      ∙ ap (λ (n : ℕ). arranged w n (rest ++ used_rows t₁)) (sym l)

  module _ (t : Table) (row : Row) (t' : Table) (a : Added t row t') where
    added_rows : Same (used_rows t') (row ∷ used_rows t)
    added_rows = subst (λ (u : Table). Same (used_rows u) (row ∷ used_rows t)) (sym a.is) (with_rows_lem (row ∷ []) t (a.busy, tt))

    pub added_same : Same (used t') (body row ∷ used t)
    added_same = subst (λ (l : List (List ℕ)). Same (used t') (body row ∷ l)) (sym (used_is t)) (used_same t' (row ∷ used_rows t) added_rows)

    pub added_form : InForm w t'
    added_form = subst (InForm w) (sym a.is) (with_form (row ∷ []) t (a.busy, tt))

    pub added_length : length t' ≡ length t
    added_length = ap length a.is ∙ with_length (row ∷ []) t a.room

    pub added_all : (P : Row → Type 0) → P (zero_row w) → P row → All P t → All P t'
    added_all P z r b = subst (All P) (sym a.is) (with_all P (row ∷ []) t z (r, tt) b)

    -- a row without the tag leaves what a lookup finds; with it, where none was, it is found
    pub added_other : (tag : List ℕ) → has_tag tag (body row) ≡ false → lookup tag t' ≡ lookup tag t
    added_other tag e =
        lookup_agree tag t' t added_form.order a.order
        (subst (Same (select (λ r. has_tag tag (body r)) (used_rows t'))) (ap (λ (b : Bool). cond b (row ∷ select (λ r. has_tag tag (body r)) (used_rows t)) (select (λ r. has_tag tag (body r)) (used_rows t))) e)
        (Same-select (λ r. has_tag tag (body r)) (used_rows t') (row ∷ used_rows t) added_rows))

    pub added_found : (tag : List ℕ) → has_tag tag (body row) ≡ true → lookup tag t ≡ none → lookup tag t' ≡ some (body row)
    unfolding lookup
    added_found tag e o =
        let c : count (has_tag tag) (used t) ≡ 0 = none_first (has_tag tag) (used t) o in
        let d = added_same.counts (has_tag tag) in
        let b : bit (has_tag tag (body row)) ≡ 1 = ap bit e in
        first_same (has_tag tag) (used t') (body row ∷ used t) added_same (omega arith)
        ∙ ap (λ (b : Bool). cond b (some (body row)) (first (has_tag tag) (used t))) e

  -- the first of several rows, and the others
  pub record AddedNext (t : Table) (row : Row) (rest : List Row) (t' : Table) : Type 0 where
    pub between : Table
    pub one : Added t row between
    pub more : AddedAll between rest t'

  pub added_next : (t : Table) (row : Row) (rest : List Row) (t' : Table) → AddedAll t (row ∷ rest) t' → AddedNext t row rest t'
  added_next t row rest t' a =
      let t₁ : Table = with_rows w (row ∷ []) t in
      let h = a.room in
      let r : 1 ≤ free_rows t = omega arith in
      let l : length t₁ ≡ length t = with_length (row ∷ []) t r in
      let s = same_length (used_rows t₁) (row ∷ used_rows t) (with_rows_lem (row ∷ []) t (a.busy.0, tt)) in
      record {
        between = t₁;
        one = record { is = refl; room = r; busy = a.busy.0; order = a.form.order };
        more = record {
          is = a.is ∙ with_next row rest t a.busy.0 r;
          room = omega (arith, rows_counted t, rows_counted t₁);
          busy = a.busy.1;
          form = with_form (row ∷ []) t (a.busy.0, tt);
        };
      }

  pub added_none : (t t' : Table) → AddedAll t [] t' → t' ≡ t
  unfolding with_rows
  added_none t t' a = a.is ∙ sym (in_form_is w (length t) t (used_rows t) a.form refl (Same-refl (used_rows t)))

-- ---- closing up

module _ (w : ℕ) (t : Table) where
  pub reordered-length : length (reordered w t) ≡ length t
  unfolding reordered
  reordered-length = arranged-length w (length t) (used_rows t) (omega (arith, rows_counted t))

  pub reordered_in_form : InForm w (reordered w t)
  unfolding reordered
  reordered_in_form = arranged_form w (length t) (used_rows t) (used_all t)

  pub reordered_all : (P : Row → Type 0) → P (zero_row w) → All P t → All P (reordered w t)
  unfolding reordered
  reordered_all P z a = arranged_all P w (length t) (used_rows t) z (used_rows_all P t a)

  pub reordered-Same : Same (used_rows (reordered w t)) (used_rows t)
  unfolding reordered
  reordered-Same = subst (λ (l : List Row). Same l (used_rows t)) (sym (arranged_used w (length t) (used_rows t) (used_all t))) (sorted-Same (used_rows t))

  -- used rows that ascend stay as they are
  pub reordered_rows : Ascending (used_rows t) → used_rows (reordered w t) ≡ used_rows t
  unfolding reordered
  reordered_rows o = arranged_used w (length t) (used_rows t) (used_all t) ∙ sym (sorted_is (used_rows t) (used_rows t) o (Same-refl (used_rows t)))

  pub reordered-used : Ascending (used_rows t) → used (reordered w t) ≡ used t
  reordered-used o = used_is (reordered w t) ∙ ap (map body) (reordered_rows o) ∙ sym (used_is t)

-- tables of one length with the same used rows are put in the same form
pub reordered_same : (w : ℕ) (t u : Table) → length t ≡ length u → Same (used_rows t) (used_rows u) → reordered w t ≡ reordered w u
unfolding reordered
reordered_same w t u l s = ap (λ (n : ℕ). arranged w n (used_rows t)) l ∙ arranged_same w (length u) (used_rows t) (used_rows u) s

-- ---- freed rows

pub free_where_rows : (w : ℕ) (q : List ℕ → Bool) (t : Table) → used_rows (free_where w q t) ≡ select (λ r. not (q (body r))) (used_rows t)
free_where_rows w q [] = refl
free_where_rows w q (r ∷ rs) = go (is_free r) refl (free_where_rows w q rs)
  where
    go : (b : Bool) → is_free r ≡ b → used_rows (free_where w q rs) ≡ select (λ r. not (q (body r))) (used_rows rs)
        → used_rows (cond (not b && q (body r)) (zero_row w) r ∷ free_where w q rs) ≡ select (λ r. not (q (body r))) (cond (not b) (r ∷ used_rows rs) (used_rows rs))
    go true h e = rw h e
    go false h e = at (q (body r))
      where
        at : (d : Bool) → used_rows (cond d (zero_row w) r ∷ free_where w q rs) ≡ cond (not d) (r ∷ select (λ r. not (q (body r))) (used_rows rs)) (select (λ r. not (q (body r))) (used_rows rs))
        at true = rw (zero_free w) e
        at false = rw h (ap (λ (l : List Row). r ∷ l) e)

pub free_where_ascending : (w : ℕ) (q : List ℕ → Bool) (t : Table) → Ascending (used_rows t) → Ascending (used_rows (free_where w q t))
free_where_ascending w q t o = rw (free_where_rows w q t) (ascending_select (λ r. not (q (body r))) (used_rows t) o)

-- a table without the rows that pass
module _ (w : ℕ) (q : List ℕ → Bool) (t : Table) where
  pub closed-used : Ascending (used_rows t) → used (closed w q t) ≡ select (λ b. not (q b)) (used t)
  unfolding closed
  closed-used o = reordered-used w (free_where w q t) (free_where_ascending w q t o) ∙ free_where-used w q t

  pub closed_same : Same (used (closed w q t)) (select (λ b. not (q b)) (used t))
  unfolding closed
  closed_same =
      subst (Same (used (reordered w (free_where w q t)))) (sym (used_is (free_where w q t)) ∙ free_where-used w q t)
      (used_same (reordered w (free_where w q t)) (used_rows (free_where w q t)) (reordered-Same w (free_where w q t)))

  pub closed-length : length (closed w q t) ≡ length t
  unfolding closed
  closed-length = reordered-length w (free_where w q t) ∙ free_where-length w q t

  pub closed_form : InForm w (closed w q t)
  unfolding closed
  closed_form = reordered_in_form w (free_where w q t)

  pub closed_all : (P : Row → Type 0) → P (zero_row w) → All P t → All P (closed w q t)
  unfolding closed
  closed_all P z a = reordered_all w (free_where w q t) P z (free_where_all P w q t z a)

-- what holds of every used row holds when one is freed
zeroed_all : (P : Row → Type 0) (w : ℕ) (t : Table) (i : ℕ) → All P (used_rows t) → All P (used_rows (set t i (zero_row w)))
zeroed_all P w [] i a = a
zeroed_all P w (r ∷ rs) zero a = rw (zero_free w) (go (is_free r) a)
  where
    go : (b : Bool) → All P (cond (not b) (r ∷ used_rows rs) (used_rows rs)) → All P (used_rows rs)
    go true a = a
    go false a = a.1
zeroed_all P w (r ∷ rs) (suc i) a = go (is_free r) a (zeroed_all P w rs i)
  where
    go : (b : Bool) → All P (cond (not b) (r ∷ used_rows rs) (used_rows rs)) → (All P (used_rows rs) → All P (used_rows (set rs i (zero_row w))))
        → All P (cond (not b) (r ∷ used_rows (set rs i (zero_row w))) (used_rows (set rs i (zero_row w))))
    go true a k = k a
    go false a k = (a.0, k a.1)

zeroed_ascending : (w : ℕ) (t : Table) (i : ℕ) → Ascending (used_rows t) → Ascending (used_rows (set t i (zero_row w)))
zeroed_ascending w [] i o = o
zeroed_ascending w (r ∷ rs) zero o = rw (zero_free w) (go (is_free r) o)
  where
    go : (b : Bool) → Ascending (cond (not b) (r ∷ used_rows rs) (used_rows rs)) → Ascending (used_rows rs)
    go true o = o
    go false o = o.1
zeroed_ascending w (r ∷ rs) (suc i) o = go (is_free r) o (zeroed_ascending w rs i)
  where
    go : (b : Bool) → Ascending (cond (not b) (r ∷ used_rows rs) (used_rows rs)) → (Ascending (used_rows rs) → Ascending (used_rows (set rs i (zero_row w))))
        → Ascending (cond (not b) (r ∷ used_rows (set rs i (zero_row w))) (used_rows (set rs i (zero_row w))))
    go true o k = k o
    go false o k = (zeroed_all (λ s. precedes s r ≡ false) w rs i o.0, k o.1)

pub free_at_ascending : (w : ℕ) (is : List ℕ) (t : Table) → Ascending (used_rows t) → Ascending (used_rows (free_at w is t))
free_at_ascending w [] t o = o
free_at_ascending w (i ∷ is) t o = free_at_ascending w is (set t i (zero_row w)) (zeroed_ascending w t i o)
