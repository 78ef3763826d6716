-- A store whose rows have their widths and marks and whose tables are in form: cutting its bytes gives its tables back, and it is never
-- refused by 10, 11 or 20.
use Prim.Native.Nat.{ℕ, zero, suc, ◌+◌, ◌*◌, ◌-◌, ◌/◌, ◌%◌, ◌≤◌}
use mathlib.Core.Path.{◌≡◌, refl, sym, ap, ap₂, subst, ◌∙◌}
use mathlib.Core.Bool.{Bool, false, not}
use mathlib.Core.List.{List, [], ◌∷◌, ◌++◌}
use native.Mathlib.Omega.{arith}
use lib.Dec.{ltb}
use lib.ListN.{length, get_or, replicate, length-replicate, replicate-append-replicate}
use borrow.Author.Tests.{le-ltb, eq-eqb}
use Rattle.table.specs.Lists.{any_of, All}
use Rattle.table.specs.Table.{Row, Table, mark_of, mark_bad, used, free_rows, zero_row}
use Rattle.table.specs.Order.{in_form, closed}
use Rattle.table.proofs.Rows.{free_used, rows_zero, all_replicate}
use Rattle.table.proofs.Order.{InForm, true_form, filled_form}
use Rattle.table.proofs.Arranging.{Added, AddedAll, added_form, added_length, added_all, added_next, added_none, closed_all, closed-length, closed_form}
use Rattle.table.proofs.Counting.{all_map}
use Rattle.answer.specs.Answer.{done}
use Rattle.scheme.specs.Store.{Sizes, Which, plan, width_of, rows_of, greatest_mark, header_length, end_from, sizes_bad, length_for, header_of, sizes_of, Store, cut, joined_from, joined, instead, put_in, header_bad, marks_bad, form_bad, fresh, make_tests, make}
use Rattle.scheme.specs.Layout.{span_of, Wide, Laid}
use Rattle.scheme.proofs.Plan.{by_table, put_own, put_other, laid_length, grows, cut_laid}

-- a row of a table: its width, and a mark that the table allows
pub record RowOk (k : Which) (r : Row) : Type 0 where
  pub width : length r ≡ width_of k
  pub mark : ltb (greatest_mark k) (mark_of r) ≡ false

pub record TableOk (k : Which) (n : ℕ) (t : Table) : Type 0 where
  pub all : All (RowOk k) t
  pub number : length t ≡ n
  pub form : InForm (width_of k) t

zero_mark : (most w : ℕ) → ltb most (mark_of (zero_row w)) ≡ false
zero_mark most zero = le-ltb most 0 (omega arith)
zero_mark most (suc w) = le-ltb most 0 (omega arith)

pub zero_ok : (k : Which) → RowOk k (zero_row (width_of k))
zero_ok k = record { width = length-replicate (width_of k) 0; mark = zero_mark (greatest_mark k) (width_of k) }

-- a row added to a table that may have gaps
pub added_ok : (k : Which) (n : ℕ) (t : Table) (row : Row) (t' : Table) → Added (width_of k) t row t' → RowOk k row → All (RowOk k) t → length t ≡ n → TableOk k n t'
added_ok k n t row t' p r a l = record {
  all = added_all (width_of k) t row t' p (RowOk k) (zero_ok k) r a;
  number = added_length (width_of k) t row t' p ∙ l;
  form = added_form (width_of k) t row t' p;
}

pub added_all_ok : (k : Which) (n : ℕ) (t : Table) (new : List Row) (t' : Table) → AddedAll (width_of k) t new t' → All (RowOk k) new → TableOk k n t → TableOk k n t'
added_all_ok k n t [] t' p a ok = rw (added_none (width_of k) t t' p) ok
added_all_ok k n t (row ∷ rest) t' p a ok =
    let q = added_next (width_of k) t row rest t' p in
    added_all_ok k n q.between rest t' q.more a.1 (added_ok k n t row q.between q.one a.0 ok.all ok.number)

pub closed_ok : (k : Which) (n : ℕ) (q : List ℕ → Bool) (t : Table) → TableOk k n t → TableOk k n (closed (width_of k) q t)
closed_ok k n q t a = record {
  all = closed_all (width_of k) q t (RowOk k) (zero_ok k) a.all;
  number = closed-length (width_of k) q t ∙ a.number;
  form = closed_form (width_of k) q t;
}

zeros_ok : (k : Which) (n : ℕ) → TableOk k n (replicate n (zero_row (width_of k)))
zeros_ok k n = record {
  all = all_replicate (RowOk k) n (zero_row (width_of k)) (zero_ok k);
  number = length-replicate n (zero_row (width_of k));
  form = filled_form (width_of k) n [] tt tt;
}

-- used rows are at most the rows
pub used_le : (k : Which) (n : ℕ) (t : Table) → TableOk k n t → length (used t) ≤ n
used_le k n t a = let e = free_used t in let f = a.number in omega arith

pub free_is : (k : Which) (n : ℕ) (t : Table) → TableOk k n t → free_rows t + length (used t) ≡ n
free_is k n t a = sym (free_used t) ∙ a.number

ok_wide : (k : Which) (n : ℕ) (t : Table) → TableOk k n t → Wide (width_of k) n t
ok_wide k n t a = record { number = a.number; widths = all_map (λ r h. h.width) t a.all }

marks_good : (k : Which) (n : ℕ) (t : Table) → TableOk k n t → mark_bad (greatest_mark k) t ≡ false
marks_good k n t a = go t a.all
  where
    go : (t : Table) → All (RowOk k) t → mark_bad (greatest_mark k) t ≡ false
    go [] a = refl
    go (r ∷ rs) a = rw a.0.mark (go rs a.1)

no_table : (p : Which → Bool) → ((k : Which) → p k ≡ false) → (ks : List Which) → any_of p ks ≡ false
no_table p h [] = refl
no_table p h (k ∷ ks) = rw (h k) (no_table p h ks)

pub record Shaped (z : Sizes) (st : Store) : Type 0 where
  pub head : st.header ≡ header_of z
  pub tables : (k : Which) → TableOk k (rows_of z k) (st.table k)

-- another table of the same rows in place of one
pub shaped_put : (z : Sizes) (st : Store) (k : Which) (t : Table) → TableOk k (rows_of z k) t → Shaped z st → Shaped z (put_in k t st)
shaped_put z st k t a s = record {
  head = s.head;
  tables =
      by_table k (λ j. TableOk j (rows_of z j) (instead k t st.table j)) (subst (TableOk k (rows_of z k)) (sym (put_own k t st.table)) a)
      (λ j e. subst (TableOk j (rows_of z j)) (sym (put_other k j t st.table e)) (s.tables j));
}

module _ (z : Sizes) (st : Store) (s : Shaped z st) where
  laid : Laid (span_of z) (joined st) st
  unfolding header_of
  laid = record { bytes = refl; head = ap length s.head; wide = λ k. ok_wide k (rows_of z k) (st.table k) (s.tables k); start = λ k. refl; end = λ k. refl }

  pub sizes_is : sizes_of (joined st) ≡ z
  unfolding sizes_of joined header_of
  sizes_is = rw s.head
      (let e : 256 * (z.m / 256) + z.m % 256 ≡ z.m = omega arith in
      let f : 256 * (z.c / 256) + z.c % 256 ≡ z.c = omega arith in
      let g : 256 * (z.s / 256) + z.s % 256 ≡ z.s = omega arith in
      let h : 256 * (z.r / 256) + z.r % 256 ≡ z.r = omega arith in
      λ i. record { p = z.p; m = e i; c = f i; s = g i; r = h i })

  pub cut-joined : cut (joined st) ≡ st
  cut-joined = cut_laid (joined st) st (subst (λ (y : Sizes). Laid (span_of y) (joined st) st) (sym sizes_is) laid)

  whole : length (joined st) ≡ length_for z
  unfolding length_for
  whole = laid_length (span_of z) (joined st) st laid

  version_is : get_or (joined st) 0 0 ≡ 2
  unfolding joined header_of
  version_is = rw s.head refl

  pub header_good : sizes_bad z ≡ false → header_bad (joined st) ≡ false
  unfolding header_bad
  header_good good =
      let l : header_length ≤ length_for z = unfold length_for in grows (rows_of z) header_length plan in
      rw (sizes_is, whole, version_is, good, le-ltb (length_for z) header_length l, eq-eqb (length_for z) (length_for z) refl) refl

  pub marks_is : marks_bad (cut (joined st)) ≡ false
  unfolding marks_bad
  marks_is = rw cut-joined (no_table (λ k. mark_bad (greatest_mark k) (st.table k)) (λ k. marks_good k (rows_of z k) (st.table k) (s.tables k)) plan)

  pub form_is : form_bad (cut (joined st)) ≡ false
  unfolding form_bad
  form_is = rw cut-joined (no_table (λ k. not (in_form (width_of k) (st.table k))) (λ k. ap not (true_form (width_of k) (st.table k) (s.tables k).form)) plan)

-- the fresh store
unfoldable pub fresh_store : Sizes → Store
fresh_store z = record { header = header_of z; table = λ k. replicate (rows_of z k) (zero_row (width_of k)) }

pub fresh_shaped : (z : Sizes) → Shaped z (fresh_store z)
unfolding fresh_store
fresh_shaped z = record { head = refl; tables = λ k. zeros_ok k (rows_of z k) }

zeros_joined : (z : Sizes) (a : ℕ) (ks : List Which) → joined_from ks (λ k. replicate (rows_of z k) (zero_row (width_of k))) ≡ replicate (end_from (rows_of z) a ks - a) 0
zeros_joined z a [] = let e : 0 ≡ a - a = omega arith in ap (λ (k : ℕ). replicate k 0) e
zeros_joined z a (k ∷ ks) =
    let n : ℕ = width_of k * rows_of z k in
    let g = grows (rows_of z) (a + n) ks in
    let e : n + (end_from (rows_of z) (a + n) ks - (a + n)) ≡ end_from (rows_of z) (a + n) ks - a = omega arith in
    ap₂ (λ (x y : List ℕ). x ++ y) (rows_zero (width_of k) (rows_of z k)) (zeros_joined z (a + n) ks)
    ∙ replicate-append-replicate n (end_from (rows_of z) (a + n) ks - (a + n)) 0
    ∙ ap (λ (k : ℕ). replicate k 0) e

pub fresh_is : (z : Sizes) → fresh z ≡ joined (fresh_store z)
unfolding fresh joined fresh_store length_for
fresh_is z = ap (λ (l : List ℕ). header_of z ++ l) (sym (zeros_joined z header_length plan))

-- making a store over a slice of its length gives the fresh store that the claim begins with
pub make-fresh : (z : Sizes) (slice : List ℕ) → sizes_bad z ≡ false → length slice ≡ length_for z → make z slice ≡ record { answer = done []; store = fresh z; output = [] }
unfolding make make_tests
make-fresh z slice good e = rw (good, eq-eqb (length slice) (length_for z) e) refl
