-- The tables lent one after the other: each comes back with the new rows in it.
use Prim.Native.Nat.{ℕ}
use mathlib.Core.Path.{◌≡◌, refl, ap, subst, ◌∙◌}
use mathlib.Core.Bool.{true}
use mathlib.Core.List.{List, [], ◌∷◌, ◌++◌}
use native.Mathlib.Omega.{arith}
use lib.ListN.{length}
use lib.Seq.{take_all}
use Rattle.table.specs.Table.{Row, Table, rows}
use Rattle.table.specs.Order.{ascending, used_rows, sorted, with_rows}
use Rattle.table.proofs.Counting.{count-append}
use Rattle.table.proofs.Order.{true-ascending, sorted_ascending, sorted-Same, arranged_same}
use Rattle.scheme.specs.Store.{Which, table_m, table_v, table_c, table_s, table_r, width_of, cut, joined, put_in}
use Rattle.scheme.specs.Layout.{Laid}
use Rattle.scheme.specs.Insert.{added_to, inserted_store}
use Rattle.store.specs.declared.Shape.{Shape}
use Rattle.store.specs.Check.{part_in, span_in}
use Rattle.store.specs.Tables.{table_of, Replaced}
use Rattle.store.proofs.Stores.{LaidStore, part-rows, replace}
use Rattle.placing.specs.Placed.{placed_store}

-- a table that came back with new rows
pub with_added : (z : Shape) (g : LaidStore z) (k : Which) (new : List Row) (after : List ℕ)
    → Replaced g.bytes (part_in z k) (width_of k) (with_rows (width_of k) new (table_of g.bytes (part_in z k) (width_of k))) after → Laid (span_in z) after (added_to k new g.store)
with_added z g k new after r =
    subst (λ (t : Table). Laid (span_in z) after (put_in k (with_rows (width_of k) new t) g.store)) (part-rows z g k) (replace z g k (with_rows (width_of k) new (table_of g.bytes (part_in z k) (width_of k))) after r).laid

-- one row as a list of rows
pub only : (w : ℕ) (row : Row) → length row ≡ w → rows w 1 row ≡ row ∷ []
only w row h = ap (λ (r : Row). r ∷ []) (take_all w row (omega arith))

pub only_ascending : (w : ℕ) (row : Row) → ascending (rows w 1 row) ≡ true
only_ascending w row = refl

pub sorted_is_ascending : (w n : ℕ) (l ys : List ℕ) (us : List Row) → l ≡ ys → rows w n ys ≡ sorted us → ascending (rows w n l) ≡ true
sorted_is_ascending w n l ys us e f = ap (λ (x : List ℕ). ascending (rows w n x)) e ∙ ap ascending f ∙ true-ascending (sorted us) (sorted_ascending us)

-- the new rows may be sorted first
pub with_sorted : (w : ℕ) (new : List Row) (t : Table) → with_rows w (sorted new) t ≡ with_rows w new t
unfolding with_rows
with_sorted w new t =
    arranged_same w (length t) (sorted new ++ used_rows t) (new ++ used_rows t)
    (record { counts = λ p. omega (arith, count-append p (sorted new) (used_rows t), count-append p new (used_rows t), (sorted-Same new).counts p) })

-- C and S take one row each
pub placed : (b after : List ℕ) (z : Shape) (new_m new_v : List Row) (new_c new_s : Row) → length new_c ≡ width_of table_c → length new_s ≡ width_of table_s
    → Laid (span_in z) after (added_to table_s (rows (width_of table_s) 1 new_s) (added_to table_c (rows (width_of table_c) 1 new_c) (added_to table_v new_v (added_to table_m new_m (cut b)))))
    → Laid (span_in z) after (placed_store b new_m new_v new_c new_s)
unfolding placed_store
placed b after z new_m new_v new_c new_s h_c h_s l = rw (only (width_of table_c) new_c h_c, only (width_of table_s) new_s h_s) at l

-- then R takes its rows
pub all_inserted : (b mid after : List ℕ) (z : Shape) (new_m new_v rows_m rows_v : List Row) (new_c new_s row_s : Row) (new_r : List Row)
    → rows_m ≡ sorted new_m → rows_v ≡ sorted new_v → row_s ≡ new_s → Laid (span_in z) mid (placed_store b rows_m rows_v new_c row_s)
    → Replaced mid z.r (width_of table_r) (with_rows (width_of table_r) new_r (table_of mid z.r (width_of table_r))) after → after ≡ joined (inserted_store b new_m new_v new_c new_s new_r)
unfolding placed_store inserted_store
all_inserted b mid after z new_m new_v rows_m rows_v new_c new_s row_s new_r e_m e_v e_s l r =
    let t_m = ap (λ (x : List Row). with_rows (width_of table_m) x ((cut b).table table_m)) e_m ∙ with_sorted (width_of table_m) new_m ((cut b).table table_m) in
    let t_v = ap (λ (x : List Row). with_rows (width_of table_v) x ((cut b).table table_v)) e_v ∙ with_sorted (width_of table_v) new_v ((cut b).table table_v) in
    (with_added z (record { bytes = mid; store = placed_store b rows_m rows_v new_c row_s; laid = l }) table_r new_r after r).bytes
    ∙ (λ i. joined (added_to table_r new_r (added_to table_s (e_s i ∷ []) (added_to table_c (new_c ∷ []) (put_in table_v (t_v i) (put_in table_m (t_m i) (cut b)))))))
