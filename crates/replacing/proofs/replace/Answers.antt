-- One place is exchanged; several are flagged and closed up, and the row is merged in.
use Prim.Native.Nat.{ℕ, suc, ◌-◌, ◌<◌, ◌≤◌}
use mathlib.Core.Path.{◌≡◌, refl, sym, ap, ◌∙◌}
use mathlib.Core.List.{List, [], ◌∷◌}
use native.Mathlib.Numerals.{add-one}
use native.Mathlib.Omega.{arith}
use lib.ListN.{length, take, set}
use lib.Seq.{take_all}
use Rattle.table.specs.Lists.{All}
use Rattle.table.specs.Table.{Row, rows, zero_row, free_rows}
use Rattle.table.specs.Order.{used_rows, with_rows}
use Rattle.table.proofs.Counting.{all_map}
use Rattle.table.proofs.Rows.{rows-length}
use Rattle.table.proofs.Order.{rows_counted}
use Rattle.table.proofs.Cuts.{rows_used}
use Rattle.scheme.specs.Store.{table_c, width_of}
use Rattle.replacing.proofs.Places.{one_is, one_number, shut_form, shut_room, many_is, many_number}
use Rattle.replacing.proofs.replace.Goals as goal

small : (c : ℕ) (t : List ℕ) → c ≤ 4096 → length (rows (width_of table_c) c t) ≤ 4096
small c t h = omega (arith, rows-length (width_of table_c) c t)

left_is : (c : ℕ) (t : List ℕ) (free : ℕ) → free ≡ free_rows (rows (width_of table_c) c t) → c - free ≡ length (used_rows (rows (width_of table_c) c t))
left_is c t free e = ap (λ (n : ℕ). c - n) e ∙ sym (rows_used (width_of table_c) c t)

few : (u : ℕ) (n : ℕ) (l : List ℕ) → u ≤ n → All (λ i. i < u) l → All (λ i. i < n) l
few u n l h a = all_map (λ i k. omega arith) l a

pub returns-then-k-eq1 : goal.returns-then-k-eq1
returns-then-k-eq1 c =
    let a = c.args in
    let t = rows (width_of table_c) a.c a.t.now in
    let s = c.requires.k_in_bounds.1.1.1 in
    let e = c.exchange.ensures ∙ ap (λ (i : ℕ). with_rows (width_of table_c) (a.row.now ∷ []) (set t i (zero_row (width_of table_c)))) c.from-at.ensures in record { value = one_number (width_of table_c) a.u t s a.places.now a.k c.requires.k_in_bounds.0.0 c.requires.k_in_bounds.0.1 c.if-k-eq1.true a.row.now c.requires.k_in_bounds.1.1.0 _ e; t_after = one_is (width_of table_c) a.u t s a.places.now a.k c.requires.k_in_bounds.0.0 c.requires.k_in_bounds.0.1 c.if-k-eq1.true a.row.now c.requires.k_in_bounds.1.1.0 _ e }

pub flag_places-requires : goal.flag_places-requires
flag_places-requires c =
    let a = c.args in
    let t = rows (width_of table_c) a.c a.t.now in
    let s = c.requires.k_in_bounds.1.1.1 in
    let h : a.u ≤ 4096 = omega (arith, s.number, rows_counted t, rows-length (width_of table_c) a.c a.t.now, c.requires.t_len.1.0) in
    (c.requires.k_in_bounds.0.0, few a.u 4096 (take a.k a.places.now) h c.requires.k_in_bounds.0.1)

pub overflow_sub-left : goal.overflow_sub-left
overflow_sub-left c =
    omega (arith, c.count_free.ensures, rows_counted (rows (width_of table_c) c.args.c c.close.new.t), rows-length (width_of table_c) c.args.c c.close.new.t)

pub merge-requires : goal.merge-requires
merge-requires c =
    let a = c.args in
    let t = rows (width_of table_c) a.c a.t.now in
    let shut = rows (width_of table_c) a.c c.close.new.t in
    let f = shut_form (width_of table_c) a.u t c.requires.k_in_bounds.1.1.1 a.places.now a.k c.requires.k_in_bounds.0.0 c.requires.k_in_bounds.0.1 c.requires.t_len.1.1 c.flag_places.new.flags 4096
    (small a.c a.t.now c.requires.t_len.1.0) c.flag_places.ensures shut c.close.ensures in
    let r = shut_room (width_of table_c) a.u t c.requires.k_in_bounds.1.1.1 a.places.now a.k c.requires.k_in_bounds.0.0 c.requires.k_in_bounds.0.1 c.requires.t_len.1.1 c.flag_places.new.flags 4096
    (small a.c a.t.now c.requires.t_len.1.0) c.flag_places.ensures shut c.close.ensures in
    let n = left_is a.c c.close.new.t c.count_free.result c.count_free.ensures in record { t_len = (c.close.auto.t ∙ c.requires.t_len.0, (c.requires.k_in_bounds.1.0, omega (arith, r, n, rows-length (width_of table_c) a.c a.t.now))); t_value = (f, (n, refl)) }

pub returns : goal.returns
returns c =
    let a = c.args in
    let t = rows (width_of table_c) a.c a.t.now in
    let shut = rows (width_of table_c) a.c c.close.new.t in
    let n = left_is a.c c.close.new.t c.count_free.result c.count_free.ensures in
    let e = c.merge.ensures ∙ ap (λ (x : Row). with_rows (width_of table_c) (x ∷ []) shut) (take_all (width_of table_c) a.row.now (omega (arith, c.requires.k_in_bounds.1.0))) in record {
      value = add-one _ ∙ ap suc n
          ∙ many_number (width_of table_c) a.u t c.requires.k_in_bounds.1.1.1 a.places.now a.k c.requires.k_in_bounds.0.0 c.requires.k_in_bounds.0.1 c.requires.t_len.1.1 c.flag_places.new.flags 4096
          (small a.c a.t.now c.requires.t_len.1.0) c.flag_places.ensures shut c.close.ensures a.row.now c.requires.k_in_bounds.1.1.0 _ e;
      t_after = many_is (width_of table_c) a.u t c.requires.k_in_bounds.1.1.1 a.places.now a.k c.requires.k_in_bounds.0.0 c.requires.k_in_bounds.0.1 c.requires.t_len.1.1 c.flag_places.new.flags 4096
          (small a.c a.t.now c.requires.t_len.1.0) c.flag_places.ensures shut c.close.ensures a.row.now c.requires.k_in_bounds.1.1.0 _ e;
    }
