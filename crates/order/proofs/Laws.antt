-- A table that was gathered and sorted is in form; the tables of a store, one after the other.
use Prim.Native.Nat.{ℕ, ◌+◌, ◌-◌, ◌*◌, ◌≤◌}
use mathlib.Core.Path.{◌≡◌, refl, sym, ap, ap₂, ◌∙◌, fun_ext}
use mathlib.Core.List.{List, [], ◌∷◌, ◌++◌}
use native.Mathlib.Omega.{arith}
use native.Mathlib.Nat.{mul-le-mul_left}
use lib.ListN.{length, replicate, take, drop}
use lib.Seq.{take_at, drop_at, length-take-le}
use Rattle.table.specs.Table.{Table, rows, used, free_rows, zero_row}
use Rattle.table.specs.Order.{used_rows, sorted, arranged, reordered}
use Rattle.table.proofs.Rows.{rows-length, free_used}
use Rattle.table.proofs.Walk.{rows_take}
use Rattle.table.proofs.Order.{rows_counted}
use Rattle.table.proofs.Cuts.{rows_front, rows_behind, rows_append}
use Rattle.answer.specs.Answer.{done, refusal}
use Rattle.answer.specs.declared.Refusal.{Refusal}
use Rattle.scheme.specs.Store.{Which, table_m, table_v, table_c, table_s, table_r, width_of, cut, joined, put_in}
use Rattle.scheme.specs.Layout.{Laid}
use Rattle.scheme.specs.Order
use Rattle.scheme.specs.Order.{used_in_all, order_verdict, ordered_store}
use Rattle.store.specs.declared.Shape.{Shape}
use Rattle.std.specs.Prelude.{Ok, Err}
use Rattle.store.specs.Check.{marked_of, span_in}
use Rattle.store.proofs.Laws.{unmarked, marked_verdict}

-- the used rows sorted, and the free ones behind them
pub sorted_front : (w : ℕ) (t : Table) → sorted (used_rows t) ++ replicate (free_rows t) (zero_row w) ≡ reordered w t
unfolding reordered arranged
sorted_front w t =
    let e : free_rows t ≡ length t - length (used_rows t) = omega (arith, rows_counted t) in
    ap (λ (k : ℕ). sorted (used_rows t) ++ replicate k (zero_row w)) e

-- of a table gathered into k, of which the first u rows came back as ys
module _ (w n u : ℕ) (t k : List ℕ) (l : length k ≡ w * n) (e : u ≡ length (used_rows (rows w n t)))
    (g : rows w n k ≡ used_rows (rows w n t) ++ replicate (free_rows (rows w n t)) (zero_row w)) where
  pub few : u ≤ n
  few = omega (arith, rows_counted (rows w n t), rows-length w n t)

  pub front_le : w * u ≤ length k
  front_le = omega (arith, mul-le-mul_left w few)

  pub front_long : length (take (w * u) k) ≡ w * u
  front_long = length-take-le (w * u) k front_le

  pub front_small : w ≤ width_of table_m → n ≤ 4096 → w * u ≤ width_of table_m * 4096
  front_small a b = omega (arith, mul-le-mul_left w few, mul-le-mul_left w b)

  pub gathered : (ys : List ℕ) → length ys ≡ w * u → rows w u ys ≡ sorted (rows w u (take (w * u) k)) → rows w n (ys ++ drop (w * u) k) ≡ reordered w (rows w n t)
  gathered ys h s =
      let us = used_rows (rows w n t) in
      let zs = replicate (free_rows (rows w n t)) (zero_row w) in
      let m : n ≡ u + (n - u) = omega (arith, few) in
      let f : rows w u (take (w * u) k) ≡ us = rows_take w u (w * u) k (omega arith) ∙ sym (rows_front w n u k few) ∙ ap (take u) g ∙ take_at us zs u (sym e) in
      let b : rows w (n - u) (drop (w * u) k) ≡ zs = sym (rows_behind w n u k few) ∙ ap (drop u) g ∙ drop_at us zs u (sym e) in
      ap (λ (i : ℕ). rows w i (ys ++ drop (w * u) k)) m
      ∙ rows_append w u (n - u) ys (drop (w * u) k) h
      ∙ ap₂ (λ (x y : Table). x ++ y) (s ∙ ap sorted f) b
      ∙ sorted_front w (rows w n t)

-- all of them in form
pub all_ordered : (b after : List ℕ) (z : Shape) (t_m t_v t_c t_s t_r : Table)
    → t_m ≡ (cut b).table table_m → t_v ≡ (cut b).table table_v → t_c ≡ (cut b).table table_c → t_s ≡ (cut b).table table_s → t_r ≡ (cut b).table table_r
    → Laid (span_in z) after (put_in table_r (reordered (width_of table_r) t_r) (put_in table_s (reordered (width_of table_s) t_s) (put_in table_c (reordered (width_of table_c) t_c) (put_in table_v (reordered (width_of table_v) t_v) (put_in table_m (reordered (width_of table_m) t_m) (cut b))))))
    → after ≡ joined (ordered_store b)
unfolding ordered_store
all_ordered b after z t_m t_v t_c t_s t_r e_m e_v e_c e_s e_r l =
    l.bytes ∙ ap (λ (f : Which → Table). joined (record { header = (cut b).header; table = f })) (fun_ext each)
  where
    each : (k : Which)
        → (put_in table_r (reordered (width_of table_r) t_r) (put_in table_s (reordered (width_of table_s) t_s) (put_in table_c (reordered (width_of table_c) t_c) (put_in table_v (reordered (width_of table_v) t_v) (put_in table_m (reordered (width_of table_m) t_m) (cut b)))))).table k
        ≡ reordered (width_of k) ((cut b).table k)
    each table_m = ap (reordered (width_of table_m)) e_m
    each table_v = ap (reordered (width_of table_v)) e_v
    each table_c = ap (reordered (width_of table_c)) e_c
    each table_s = ap (reordered (width_of table_s)) e_s
    each table_r = ap (reordered (width_of table_r)) e_r

pub all_used : (b : List ℕ) (n_m n_v n_c n_s n_r : ℕ) → n_m ≡ length (used ((cut b).table table_m)) → n_v ≡ length (used ((cut b).table table_v))
    → n_c ≡ length (used ((cut b).table table_c)) → n_s ≡ length (used ((cut b).table table_s)) → n_r ≡ length (used ((cut b).table table_r))
    → n_m + n_v + n_c + n_s + n_r ≡ used_in_all (cut b)
unfolding used_in_all
all_used b n_m n_v n_c n_s n_r e_m e_v e_c e_s e_r = omega arith

-- no more rows of a table are used than it has
pub few_used : (w n : ℕ) (t : List ℕ) → n ≤ 4096 → length (used (rows w n t)) ≤ 4096
few_used w n t h = omega (arith, free_used (rows w n t), rows-length w n t)

module _ (b : List ℕ) where
  pub order_refused : (r : Refusal) → marked_of b ≡ Err r → (refusal r ≡ (Order.order b).answer) × (b ≡ (Order.order b).store)
  unfolding Order.order order_verdict
  order_refused r e = let v = unmarked b r e in (rw v refl, rw v refl)

  pub order-done : (z : Shape) → marked_of b ≡ Ok z → (n : ℕ) (after : List ℕ) → n ≡ used_in_all (cut b) → after ≡ joined (ordered_store b)
      → (done (n ∷ []) ≡ (Order.order b).answer) × (after ≡ (Order.order b).store)
  unfolding Order.order order_verdict
  order-done z e n after en ea = let v = marked_verdict b z e in (rw v (ap (λ (m : ℕ). done (m ∷ [])) en), rw v ea)
