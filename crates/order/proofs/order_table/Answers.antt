-- The used rows come together, and are sorted.
use Prim.Native.Nat.{ℕ, ◌*◌, ◌≤◌}
use mathlib.Core.Path.{◌≡◌, sym, ap, ◌∙◌}
use native.Mathlib.Omega.{arith}
use lib.Seq.{length-take-le}
use lib.ListN.{length, drop, length-append, length-drop, length-replicate}
use Rattle.table.proofs.Order.{used_rows-length}
use Rattle.table.specs.Table.{rows}
use Rattle.scheme.specs.Store.{table_m, width_of}
use Rattle.order.proofs.Laws.{front_le, front_small, gathered}
use Rattle.order.proofs.order_table.Goals as goal
use Rattle.order.proofs.order_table.Goals.{After-keep_used-u, Start}

abbrev start : After-keep_used-u → Start
start c = c.before.before.before.before

-- the gathered table is as long

long : (c : After-keep_used-u) → length c.keep_used-u.new.t ≡ (start c).args.w * (start c).args.n
long c = c.keep_used-u.auto.t ∙ (start c).requires.1.1

-- its used rows take no more than so many bytes

small : (c : After-keep_used-u) → (start c).args.w * c.keep_used-u.result ≤ width_of table_m * 4096
small c = let a = (start c).args in
    front_small a.w a.n c.keep_used-u.result a.t.now c.keep_used-u.new.t (long c) c.keep_used-u.ensures.value c.keep_used-u.ensures.t_after (start c).requires.0.1 (start c).requires.1.0

inside : (c : After-keep_used-u) → (start c).args.w * c.keep_used-u.result ≤ length c.keep_used-u.new.t
inside c = let a = (start c).args in
    front_le a.w a.n c.keep_used-u.result a.t.now c.keep_used-u.new.t (long c) c.keep_used-u.ensures.value c.keep_used-u.ensures.t_after

roomy : (c : After-keep_used-u) → (start c).args.w * c.keep_used-u.result ≤ length c.blank-room.result
roomy c = omega (arith, small c, ap length c.blank-room.ensures ∙ length-replicate {A = ℕ} (width_of table_m * 4096) 0)

pub overflow_mul-e : goal.overflow_mul-e
overflow_mul-e c =
    omega (arith, small (goal.at.overflow_mul-e c).After-keep_used-u)

pub slice_bounds-sort-end : goal.slice_bounds-sort-end
slice_bounds-sort-end c =
    inside (goal.at.slice_bounds-sort-end c).After-keep_used-u

pub slice_bounds-sort-end-2 : goal.slice_bounds-sort-end-2
slice_bounds-sort-end-2 c =
    sym (length-take-le _ _ (inside (goal.at.slice_bounds-sort-end-2 c).After-keep_used-u))

pub slice_bounds-room-end : goal.slice_bounds-room-end
slice_bounds-room-end c =
    roomy (goal.at.slice_bounds-room-end c).After-keep_used-u

pub slice_bounds-sort-end-3 : goal.slice_bounds-sort-end-3
slice_bounds-sort-end-3 c =
    sym (length-take-le _ _ (roomy (goal.at.slice_bounds-sort-end-3 c).After-keep_used-u))

pub sort-requires : goal.sort-requires
sort-requires c =
    (length-take-le _ _ (inside (goal.at.sort-requires c).After-keep_used-u), length-take-le _ _ (roomy (goal.at.sort-requires c).After-keep_used-u))

pub shape_of-t : goal.shape_of-t
shape_of-t c =
    let k = (goal.at.shape_of-t c).After-keep_used-u in
    let o = c.keep_used-u in
    let x = c.args.w * o.result in
    omega (arith, length-append c.sort.new.t (drop x o.new.t), length-drop x o.new.t, c.sort.auto.t, length-take-le x o.new.t (inside k), inside k, o.auto.t)

pub returns : goal.returns
returns c =
    let k = (goal.at.returns c).After-keep_used-u in
    let o = c.keep_used-u in
    let a = c.args in record {
      value = o.ensures.value ∙ used_rows-length (rows a.w a.n a.t.now);
      t_after = gathered a.w a.n o.result a.t.now o.new.t (long k) o.ensures.value o.ensures.t_after c.sort.new.t (c.sort.auto.t ∙ length-take-le _ o.new.t (inside k)) c.sort.ensures.0;
    }
