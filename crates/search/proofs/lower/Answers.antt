use Prim.Native.Nat.{ℕ, ◌+◌, ◌*◌, ◌-◌, ◌/◌, ◌≤◌, ◌<◌}
use mathlib.Core.Path.{◌≡◌, sym, ap, ◌∙◌}
use mathlib.Core.List.{List, []}
use native.Mathlib.Nat.{add-sub_cancel_left}
use native.Mathlib.Omega.{arith}
use lib.ListN.{length, take, drop, get_or}
use Rattle.table.specs.Table.{Table, rows, body}
use Rattle.table.specs.Order.{precedes}
use Rattle.table.proofs.Rows.{rows-length}
use Rattle.table.proofs.Walk.{row_end, body_field}
use Rattle.table.proofs.Order.{rows_counted, form_true}
use Rattle.table.proofs.Search.{first_above, first_below, first_most}
use Rattle.search.proofs.lower.Goals as goal
use Rattle.search.proofs.lower.Lts.View as view
use Rattle.search.proofs.lower.Goals.{After-precedes, In-loop-lo}

-- the row between
abbrev mid : (c : In-loop-lo) → ℕ
mid c = c.loop-lo.lo + (c.loop-lo.hi - c.loop-lo.lo) / 2

-- it is a used row, and ends within the table
inside : (c : In-loop-lo) →
    let a = c.args in
    (mid c < a.u) × (mid c < a.n) × (a.w * mid c + a.w ≤ length a.t.now)
inside c = let a = c.args in
    let r = rows_counted (rows a.w a.n a.t.now) in
    let l = rows-length a.w a.n a.t.now in
    let h : mid c < a.u = omega (arith, c.loop-lo-test.true) in
    let k : mid c < a.n = omega (arith, c.requires.t_value.1.1) in
    (h, k, omega (arith, row_end a.w a.n (mid c) k, c.requires.key_len_bound.1))

-- what was found of it
found : (c : After-precedes) →
    let a = c.args in
    precedes (take (length a.key.now) (body (get_or (rows a.w a.n a.t.now) (mid (view.up-In-loop-lo _ _ _ _ _ _ c.before.before.before)) []))) a.key.now ≡ c.precedes.result
found c = let a = c.args in
    let i : ℕ = mid (view.up-In-loop-lo _ _ _ _ _ _ c.before.before.before) in
    let k : ℕ = length a.key.now in
    sym (c.precedes.ensures
    ∙ ap (λ (l : List ℕ). precedes l a.key.now)
    (ap (λ (m : ℕ). take m (drop (a.w * i + 1) a.t.now)) (add-sub_cancel_left (a.w * i + 1) k)
    ∙ sym (body_field a.w a.n i 0 k a.t.now (inside (view.up-In-loop-lo _ _ _ _ _ _ c.before.before.before)).1 (omega (arith, c.requires.key_len_bound.0)))))

pub loop-lo-init : goal.loop-lo-init
loop-lo-init c =
    let a = c.args in
    let t : Table = rows a.w a.n a.t.now in
    (omega arith, omega (arith, first_most a.w t (form_true a.w t c.requires.t_value.0) c.requires.t_value.1.0 a.key.now, c.requires.t_value.1.1), omega arith)

pub overflow_mul-a : goal.overflow_mul-a
overflow_mul-a c =
    omega (arith, inside c)

pub overflow_add-a : goal.overflow_add-a
overflow_add-a c =
    omega (arith, inside c)

pub overflow_add-e : goal.overflow_add-e
overflow_add-e c =
    omega (arith, inside c)

pub slice_bounds-precedes-end : goal.slice_bounds-precedes-end
slice_bounds-precedes-end c =
    omega (arith, inside c)

pub loop-lo-preserved-then-precedes : goal.loop-lo-preserved-then-precedes
loop-lo-preserved-then-precedes c =
    let a = c.args in
    let t : Table = rows a.w a.n a.t.now in
    let i = inside (goal.at.loop-lo-preserved-then-precedes c).In-loop-lo in
    let h = first_above a.w t (form_true a.w t c.requires.t_value.0) c.requires.t_value.1.0 a.key.now (mid (goal.at.loop-lo-preserved-then-precedes c).In-loop-lo) (omega (arith, c.requires.t_value.1.1)) (found (goal.at.loop-lo-preserved-then-precedes c).After-precedes ∙ c.if-precedes.true) in
    (omega arith, c.loop-lo.invariant.1, c.loop-lo.invariant.2)

pub loop-lo-preserved : goal.loop-lo-preserved
loop-lo-preserved c =
    let a = c.args in
    let t : Table = rows a.w a.n a.t.now in
    let i = inside (goal.at.loop-lo-preserved c).In-loop-lo in
    let h = first_below a.w t (form_true a.w t c.requires.t_value.0) c.requires.t_value.1.0 a.key.now (mid (goal.at.loop-lo-preserved c).In-loop-lo) (omega (arith, c.requires.t_value.1.1)) (found (goal.at.loop-lo-preserved c).After-precedes ∙ c.if-precedes.false) in
    (c.loop-lo.invariant.0, h, omega arith)
