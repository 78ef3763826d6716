use Prim.Native.Nat.{ℕ, ◌+◌, ◌*◌, ◌≤◌, ◌<◌}
use mathlib.Core.Path.{◌≡◌, sym, ap, ◌∙◌}
use mathlib.Core.List.{List, []}
use native.Mathlib.Omega.{arith}
use lib.ListN.{length, take, drop, get_or}
use Rattle.table.specs.Table.{Table, rows, body}
use Rattle.table.specs.Order.{precedes}
use Rattle.table.specs.Search.{first_not_before}
use Rattle.table.proofs.Rows.{rows-length}
use Rattle.table.proofs.Walk.{row_end, body_field}
use Rattle.table.proofs.Order.{rows_counted, form_true}
use Rattle.table.proofs.Search.{first_above, first_below, first_most}
use Rattle.table.proofs.Looked.{looked_here, looked_past}
use Rattle.walking.proofs.passed.Goals as goal
use Rattle.walking.proofs.passed.Lts.View as view
use Rattle.walking.proofs.passed.Goals.{After-smaller, In-loop-i}

-- the row is a used one, and ends within the table
inside : (c : In-loop-i) →
    let a = c.args in
    (c.loop-i.i < a.n) × (a.w * c.loop-i.i + a.w ≤ length a.t.now)
inside c = let a = c.args in
    let r = rows_counted (rows a.w a.n a.t.now) in
    let l = rows-length a.w a.n a.t.now in
    let k : c.loop-i.i < a.n = omega (arith, c.requires.1.number, c.loop-i-test.true) in
    (k, omega (arith, row_end a.w a.n c.loop-i.i k, c.requires.0.1))

-- what was found of it
found : (c : After-smaller) →
    let a = c.args in
    precedes (take (length a.tag.now) (body (get_or (rows a.w a.n a.t.now) c.loop-i.i []))) a.tag.now ≡ c.smaller.result
found c = let a = c.args in
    let l = c.loop-i in
    sym (c.smaller.ensures
    ∙ ap (λ (x : List ℕ). precedes x a.tag.now)
    (ap (λ (m : ℕ). take m (drop (a.w * l.i + 1) a.t.now)) (sym c.requires.0.0.1)
    ∙ sym (body_field a.w a.n l.i 0 (length a.tag.now) a.t.now (inside (view.up-In-loop-i _ _ _ _ _ _ c.before.before)).0 (omega (arith, c.requires.0.0)))))

pub loop-i-preserved : goal.loop-i-preserved
loop-i-preserved c =
    let a = c.args in
    let t : Table = rows a.w a.n a.t.now in
    let l = c.loop-i in
    let k = c.loop-i-test.true in
    let h = first_above a.w t (form_true a.w t c.requires.1.form) c.requires.1.marks a.tag.now l.i (omega (arith, c.requires.1.number)) (found (goal.at.loop-i-preserved c).After-smaller ∙ c.if-not-smaller.false) in
    (omega (arith, l.invariant), omega arith)

pub returns-then-not-smaller : goal.returns-then-not-smaller
returns-then-not-smaller c =
    let a = c.args in
    let t : Table = rows a.w a.n a.t.now in
    let l = c.loop-i in
    let k = c.loop-i-test.true in
    let e : l.i ≡ first_not_before a.tag.now t =
    omega (arith, l.invariant, first_below a.w t (form_true a.w t c.requires.1.form) c.requires.1.marks a.tag.now l.i (omega (arith, c.requires.1.number)) (found (goal.at.returns-then-not-smaller c).After-smaller ∙ c.if-not-smaller.true)) in record {
      at_value = e;
      rows_value = omega (arith, l.invariant, looked_here a.w a.u t c.requires.1 a.tag.now c.requires.0.0.1 l.i e k);
    }

pub returns : goal.returns
returns c =
    let a = c.args in
    let t : Table = rows a.w a.n a.t.now in
    let l = c.loop-i in
    let m = first_most a.w t (form_true a.w t c.requires.1.form) c.requires.1.marks a.tag.now in
    let e : a.u ≡ first_not_before a.tag.now t = omega (arith, l.invariant, c.requires.1.number, c.loop-i-test.false) in record {
      at_value = omega (arith, l.invariant, c.loop-i-test.false);
      rows_value = omega (arith, l.invariant, c.loop-i-test.false, looked_past a.w a.u t c.requires.1 a.tag.now c.requires.0.0.1 e);
    }

pub smaller-requires : goal.smaller-requires
smaller-requires c = (c.requires.0.0.1, omega (arith, inside c, c.loop-i.invariant, c.requires.0.0))

pub overflow_mul-w : goal.overflow_mul-w
overflow_mul-w c = omega (arith, inside c)

pub overflow_add-w : goal.overflow_add-w
overflow_add-w c = omega (arith, inside c)
