-- The first row that is not before the tag has it, or none has.
use Prim.Native.Nat.{ℕ, ◌+◌, ◌*◌, ◌≤◌, ◌<◌}
use mathlib.Core.Path.{◌≡◌, sym, ap, ◌∙◌}
use mathlib.Core.List.{[]}
use native.Mathlib.Omega.{arith}
use lib.ListN.{length, get_or}
use Rattle.table.specs.Table.{Row, Table, rows}
use Rattle.table.proofs.Rows.{rows-length}
use Rattle.table.proofs.Walk.{row_end, row_part}
use Rattle.table.proofs.Order.{rows_counted, form_true}
use Rattle.table.proofs.Search.{starts_with, search_found, search_none, search_past, place_starts}
use Rattle.search.proofs.settled.Goals as goal
use Rattle.search.proofs.settled.Lts.View as view
use Rattle.search.proofs.settled.Goals.{After-starts, Then-i-u}

-- the row is one of the table's, and ends within it
inside : (c : Then-i-u) →
    let a = c.args in
    (a.i < a.n) × (a.w * a.i + a.w ≤ length a.t.now)
inside c = let a = c.args in
    let r = rows_counted (rows a.w a.n a.t.now) in
    let l = rows-length a.w a.n a.t.now in
    let k : a.i < a.n = omega (arith, c.requires.1.0.number, c.if-i-u.true) in
    (k, omega (arith, row_end a.w a.n a.i k, c.requires.0.1))

-- what was found of it
tested : (c : After-starts) →
    let a = c.args in
    starts_with a.tag.now (get_or (rows a.w a.n a.t.now) a.i []) ≡ c.starts.result
tested c = let a = c.args in
    sym (c.starts.ensures ∙ ap (λ (r : Row). starts_with a.tag.now r) (row_part a.w a.n a.i a.t.now (inside (view.up-Then-i-u _ _ _ c.before.before.before)).0))

pub returns-then-starts : goal.returns-then-starts
returns-then-starts c =
    let a = c.args in
    let t : Table = rows a.w a.n a.t.now in
    let e = c.requires.1.1 in
    sym (place_starts a.tag.now t c.requires.0.0.1
    ∙ search_found a.w t (form_true a.w t c.requires.1.0.form) c.requires.1.0.marks a.tag.now
    (sym (ap (λ (i : ℕ). starts_with a.tag.now (get_or t i [])) e) ∙ tested (goal.at.returns-then-starts c).After-starts ∙ c.if-starts.true)
    (omega (arith, e, rows-length a.w a.n a.t.now, (inside (goal.at.returns-then-starts c).Then-i-u).0)) ∙ sym e)

pub returns-else-starts : goal.returns-else-starts
returns-else-starts c =
    let a = c.args in
    let t : Table = rows a.w a.n a.t.now in
    let e = c.requires.1.1 in
    sym (place_starts a.tag.now t c.requires.0.0.1
    ∙ search_none a.w t (form_true a.w t c.requires.1.0.form) c.requires.1.0.marks a.tag.now
    (omega (arith, e, rows-length a.w a.n a.t.now, (inside (goal.at.returns-else-starts c).Then-i-u).0))
    (sym (ap (λ (i : ℕ). starts_with a.tag.now (get_or t i [])) e) ∙ tested (goal.at.returns-else-starts c).After-starts ∙ c.if-starts.false) ∙ rows-length a.w a.n a.t.now)

pub returns-else-i-u : goal.returns-else-i-u
returns-else-i-u c =
    let a = c.args in
    let t : Table = rows a.w a.n a.t.now in
    sym (place_starts a.tag.now t c.requires.0.0.1
    ∙ search_past a.w t (form_true a.w t c.requires.1.0.form) c.requires.1.0.marks a.tag.now (omega (arith, c.requires.1, c.if-i-u.false))
    ∙ rows-length a.w a.n a.t.now)

pub overflow_mul-at : goal.overflow_mul-at
overflow_mul-at c = omega (arith, inside c)

pub overflow_add-e : goal.overflow_add-e
overflow_add-e c = omega (arith, inside c)

pub slice_bounds-starts-end : goal.slice_bounds-starts-end
slice_bounds-starts-end c = omega (arith, inside c)
