use Prim.Native.Nat.{◌+◌, ◌*◌, ◌≤◌, ◌<◌}
use mathlib.Core.Path.{◌≡◌, sym, ap, ◌∙◌}
use mathlib.Core.Bool.{Bool, not, ◌&&◌}
use mathlib.Core.List.{[]}
use native.Mathlib.Omega.{arith}
use lib.ListN.{length, get_or}
use Rattle.table.specs.Table.{Row, Table, rows, body, zero_row}
use Rattle.table.proofs.Rows.{rows-length, zero_free}
use Rattle.table.proofs.Walk.{row_end, row_part, row_length}
use Rattle.table.proofs.Order.{rows_counted, InForm, form_true}
use Rattle.table.proofs.Search.{starts_with, free_row, first_most, starts_before, starts_after}
use Rattle.scheme.specs.Store.{table_r, width_of}
use Rattle.test.specs.Marked.{carries_by}
use Rattle.test.proofs.Laws.{hit, left_begin, left_next, left_found, left_none, not_ids, of_id}
use Rattle.test.proofs.tests.Goals as goal
use Rattle.test.proofs.tests.Lts.View as view
use Rattle.test.proofs.tests.Goals.{After-is_marked, After-lower-from, After-starts, In-loop-i, Start}

-- where the function starts, and table R

abbrev start : After-lower-from → Start
start c = c.before.before.before.before

abbrev in_r : Start → Table
in_r s = rows (width_of table_r) s.args.n s.args.t.now

form_r : (s : Start) → InForm (width_of table_r) (in_r s)
form_r s = form_true (width_of table_r) (in_r s) s.requires.1.form

id_long : (c : After-lower-from) → length (start c).args.id.now ≡ 16
id_long c = omega (arith, c.lower-arg-1.given)

-- a used row stands, and ends, within the table

inside : (c : In-loop-i) →
    let a = (start (view.up-After-lower-from _ _ _ _ _ _ c.before.before.before)).args in
    (c.loop-i.i < a.n) × (width_of table_r * c.loop-i.i + width_of table_r ≤ length a.t.now)
inside c = let s = start (view.up-After-lower-from _ _ _ _ _ _ c.before.before.before) in
    let a = s.args in
    let k : c.loop-i.i < a.n = omega (arith, s.requires.1.number, rows_counted (in_r s), rows-length (width_of table_r) a.n a.t.now, c.loop-i-test.true) in
    (k, omega (arith, row_end (width_of table_r) a.n c.loop-i.i k, s.requires.0))

in_table : (c : In-loop-i) → c.loop-i.i < length (in_r (start (view.up-After-lower-from _ _ _ _ _ _ c.before.before.before)))
in_table c = let a = (start (view.up-After-lower-from _ _ _ _ _ _ c.before.before.before)).args in omega (arith, (inside c).0, rows-length (width_of table_r) a.n a.t.now)

-- whether it is the id's

tested : (c : After-starts) →
    let l = c in
    starts_with (start (view.up-After-lower-from _ _ _ _ _ _ l.before.before.before.before.before.before)).args.id.now (get_or (in_r (start (view.up-After-lower-from _ _ _ _ _ _ l.before.before.before.before.before.before))) l.loop-i.i []) ≡ c.starts.result
tested c = let l = c in
    let a = (start (view.up-After-lower-from _ _ _ _ _ _ l.before.before.before.before.before.before)).args in
    sym (c.starts.ensures ∙ ap (λ (r : Row). starts_with a.id.now r) (row_part (width_of table_r) a.n l.loop-i.i a.t.now (inside (view.up-In-loop-i _ _ _ _ _ _ c.before.before.before.before)).0))

-- whether it passes

marked : (c : After-is_marked) →
    let l = c in
    let a = (start (view.up-After-lower-from _ _ _ _ _ _ l.before.before.before.before.before.before.before.before.before)).args in
    hit (carries_by a.rl a.id.now) (get_or (in_r (start (view.up-After-lower-from _ _ _ _ _ _ l.before.before.before.before.before.before.before.before.before))) l.loop-i.i []) ≡ c.is_marked.result
marked c = let e = c in
    let l = e in
    let a = (start (view.up-After-lower-from _ _ _ _ _ _ l.before.before.before.before.before.before.before.before.before)).args in
    of_id a.rl a.id.now (id_long (view.up-After-lower-from _ _ _ _ _ _ l.before.before.before.before.before.before.before.before.before)) (get_or (in_r (start (view.up-After-lower-from _ _ _ _ _ _ l.before.before.before.before.before.before.before.before.before))) l.loop-i.i []) (tested (view.up-After-starts _ _ _ _ _ _ e.before.before.before.before) ∙ e.if-not-starts.false) ∙ sym c.is_marked.ensures

pub lower-from-requires : goal.lower-from-requires
lower-from-requires c =
    let s = c in record { key_len_bound = (omega (arith, c.lower-arg-1.given), s.requires.0); t_value = (s.requires.1.form, (s.requires.1.marks, s.requires.1.number)) }

pub loop-i-init : goal.loop-i-init
loop-i-init c =
    let s = start c in
    let a = s.args in
    let m = first_most (width_of table_r) (in_r s) (form_r s) s.requires.1.marks a.id.now in (
      omega (arith, c.lower-from.ensures, m, s.requires.1.number),
      (
        omega arith,
        left_begin a.rl (in_r s) a.id.now c.lower-from.result (omega (arith, c.lower-from.ensures, m, rows_counted (in_r s)))
            (λ j h. not_ids a.rl a.id.now (id_long c) (get_or (in_r s) j []) (starts_before (width_of table_r) (in_r s) (form_r s) s.requires.1.marks a.id.now j (omega (arith, h, c.lower-from.ensures)))),
      ),
    )

pub starts-requires : goal.starts-requires
starts-requires c =
    let l = c in
    let a = (start (goal.at.starts-requires c).After-lower-from).args in
    omega (arith, id_long (goal.at.starts-requires c).After-lower-from, row_length (width_of table_r) a.n l.loop-i.i a.t.now (inside (goal.at.starts-requires c).In-loop-i).0 (start (goal.at.starts-requires c).After-lower-from).requires.0)

pub returns-then-not-starts : goal.returns-then-not-starts
returns-then-not-starts c =
    let l = c in
    let s = start (goal.at.returns-then-not-starts c).After-lower-from in
    let a = s.args in
    sym (l.loop-i.invariant.1.1
    ∙ left_none (carries_by a.rl a.id.now) (in_r s) l.loop-i.i (λ j h k.
    not_ids a.rl a.id.now (id_long (goal.at.returns-then-not-starts c).After-lower-from) (get_or (in_r s) j [])
    (starts_after (width_of table_r) (in_r s) (form_r s) s.requires.1.marks a.id.now l.loop-i.i j (omega (arith, l.lower-from.ensures, l.loop-i.invariant.1.0)) (tested (goal.at.returns-then-not-starts c).After-starts ∙ c.if-not-starts.true) h k)))

pub is_marked-requires : goal.is_marked-requires
is_marked-requires c =
    let l = c in
    ((inside (goal.at.is_marked-requires c).In-loop-i).0, ((start (goal.at.is_marked-requires c).After-lower-from).requires.0, id_long (goal.at.is_marked-requires c).After-lower-from))

pub returns-then-is_marked : goal.returns-then-is_marked
returns-then-is_marked c =
    let l = c in
    let s = start (goal.at.returns-then-is_marked c).After-lower-from in
    let a = s.args in
    sym (l.loop-i.invariant.1.1 ∙ left_found (carries_by a.rl a.id.now) (in_r s) l.loop-i.i (in_table (goal.at.returns-then-is_marked c).In-loop-i) (marked (goal.at.returns-then-is_marked c).After-is_marked ∙ c.if-is_marked.true))

pub loop-i-preserved : goal.loop-i-preserved
loop-i-preserved c =
    let l = c in
    let s = start (goal.at.loop-i-preserved c).After-lower-from in
    let a = s.args in
    let i = (goal.at.loop-i-preserved c).In-loop-i in
    (omega (arith, i.loop-i-test.true), (omega (arith, l.loop-i.invariant.1.0), l.loop-i.invariant.1.1 ∙ left_next (carries_by a.rl a.id.now) (in_r s) l.loop-i.i (in_table i) (marked (goal.at.loop-i-preserved c).After-is_marked ∙ c.if-is_marked.false)))

pub returns : goal.returns
returns c =
    let l = c in
    let s = start (goal.at.returns c).After-lower-from in
    let a = s.args in
    sym (l.loop-i.invariant.1.1
    ∙ left_none (carries_by a.rl a.id.now) (in_r s) l.loop-i.i (λ j h k.
    ap (hit (carries_by a.rl a.id.now)) (free_row (width_of table_r) (in_r s) (form_r s) j (omega (arith, h, c.loop-i-test.false, s.requires.1.number)) k)
    ∙ ap (λ (b : Bool). not b && carries_by a.rl a.id.now (body (zero_row (width_of table_r)))) (zero_free (width_of table_r))))

pub overflow_mul-at : goal.overflow_mul-at
overflow_mul-at c = omega (arith, inside c)

pub overflow_add-e : goal.overflow_add-e
overflow_add-e c = omega (arith, inside c)

pub slice_bounds-starts-end : goal.slice_bounds-starts-end
slice_bounds-starts-end c = omega (arith, inside c)
