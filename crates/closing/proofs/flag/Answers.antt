use Prim.Native.Nat.{ℕ, ◌+◌, ◌*◌, ◌≤◌, ◌<◌}
use mathlib.Core.Path.{◌≡◌, sym, ap, ◌∙◌}
use mathlib.Core.Bool.{Bool, true, false, not, ◌&&◌}
use mathlib.Core.List.{List, []}
use native.Mathlib.Omega.{arith}
use lib.ListN.{length, get_or, take}
use Rattle.octets.specs.Compare.{same}
use Rattle.table.specs.Table.{Row, Table, rows, body, zero_row, mark_bad}
use Rattle.table.specs.Order.{in_form, used_rows}
use Rattle.table.specs.Search.{first_not_before}
use Rattle.table.proofs.Rows.{rows-length, zero_free}
use Rattle.table.proofs.Walk.{row_end, row_part}
use Rattle.table.proofs.Order.{rows_counted, InForm, form_true}
use Rattle.table.proofs.Search.{starts_with, free_row, first_most, starts_before, starts_after}
use Rattle.closing.proofs.Flagging.{flagging_none, flagging_turn, flagging_end}
use Rattle.closing.proofs.flag.Goals as goal
use Rattle.closing.proofs.flag.Lts.View as view
use Rattle.closing.proofs.flag.Goals.{After-starts, In-loop-i}

-- a used row stands, and ends, within the table
inside : (c : In-loop-i) →
    let a = c.args in
    (c.loop-i.i < a.n) × (a.w * c.loop-i.i + a.w ≤ length a.t.now)
inside c = let s = c in
    let a = s.args in
    let r = rows_counted (rows a.w a.n a.t.now) in
    let l = rows-length a.w a.n a.t.now in
    let k : c.loop-i.i < a.n = omega (arith, s.requires.t_value.1.1, c.loop-i-test.true) in
    (k, omega (arith, row_end a.w a.n c.loop-i.i k, s.requires.key_len_bound.1.0))

-- the first row that is not before the key is one of the used ones, or the next
below : (w n u : ℕ) (t key : List ℕ) → in_form w (rows w n t) ≡ true → mark_bad 1 (rows w n t) ≡ false → u ≡ length (used_rows (rows w n t)) → first_not_before key (rows w n t) ≤ u
below w n u t key f m e = omega (arith, first_most w (rows w n t) (form_true w (rows w n t) f) m key)

-- what was found of it
tested : (c : After-starts) →
    let a = c.args in
    starts_with a.key.now (get_or (rows a.w a.n a.t.now) c.loop-i.i []) ≡ c.starts.result
tested c = let a = c.args in
    sym (c.starts.ensures ∙ ap (λ (r : Row). starts_with a.key.now r) (row_part a.w a.n c.loop-i.i a.t.now (inside (view.up-In-loop-i _ _ _ _ _ _ c.before.before.before)).0))

pub loop-i-init : goal.loop-i-init
loop-i-init c =
    let s = c in
    let a = s.args in
    let t : Table = rows a.w a.n a.t.now in
    let f : InForm a.w t = form_true a.w t s.requires.t_value.0 in
    let e = c.lower-from.ensures in (
      e,
      flagging_none (λ b. same (take (length a.key.now) b) a.key.now) t a.flags.now c.lower-from.result (λ j h. starts_before a.w t f s.requires.t_value.1.0 a.key.now j (omega arith)),
    )

pub overflow_mul-at : goal.overflow_mul-at
overflow_mul-at c =
    omega (arith, inside c)

pub overflow_add-e : goal.overflow_add-e
overflow_add-e c =
    omega (arith, inside c)

pub slice_bounds-starts-end : goal.slice_bounds-starts-end
slice_bounds-starts-end c =
    omega (arith, inside c)

pub returns-then-not-starts : goal.returns-then-not-starts
returns-then-not-starts c =
    let s = c in
    let a = s.args in
    let l = c.loop-i in
    let t : Table = rows a.w a.n a.t.now in
    let g = l.invariant.1 in
    let both = flagging_end (λ b. same (take (length a.key.now) b) a.key.now) t a.flags.now c.lower-from.result l.i l.flags g
    (λ j h k. starts_after a.w t (form_true a.w t s.requires.t_value.0) s.requires.t_value.1.0 a.key.now l.i j (omega (arith, l.invariant.0, g.past)) (tested (goal.at.returns-then-not-starts c).After-starts ∙ c.if-not-starts.true) h k) in
    record { value = both.0; flags_after = both.1 }

pub loop-i-preserved : goal.loop-i-preserved
loop-i-preserved c =
    let s = c in
    let a = s.args in
    let l = c.loop-i in
    let t : Table = rows a.w a.n a.t.now in (
      l.invariant.0,
      flagging_turn (λ b. same (take (length a.key.now) b) a.key.now) t a.flags.now c.lower-from.result l.i l.flags l.invariant.1
          (rw (rows-length a.w a.n a.t.now) (inside (goal.at.loop-i-preserved c).In-loop-i).0) (tested (goal.at.loop-i-preserved c).After-starts ∙ c.if-not-starts.false),
    )

pub returns : goal.returns
returns c =
    let s = c in
    let a = s.args in
    let l = c.loop-i in
    let t : Table = rows a.w a.n a.t.now in
    let both = flagging_end (λ b. same (take (length a.key.now) b) a.key.now) t a.flags.now c.lower-from.result l.i l.flags l.invariant.1
    (λ j h k. ap (λ (r : Row). starts_with a.key.now r) (free_row a.w t (form_true a.w t s.requires.t_value.0) j (omega (arith, s.requires.t_value.1.1, c.loop-i-test.false)) k)
    ∙ ap (λ (b : Bool). not b && same (take (length a.key.now) (body (zero_row a.w))) a.key.now) (zero_free a.w)) in
    record { value = omega (arith, both.0, below a.w a.n a.u a.t.now a.key.now s.requires.t_value.0 s.requires.t_value.1.0 s.requires.t_value.1.1, c.lower-from.ensures); flags_after = both.1 }

pub overflow_sub-result-2 : goal.overflow_sub-result-2
overflow_sub-result-2 c =
    let a = c.args in
    let v = c.requires.t_value in
    omega (arith, below a.w a.n a.u a.t.now a.key.now v.0 v.1.0 v.1.1, c.lower-from.ensures)
