use Prim.Native.Nat.{ℕ, ◌-◌, ◌≤◌, ◌<◌}
use mathlib.Core.Path.{◌≡◌, refl, sym, ap, ◌∙◌}
use mathlib.Core.Bool.{false}
use mathlib.Core.List.{[], ◌++◌}
use native.Mathlib.Omega.{arith}
use lib.ListN.{length, get_or, take, drop, replicate}
use Rattle.table.specs.Table.{Table, rows, is_free, zero_row}
use Rattle.table.proofs.Rows.{rows-length}
use Rattle.table.proofs.Order.{rows_counted, form_true}
use Rattle.table.proofs.Search.{used_row}
use Rattle.closing.proofs.Gathering.{gathered_form}
use Rattle.closing.proofs.Runs.{closing_start, closing_turn}
use Rattle.closing.proofs.close.Goals as goal
use Rattle.closing.proofs.close.Goals.{Start}

-- no more rows are used than there are
most : (c : Start) → c.args.u ≤ c.args.n
most c = let a = c.args in omega (arith, rows_counted (rows a.w a.n a.t.now), rows-length a.w a.n a.t.now, c.requires.t_value.1)

rows_most : (c : Start) → c.args.u ≤ length (rows c.args.w c.args.n c.args.t.now)
rows_most c = let a = c.args in omega (arith, most c, rows-length a.w a.n a.t.now)

flags_most : (c : Start) → c.args.u ≤ length c.args.flags.now
flags_most c = omega (arith, most c, c.requires.t_len.1)

-- the first u rows are used
used : (c : Start) (j : ℕ) → j < c.args.u → is_free (get_or (rows c.args.w c.args.n c.args.t.now) j []) ≡ false
used c j h = let a = c.args in
    let t : Table = rows a.w a.n a.t.now in
    used_row a.w t (form_true a.w t c.requires.t_value.0) j (omega (arith, c.requires.t_value.1))

pub next_flagged-i-requires : goal.next_flagged-i-requires
next_flagged-i-requires c =
    (omega arith, flags_most (goal.at.next_flagged-i-requires c).Start)

pub loop-i-init : goal.loop-i-init
loop-i-init c =
    let a = c.args in
    (refl, (omega arith, (c.next_flagged-i.ensures.1.1, closing_start a.w a.flags.now a.u (rows a.w a.n a.t.now) (flags_most (goal.at.loop-i-init c).Start) (rows_most (goal.at.loop-i-init c).Start) (used (goal.at.loop-i-init c).Start) _ c.next_flagged-i.ensures.0)))

pub next_staying-s-requires : goal.next_staying-s-requires
next_staying-s-requires c =
    (omega arith, flags_most (goal.at.next_staying-s-requires c).Start)

pub next_flagged-e-requires : goal.next_flagged-e-requires
next_flagged-e-requires c =
    (c.next_staying-s.ensures.1.1, flags_most (goal.at.next_flagged-e-requires c).Start)

pub move_rows-requires : goal.move_rows-requires
move_rows-requires c = (
  c.loop-i.invariant.0 ∙ c.requires.t_len.0,
  (omega (arith, most (goal.at.move_rows-requires c).Start, c.next_flagged-e.ensures.1), omega (arith, most (goal.at.move_rows-requires c).Start, c.loop-i.invariant.1.0, c.next_staying-s.ensures.1, c.next_flagged-e.ensures.1)),
)

pub loop-i-preserved : goal.loop-i-preserved
loop-i-preserved c =
    let a = c.args in
    let l = c.loop-i in
    (c.move_rows.auto.t ∙ l.invariant.0, (omega (arith, l.invariant.1.0, c.next_staying-s.ensures.1, c.next_flagged-e.ensures.1), (c.next_flagged-e.ensures.1.1, closing_turn a.w a.flags.now a.u (rows a.w a.n a.t.now) (flags_most (goal.at.loop-i-preserved c).Start) (rows_most (goal.at.loop-i-preserved c).Start) (used (goal.at.loop-i-preserved c).Start) l.i l.to (rows a.w a.n l.t) l.invariant.1.1.1 c.loop-i-test.true _ _ c.next_staying-s.ensures.0 c.next_flagged-e.ensures.0 _ c.move_rows.ensures)))

pub wipe-requires : goal.wipe-requires
wipe-requires c =
    (omega (arith, c.loop-i.invariant.1), (most (goal.at.wipe-requires c).Start, c.loop-i.invariant.0 ∙ c.requires.t_len.0))

pub returns : goal.returns
returns c =
    let s = c in
    let a = c.args in
    let l = c.loop-i in
    let t₀ : Table = rows a.w a.n a.t.now in
    let t : Table = rows a.w a.n l.t in
    let g = l.invariant.1.1.1 in
    let e : a.u ≡ l.i = omega (arith, l.invariant.1.1.0, c.loop-i-test.false) in
    gathered_form a.w a.flags.now t₀ l.i l.to t g.gathering (form_true a.w t₀ s.requires.t_value.0) (sym e ∙ s.requires.t_value.1) _
    (c.wipe.ensures ∙ ap (λ (m : ℕ). take l.to t ++ (replicate (m - l.to) (zero_row a.w) ++ drop m t)) e)
