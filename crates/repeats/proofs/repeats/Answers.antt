use Prim.Native.Nat.{◌+◌, ◌*◌, ◌-◌, ◌≤◌, ◌<◌}
use mathlib.Core.Path.{◌≡◌, sym, ap, ap₂, ◌∙◌}
use mathlib.Core.Bool.{Bool}
use mathlib.Core.List.{[]}
use native.Mathlib.Omega.{arith}
use lib.ListN.{length, get_or, take, drop}
use Rattle.table.specs.Lists.{bit, same, repeats}
use Rattle.table.specs.Table.{rows}
use Rattle.repeats.proofs.Keys.{row_reach, inside, key_text, key_before, keys_length, rising}
use Rattle.repeats.proofs.Neighbours.{next, repeats_start, repeats_turn, repeats_end}
use Rattle.repeats.proofs.repeats.Goals as goal
use Rattle.repeats.proofs.repeats.Goals.{else-alike, then-alike}
use Rattle.repeats.proofs.repeats.Invariants.{tags}
use Rattle.repeats.proofs.repeats.Lts.View as view
use Rattle.repeats.proofs.repeats.Goals.{After-alike, In-loop-i, Joined-alike}

-- the row ends within the table, and one is before it
row : (c : In-loop-i) →
    let a = c.args in
    let i = c.loop-i.i in
    (a.w * i + a.w ≤ length a.t.now) × (a.w ≤ a.w * i)
row c = let a = c.args in
    let i = c.loop-i.i in
    ((inside a.w a.n a.u a.t.now c.requires.1 c.requires.0.1 i (omega (arith, c.loop-i-test.true))).1, row_reach a.w i (omega arith))

-- what the comparison tells
compared : (c : After-alike) →
    let a = c.args in
    let i = c.loop-i.i in
    same (get_or (tags a.w a.n a.t.now) (i - 1) []) (get_or (tags a.w a.n a.t.now) i []) ≡ c.alike.result
compared c = let a = c.args in
    let i = c.loop-i.i in
    let h : i < a.u = omega (arith, c.loop-i-test.true) in
    ap₂ same (key_before a.w a.n a.u a.t.now c.requires.1 c.requires.0.1 32 i (omega (arith, c.requires.0.0)) (omega arith) h)
    (key_text a.w a.n a.u a.t.now c.requires.1 c.requires.0.1 32 i (omega (arith, c.requires.0.0)) h)
    ∙ sym c.alike.ensures

-- the tags from the next on
turn : (c : Joined-alike) (b : Bool) → c.alike.result ≡ b →
    let a = c.args in
    let l = c.loop-i in
    l.r + bit b + next (get_or (tags a.w a.n a.t.now) (l.i + 1 - 1) []) (drop (l.i + 1) (tags a.w a.n a.t.now)) ≡ repeats (tags a.w a.n a.t.now)
turn c b e = let a = c.args in
    let l = c.loop-i in
    let k = keys_length a.w a.u (rows a.w a.n a.t.now) c.requires.1 (take 32) in
    let t = repeats_turn (tags a.w a.n a.t.now) l.i (omega (arith, c.loop-i-test.true)) in
    let q = ap bit (compared (view.up-After-alike _ _ _ _ _ c.before.before) ∙ e) in
    let v = l.invariant.1 in
    omega arith

pub loop-i-init : goal.loop-i-init
loop-i-init c =
    let a = c.args in
    (omega arith, repeats_start (tags a.w a.n a.t.now) (rising a.w a.u (rows a.w a.n a.t.now) c.requires.1 32))

pub alike-requires : goal.alike-requires
alike-requires c =
    (omega (arith, row c, c.requires.0.0), omega (arith, row c, c.requires.0.0))

pub loop-i-preserved : goal.loop-i-preserved
loop-i-preserved c =
    let v = c.loop-i.invariant in
    elim c.if-alike.branch [ then-alike w ↦ let t = turn c _ w.if-alike.true in (omega (arith, v, w.r-is), omega (arith, w.r-is, t)) | else-alike w ↦ let t = turn c _ w.if-alike.false in (omega (arith, v, w.r-is), omega (arith, w.r-is, t)) ]

pub returns : goal.returns
returns c =
    let a = c.args in
    let l = c.loop-i in
    repeats_end (tags a.w a.n a.t.now) l.i l.r (omega (arith, c.loop-i-test.false, keys_length a.w a.u (rows a.w a.n a.t.now) c.requires.1 (take 32))) l.invariant.1

pub overflow_mul-a : goal.overflow_mul-a
overflow_mul-a c = omega (arith, row c)

pub overflow_add-a : goal.overflow_add-a
overflow_add-a c = omega (arith, row c)
