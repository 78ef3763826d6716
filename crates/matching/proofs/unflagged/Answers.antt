use Prim.Native.Nat.{ℕ, ◌+◌, ◌-◌, ◌<◌}
use mathlib.Core.Path.{◌≡◌, refl, sym, ap, ◌∙◌}
use mathlib.Core.Bool.{Bool}
use mathlib.Core.Logic.{inl, inr}
use mathlib.Core.List.{[], map}
use native.Mathlib.Omega.{arith}
use lib.Dec.{eqb}
use lib.ListN.{length, get_or, take}
use borrow.Author.Tests.{eq-eqb, ne_eqb}
use Rattle.table.specs.Lists.{bit}
use Rattle.table.specs.Table.{Table, rows, used, place_of}
use Rattle.table.proofs.Rows.{rows-length}
use Rattle.table.proofs.Counting.{same_refl}
use Rattle.matching.specs.Matching
use Rattle.repeats.proofs.Keys.{used-length, few, key_long, place_le}
use Rattle.matching.proofs.Flags.{unflagged_start, unflagged_turn, unflagged_end}
use Rattle.matching.proofs.unflagged.Goals as goal
use Rattle.matching.proofs.unflagged.Goals.{else-flags-first-eq0, then-flags-first-eq0}
use Rattle.matching.proofs.unflagged.Invariants.{rest}
use Rattle.matching.proofs.unflagged.Goals.{After-start-first, Joined-flags-first-eq0}

-- the first row with a row's tag is no later than it
place : (c : After-start-first) → c.start-first.result < length c.args.flags.now
place c = let a = c.args in
    let t : Table = rows a.w a.n a.t.now in
    let i = c.loop-j.j in
    let h : i < a.u = omega (arith, c.loop-j-test.true) in
    let p = c.requires.0 in
    let l = get_or (map (take 32) (used t)) i [] in
    omega (arith, c.start-first.ensures, place_le a.w a.u t p.1 l (key_long a.w a.n a.u a.t.now p.1 p.0.1 32 i (omega (arith, p.0.0)) h) i h (same_refl l), few a.w a.u t p.1, rows-length a.w a.n a.t.now, c.requires.1)

turn : (c : Joined-flags-first-eq0) (b : Bool) → eqb (get_or c.args.flags.now c.start-first.result 0) 0 ≡ b →
    let a = c.args in
    let l = c.loop-j in
    l.left + bit b + rest (rows a.w a.n a.t.now) a.flags.now (l.j + 1) ≡ Matching.unflagged (rows a.w a.n a.t.now) a.flags.now
turn c b e = let a = c.args in
    let t : Table = rows a.w a.n a.t.now in
    let l = c.loop-j in
    let k = used-length a.w a.u t c.requires.0.1 in
    let d = unflagged_turn t a.flags.now l.j (omega (arith, c.loop-j-test.true)) in
    let q : bit (eqb (get_or a.flags.now (place_of (get_or (map (take 32) (used t)) l.j []) t) 0) 0) ≡ bit b = ap (λ (p : ℕ). bit (eqb (get_or a.flags.now p 0) 0)) (sym c.start-first.ensures) ∙ ap bit e in
    let v = l.invariant.1.1 in
    omega arith

pub loop-j-preserved : goal.loop-j-preserved
loop-j-preserved c =
    let a = c.args in
    let l = c.loop-j in
    let v = l.invariant.0 in
    let g : l.j + 1 - 1 ≡ l.j = omega arith in
    let t : Table = rows a.w a.n a.t.now in
    let f = inr (c.start-first.ensures ∙ ap (λ (k : ℕ). place_of (get_or (map (take 32) (used t)) k []) t) (sym g)) in
    elim c.if-flags-first-eq0.branch [ then-flags-first-eq0 w ↦ let q = turn c _ (eq-eqb _ _ w.if-flags-first-eq0.true) in (omega (arith, v, w.left-is), (f, omega (arith, w.left-is, q))) | else-flags-first-eq0 w ↦ let q = turn c _ (ne_eqb _ _ w.if-flags-first-eq0.false) in (omega (arith, v, w.left-is), (f, omega (arith, w.left-is, q))) ]

pub returns : goal.returns
returns c =
    let a = c.args in
    let t : Table = rows a.w a.n a.t.now in
    let l = c.loop-j in
    unflagged_end t a.flags.now l.j l.left (omega (arith, c.loop-j-test.false, used-length a.w a.u t c.requires.0.1)) l.invariant.1.1

pub loop-j-init : goal.loop-j-init
loop-j-init c = let a = c.args in (omega arith, (inl refl, unflagged_start (rows a.w a.n a.t.now) a.flags.now))

pub bounds-flags-first : goal.bounds-flags-first
bounds-flags-first c = omega (arith, place (goal.at.bounds-flags-first c).After-start-first)
