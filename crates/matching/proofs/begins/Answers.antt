-- The row has the tag, and the one before it has not.
use Prim.Native.Nat.{ℕ, ◌+◌, ◌*◌, ◌-◌, ◌≤◌, ◌<◌}
use mathlib.Core.Path.{◌≡◌, sym, ap, ap₂, ◌∙◌}
use mathlib.Core.Bool.{Bool, true, ◌&&◌}
use mathlib.Core.List.{[], map}
use native.Mathlib.Omega.{arith}
use lib.Dec.{eqb, ltb}
use lib.ListN.{length, get_or, take}
use lib.Seq.{take_all}
use borrow.Author.Tests.{lt-ltb}
use Rattle.table.specs.Lists.{same}
use Rattle.table.specs.Table.{rows, used, place_of}
use Rattle.repeats.proofs.Keys.{inside, key_text, key_before, begins_not, begins_first, begins_by}
use Rattle.matching.proofs.begins.Goals as goal
use Rattle.matching.proofs.begins.Lts.View as view
use Rattle.matching.proofs.begins.Goals.{After-alike, After-alike-2, Else-u-i}

-- the row is a used one, and ends within the table
row : (c : Else-u-i) →
    let a = c.args in
    (a.i < a.u) × (a.w * a.i + a.w ≤ length a.t.now)
row c = let a = c.args in
    let h : a.i < a.u = omega (arith, c.if-u-i.false) in
    (h, (inside a.w a.n a.u a.t.now c.requires.1 c.requires.0.1 a.i h).1)

-- what the first comparison tells
has : (c : After-alike) →
    let a = c.args in
    same (get_or (map (take 32) (used (rows a.w a.n a.t.now))) a.i []) a.tag.now ≡ c.alike.result
has c = let a = c.args in
    ap₂ same (key_text a.w a.n a.u a.t.now c.requires.1 c.requires.0.1 32 a.i (omega (arith, c.requires.0.0.0)) (row (view.up-Else-u-i _ _ _ c.before.before)).0)
    (sym (take_all 32 a.tag.now (omega (arith, c.requires.0.0.1))))
    ∙ sym c.alike.ensures

-- and the second
had : (c : After-alike-2) →
    let a = c.args in
    same (get_or (map (take 32) (used (rows a.w a.n a.t.now))) (a.i - 1) []) a.tag.now ≡ c.alike-2.result
had c = let a = c.args in
    ap₂ same (key_before a.w a.n a.u a.t.now c.requires.1 c.requires.0.1 32 a.i (omega (arith, c.requires.0.0.0)) (omega (arith, c.if-i-lt1.false)) (row (view.up-Else-u-i _ _ _ c.before.before.before.before.before)).0)
    (sym (take_all 32 a.tag.now (omega (arith, c.requires.0.0.1))))
    ∙ sym c.alike-2.ensures

-- where the row is used, the answer is whether it is the tag's place
used_row : (i u p : ℕ) (r : Bool) → i < u → eqb i p ≡ r → r ≡ (ltb i u && eqb i p)
used_row i u p r h e = sym (ap (λ (b : Bool). b && eqb i p) (lt-ltb i u h) ∙ e)

pub alike-requires : goal.alike-requires
alike-requires c =
    (omega (arith, (row c).1, c.requires.0.0.0), omega (arith, c.requires.0.0.1))

pub returns-then-not-alike : goal.returns-then-not-alike
returns-then-not-alike c =
    let a = c.args in
    let h = (row (goal.at.returns-then-not-alike c).Else-u-i).0 in
    used_row a.i a.u (place_of a.tag.now (rows a.w a.n a.t.now)) _ h (begins_not a.w a.u (rows a.w a.n a.t.now) c.requires.1 a.tag.now c.requires.0.0.1 a.i h (has (goal.at.returns-then-not-alike c).After-alike ∙ c.if-not-alike.true))

pub returns-then-i-lt1 : goal.returns-then-i-lt1
returns-then-i-lt1 c =
    let a = c.args in
    let h = (row (goal.at.returns-then-i-lt1 c).Else-u-i).0 in
    used_row a.i a.u (place_of a.tag.now (rows a.w a.n a.t.now)) true h (begins_first a.w a.u (rows a.w a.n a.t.now) c.requires.1 a.tag.now c.requires.0.0.1 a.i h (omega (arith, c.if-i-lt1.true)) (has (goal.at.returns-then-i-lt1 c).After-alike ∙ c.if-not-alike.false))

pub returns : goal.returns
returns c =
    let a = c.args in
    let h = (row (goal.at.returns c).Else-u-i).0 in
    used_row a.i a.u (place_of a.tag.now (rows a.w a.n a.t.now)) _ h
    (begins_by a.w a.u (rows a.w a.n a.t.now) c.requires.1 a.tag.now c.requires.0.0.1 a.i h (omega (arith, c.if-i-lt1.false)) (has (goal.at.returns c).After-alike ∙ c.if-not-alike.false) c.alike-2.result (had c))

pub overflow_mul-a : goal.overflow_mul-a
overflow_mul-a c = omega (arith, (row c).1)

pub overflow_add-a : goal.overflow_add-a
overflow_add-a c = omega (arith, (row c).1)
