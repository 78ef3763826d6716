-- The two halves of each list fill it.
use Prim.Native.Nat.{◌*◌}
use mathlib.Core.Path.{◌≡◌, ◌∙◌}
use native.Mathlib.Omega.{arith}
use lib.ListN.{length}
use Rattle.scenario.specs.Premise.{PairTags, Twice}
use Rattle.scenario.proofs.Lists.{first_part, twice}
use Rattle.scenario.proofs.premise.four.Goals as goal

pub returns : goal.returns
returns c =
    let a = c.args in
    let one = c.two in
    let other = c.two-2 in
    let x = 2 * a.w in
    let y = 4 * a.half in
    let h : length a.m.now ≡ 2 * x = omega (arith, c.requires.1.0) in
    let k : length a.c.now ≡ 2 * y = omega (arith, c.requires.1.1) in
    twice (Twice (PairTags a.key.now a.w a.half)) a.m.now a.c.now _ _ _ _ x (2 * x) y (2 * y) h (one.auto.m ∙ first_part a.m.now x (2 * x) h (omega arith)) k (one.auto.c ∙ first_part a.c.now y (2 * y) k (omega arith)) one.ensures other.ensures
