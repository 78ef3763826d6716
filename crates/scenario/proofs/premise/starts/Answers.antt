use Prim.Native.Nat.{ℕ, ◌+◌, ◌<◌}
use mathlib.Core.Path.{ap, ◌∙◌}
use mathlib.Core.List.{List}
use native.Mathlib.Omega.{arith}
use lib.ListN.{length, take}
use Rattle.octets.specs.Number.{number}
use Rattle.scenario.proofs.Lists.{over_length, over_more}
use Rattle.scenario.proofs.premise.starts.Goals as goal

pub loop-i-preserved : goal.loop-i-preserved
loop-i-preserved c =
    let l = c.loop-i in
    let a = c.args in
    let h : l.i < length a.to.now = omega (arith, c.loop-i-test.true) in
    let e = over_more a.kind a.key l.i a.to.now l.to l.invariant.2 h c.get.result (c.get.ensures ∙ ap (λ (t : List ℕ). number (take 8 t)) c.tag-t.ensures) in
    (omega arith, over_length a.kind a.key (l.i + 1) a.to.now _ e (omega arith), e)
