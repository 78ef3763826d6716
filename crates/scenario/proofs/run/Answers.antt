use mathlib.Core.Path.{refl, ◌∙◌}
use native.Mathlib.Omega.{arith}
use Rattle.scenario.specs.Given.Ran.{begun, went}
use Rattle.scenario.proofs.run.Goals as goal

pub loop-init : goal.loop-init
loop-init c = (refl, omega arith, begun)

pub loop-preserved : goal.loop-preserved
loop-preserved c =
    let r = c.record-n in
    let l = c.loop in
    (r.auto.room ∙ l.invariant.0, omega (arith, r.ensures.0, l.invariant.0), went l.invariant.2 r.ensures.1)
