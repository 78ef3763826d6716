-- The call, whose numbers are small.
use mathlib.Core.Path.{refl}
use mathlib.Core.List.{[]}
use Rattle.request.specs.declared.Request.TheVariants.{Check}
use Rattle.report.proofs.Arms.{ended}
use Rattle.report.proofs.Totals.{few}
use borrow.Author.Rules.{rules}
use Rattle.execution.proofs.check.Goals as goal

pub told_faults-requires : goal.told_faults-requires
told_faults-requires c = (few c.args.store.now c.check-o.result c.check-o.ensures.result_value, search rules)

pub returns : goal.returns
returns c =
    let s = c.args in
    let a = c.told_faults in
    let o = c.check-o in
    ended Check [] s.store.now [] [] s.store.now o.result a.result a.ensures.outcome_value (o.ensures.result_value, (refl, o.ensures.roomed)) a.ensures.put a.ensures.put_2
