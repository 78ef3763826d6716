-- The nonce of the next anchor is a part of the nonces.
use mathlib.Core.Path.{refl, ap}
use native.Mathlib.Omega.{arith}
use Rattle.table.specs.Table.{rows}
use Rattle.scheme.specs.Store.{table_c, width_of}
use Rattle.scheme.specs.Reading.{reading}
use Rattle.suite.specs.Program.{program}
use Rattle.course.specs.Totals.{counters_in}
use Rattle.course.proofs.Steps.{few_counters}
use Rattle.course.proofs.treat_one.Goals as goal

pub added-requires : goal.added-requires
added-requires c =
    let a = c.args in
    let p = c.requires in
    let t = rows (width_of table_c) a.c a.t.now in
    (p.1.1.1.0, (p.1.1.1.1, omega (arith, ap counters_in c.treat-r.ensures.treated_value.0, few_counters a.c a.cl.now t (reading program a.c a.cl.now t) refl, p.0.1)))
