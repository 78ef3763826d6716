use mathlib.Core.Path.{refl, ◌∙◌}
use native.Mathlib.Omega.{arith}
use Rattle.table.specs.Table.{rows}
use Rattle.table.proofs.Rows.{rows_wide}
use Rattle.scheme.specs.Store.{table_m, width_of}
use Rattle.chains.proofs.Chains.{wrote_none, wrote_next}
use Rattle.chains.proofs.write.Goals as goal

pub loop-i-init : goal.loop-i-init
loop-i-init c =
    let a = c.args in (omega arith, (refl, wrote_none a.me (rows (width_of table_m) a.m a.t.now) a.index.now a.output.now))

pub loop-i-preserved : goal.loop-i-preserved
loop-i-preserved c =
    let a = c.args in
    let t = rows (width_of table_m) a.m a.t.now in
    let w = rows_wide (width_of table_m) a.m a.t.now (omega (arith, c.requires.0)) in (
      omega (arith, c.loop-i-test.true),
      (
        c.copy_at.auto.to ∙ c.loop-i.invariant.1.0,
        wrote_next a.me t a.index.now a.output.now c.loop-i.i c.loop-i.output w (c.requires.1.0.readable c.loop-i.i c.loop-i-test.true).inside c.loop-i.invariant.1.1 c.id_at-id.result c.id_at-id.ensures _ c.copy_at.ensures,
      ),
    )
