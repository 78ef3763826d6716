use mathlib.Core.Path.{◌∙◌}
use native.Mathlib.Omega.{arith}
use Rattle.table.specs.Table.{rows}
use Rattle.table.proofs.Rows.{rows-length}
use Rattle.scheme.specs.Store.{table_s, width_of}
use Rattle.firsts.proofs.Chaining.{part_wide}
use Rattle.compact.proofs.Logs.{opening_none, opening_turn, opening_all}
use Rattle.compact.proofs.open_log.Goals as goal

pub loop-i-init : goal.loop-i-init
loop-i-init c =
    let a = c.args in
    (omega arith, opening_none a.ks.now (rows (width_of table_s) a.s a.t.now) a.n a.log.now)

pub loop-i-preserved : goal.loop-i-preserved
loop-i-preserved c =
    let a = c.args in
    let p = c.requires in
    let l = c.loop-i in
    let w = c.open_row.auto.cl ∙ part_wide l.log a.n l.i (omega (arith, p, l.invariant.1.size)) c.loop-i-test.true in (
      omega arith,
      opening_turn a.ks.now (rows (width_of table_s) a.s a.t.now) a.n a.log.now l.i l.log l.invariant.1 c.loop-i-test.true
          (omega (arith, p, c.loop-i-test.true, rows-length (width_of table_s) a.s a.t.now)) p.1.1.1 _ w c.open_row.ensures,
    )

pub returns : goal.returns
returns c =
    let a = c.args in
    (opening_all a.ks.now (rows (width_of table_s) a.s a.t.now) a.n a.log.now c.loop-i.i c.loop-i.log c.loop-i.invariant.1 (omega (arith, c.loop-i.invariant.0, c.loop-i-test.false)), c.loop-i.invariant.1.rest)
