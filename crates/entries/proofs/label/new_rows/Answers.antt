-- After the last id the rows of the first ids are all.
use Rattle.table.specs.Table.{rows}
use Rattle.table.proofs.Rows.{rows-length}
use Rattle.scheme.specs.Store.{table_r, width_of}
use Rattle.scheme.specs.Insert.{label_rows}
use Rattle.suite.specs.Program.{program}
use Rattle.entries.proofs.Laws.{take_done, length_labels}
use Rattle.entries.proofs.label.new_rows.Goals as goal

pub returns : goal.returns
returns c =
    let l = c.loop-i in
    let h = c.loop-i-test.false in
    let x = c.args in
    let ids = rows 16 x.n x.ids.now in
    take_done (rows (width_of table_r) x.n l.labels) (label_rows program x.rl.now ids x.nonces.now) l.i (rw (rows-length (width_of table_r) x.n l.labels) h)
    (rw (length_labels x.rl.now ids x.nonces.now, rows-length 16 x.n x.ids.now) h) l.invariant.2
