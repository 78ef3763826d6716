-- After the last id the rows of the first ids are all.
use Rattle.scheme.specs.Store.{table_m, table_v, width_of}
use Rattle.table.specs.Table.{Table, rows}
use Rattle.table.proofs.Rows.{rows-length}
use Rattle.scheme.specs.Insert.{entry_rows, reverse_rows}
use Rattle.suite.specs.Program.{program}
use Rattle.entries.proofs.Laws.{take_done, length_entries, length_reverses}
use Rattle.entries.proofs.new_rows.Goals as goal

pub returns : goal.returns
returns c =
    let l = c.loop-i in
    let h = c.loop-i-test.false in
    let x = c.args in
    let es : Table = entry_rows program x.mt.now x.me.now x.g (rows 16 x.n x.ids.now) x.nonces.now in
    let vs : Table = reverse_rows program x.mt.now x.g (rows 16 x.n x.ids.now) in record {
      entries_after = take_done (rows (width_of table_m) x.n l.entries) es l.i (rw (rows-length (width_of table_m) x.n l.entries) h)
          (rw (length_entries x.mt.now x.me.now x.g (rows 16 x.n x.ids.now) x.nonces.now, rows-length 16 x.n x.ids.now) h) l.invariant.3;
      reverses_after = take_done (rows (width_of table_v) x.n l.reverses) vs l.i (rw (rows-length (width_of table_v) x.n l.reverses) h)
          (rw (length_reverses x.mt.now x.g (rows 16 x.n x.ids.now), rows-length 16 x.n x.ids.now) h) l.invariant.4;
    }
