-- Three lines after those of the entries.
use Rattle.buffer.proofs.Laws.{then}
use Rattle.show.specs.Show.{shape_lines}
use Rattle.show.proofs.shape.Goals as goal

pub returns : goal.returns
unfolding shape_lines
returns c =
    let e = c.put_entries-c.ensures.0 in
    let k = c.put_table-s.ensures.0 in
    let s = c.put_table-r.ensures.0 in
    let r = c.put_table.ensures.0 in
    then e (then k (then s r))
