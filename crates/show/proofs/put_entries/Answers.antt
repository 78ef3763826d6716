-- Three lines.
use Rattle.buffer.proofs.Laws.{then}
use Rattle.show.specs.Show.{entry_lines}
use borrow.Author.Rules.{rules}
use Rattle.show.proofs.put_entries.Goals as goal

pub returns : goal.returns
unfolding entry_lines
returns c =
    let a = c.put_shares-m.ensures.0 in
    let m = c.put_table-v.ensures.0 in
    let v = c.put_table.ensures.0 in
    (then a (then m v), search rules)
