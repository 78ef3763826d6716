-- One tag, for both rows.
use Rattle.format.proofs.Rows.{entry_row_is, reverse_row_is}
use Rattle.format.proofs.row.rows_for.Goals as goal

pub returns : goal.returns
returns c =
    let t = c.entry_tag-tag in
    let a = c.args in record {
      result_value = entry_row_is a.k a.mt.now a.a c.requires.0 t.result t.ensures a.me.now a.nonce.now a.id.now c.sealed_row-entry.result c.sealed_row-entry.ensures;
      reverse_value = reverse_row_is a.k a.mt.now a.a c.requires.0 t.result t.ensures a.id.now c.reverse_row-reverse.result c.reverse_row-reverse.ensures;
    }
