-- Two numbers under CE, behind the tag.
use Rattle.format.proofs.Rows.{counted_row_is}
use Rattle.format.proofs.row.counted_row.Goals as goal

pub returns : goal.returns
returns c =
    let a = c.args in
    counted_row_is a.keys a.cl.now a.nonce.now a.tag.now c.put_numbers.new.to c.sealed_row.result a.a a.n c.requires.0 c.put_numbers.ensures c.sealed_row.ensures
