-- Three pieces.
use Rattle.buffer.proofs.Laws.{then, counts}
use Rattle.holder.proofs.put_line.Goals as goal

pub returns : goal.returns
returns c =
    let p = c.put_counted-a in
    let q = c.put-e in
    let r = c.put in
    let line = then p.ensures.0 (then q.ensures r.ensures) in record { put = line; prefix_len = counts line }
