-- The bar between brackets.
use native.Mathlib.Omega.{arith}
use Rattle.buffer.proofs.Laws.{then, said}
use Rattle.show.specs.Show.{bar_text}
use Rattle.show.proofs.put_bar.Goals as goal

pub returns : goal.returns
unfolding bar_text
returns c =
    let b = c.bar in
    let p = c.put-a in
    let q = c.put-e in
    let r = c.put in
    (then p.ensures (then (said b.ensures q.ensures) r.ensures), omega (arith, p.ensures.ends, q.ensures.ends, r.ensures.ends, b.auto.to))
