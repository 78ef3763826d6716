-- Two pieces.
use native.Mathlib.Omega.{arith}
use Rattle.buffer.proofs.Laws.{then}
use Rattle.show.specs.Show.{shares_line}
use Rattle.show.proofs.put_shares.Goals as goal

pub returns : goal.returns
unfolding shares_line
returns c =
    let p = c.put-e in
    let q = c.put_counted in
    (then p.ensures q.ensures.0, omega (arith, p.ensures.ends, q.ensures.1))
