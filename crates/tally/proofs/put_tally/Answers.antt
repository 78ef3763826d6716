-- Two pieces.
use native.Mathlib.Omega.{arith}
use Rattle.buffer.proofs.Laws.{then}
use Rattle.tally.specs.Line.{tally_line}
use Rattle.tally.proofs.put_tally.Goals as goal

pub returns : goal.returns
unfolding tally_line
returns c =
    let p = c.put_counted-e in
    let q = c.put_counted in
    (then p.ensures.0 q.ensures.0, omega (arith, p.ensures.1, q.ensures.1))
