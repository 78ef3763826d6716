-- Two pieces.
use native.Mathlib.Omega.{arith}
use Rattle.buffer.proofs.Laws.{then}
use Rattle.lines.specs.Answer.{refused_line}
use Rattle.lines.proofs.put_refused.Goals as goal

pub returns : goal.returns
unfolding refused_line
returns c =
    let p = c.put-e in
    let q = c.put_counted in
    (then p.ensures q.ensures.0, omega (arith, p.ensures.ends, q.ensures.1))
