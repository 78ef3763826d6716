-- Two pieces.
use native.Mathlib.Omega.{arith}
use Rattle.buffer.proofs.Laws.{then}
use Rattle.buffer.proofs.put_counted.Goals as goal

pub returns : goal.returns
returns c =
    let p = c.put_number-e in
    let q = c.put in
    (then p.ensures.0 q.ensures, omega (arith, p.ensures.1, q.ensures.ends))
