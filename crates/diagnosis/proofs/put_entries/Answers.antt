-- Two kinds.
use native.Mathlib.Omega.{arith}
use Rattle.buffer.proofs.Laws.{then}
use Rattle.diagnosis.specs.Diagnosis.{entry_lines}
use Rattle.diagnosis.proofs.put_entries.Goals as goal

pub returns : goal.returns
unfolding entry_lines
returns c =
    let p = c.put_fault-e.ensures in
    let q = c.put_fault.ensures in
    (then p.0 q.0, omega (arith, p.1, q.1))
