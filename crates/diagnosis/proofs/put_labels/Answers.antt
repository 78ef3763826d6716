-- Three kinds.
use native.Mathlib.Omega.{arith}
use Rattle.buffer.proofs.Laws.{then}
use Rattle.diagnosis.specs.Diagnosis.{label_lines}
use Rattle.diagnosis.proofs.put_labels.Goals as goal

pub returns : goal.returns
unfolding label_lines
returns c =
    let p = c.put_fault-a.ensures in
    let q = c.put_fault-e.ensures in
    let r = c.put_fault.ensures in
    (then p.0 (then q.0 r.0), omega (arith, p.1, q.1, r.1))
