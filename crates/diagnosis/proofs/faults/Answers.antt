-- The kinds, then how many there are.
use Rattle.buffer.proofs.Laws.{then}
use Rattle.diagnosis.specs.Diagnosis.{fault_lines}
use Rattle.diagnosis.proofs.faults.Goals as goal

pub returns : goal.returns
unfolding fault_lines
returns c =
    then c.put_tags-a.ensures.0 (then c.put_entries-b.ensures.0 (then c.put_labels-e.ensures.0 c.put_total.ensures))
