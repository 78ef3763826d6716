-- Three pieces.
use Rattle.buffer.proofs.Laws.{then}
use Rattle.report.proofs.Arms.{sized}
use Rattle.tool.proofs.bad_word.Goals as goal

pub returns : goal.returns
returns c =
    record { outcome_value = c.failed.ensures.outcome_value.0; put = c.failed.ensures.put; put_2 = sized c.failed.ensures.outcome_value.1 (then c.put-a.ensures (then c.put-b.ensures c.put-m.ensures)) }
