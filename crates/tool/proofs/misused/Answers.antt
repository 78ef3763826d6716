-- Two pieces.
use Rattle.buffer.proofs.Laws.{then}
use Rattle.report.proofs.Arms.{sized}
use Rattle.tool.proofs.misused.Goals as goal

pub returns : goal.returns
returns c =
    record { outcome_value = c.failed.ensures.outcome_value.0; put = c.failed.ensures.put; put_2 = sized c.failed.ensures.outcome_value.1 (then c.put-a.ensures c.put_usage-m.ensures.0) }
