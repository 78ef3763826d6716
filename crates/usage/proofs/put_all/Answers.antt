-- Two lines after the others.
use Rattle.buffer.proofs.Laws.{then}
use Rattle.usage.specs.Usage.{usage_line, help_text}
use Rattle.usage.proofs.put_all.Goals as goal

pub returns : goal.returns
unfolding usage_line help_text
returns c =
    then c.put_first-a.ensures.0
    (then c.put_later-b.ensures.0 (then c.put-c.ensures c.put.ensures))
