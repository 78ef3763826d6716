-- Three pieces.
use Rattle.buffer.proofs.Laws.{then}
use Rattle.lines.specs.Answer.{count_lines}
use Rattle.lines.proofs.count.Goals as goal

pub returns : goal.returns
unfolding count_lines
returns c =
    then c.put_counted-a.ensures.0
    (then c.put-e.ensures c.put_counted.ensures.0)
