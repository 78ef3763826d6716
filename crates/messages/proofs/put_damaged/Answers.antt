-- Two pieces.
use Rattle.buffer.proofs.Laws.{then}
use Rattle.messages.specs.Message.{message_line}
use Rattle.messages.proofs.put_damaged.Goals as goal

pub returns : goal.returns
unfolding message_line
returns c =
    then c.put-e.ensures c.put_tally.ensures.0
