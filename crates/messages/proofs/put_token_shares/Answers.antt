-- Two pieces.
use Rattle.buffer.proofs.Laws.{then}
use Rattle.messages.specs.Message.{sentence_of}
use Rattle.messages.proofs.put_token_shares.Goals as goal

pub returns : goal.returns
unfolding sentence_of
returns c = then c.put-e.ensures c.put_counted.ensures.0
