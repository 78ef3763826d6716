-- Four pieces.
use Rattle.buffer.proofs.Laws.{then}
use Rattle.messages.specs.Message.{room_sentence}
use Rattle.messages.proofs.put_room.Goals as goal

pub returns : goal.returns
unfolding room_sentence
returns c =
    then c.put-a.ensures (then c.put_plural-b.ensures.0 (then c.put_plural-e.ensures.0 c.put.ensures))
