-- Each arm knows its advice.
use Rattle.messages.specs.Message.{sentence_of}
use Rattle.messages.proofs.Arms.{arm}
use Rattle.messages.proofs.put_on_room.Goals as goal

pub returns-in-Larger : goal.returns-in-Larger
unfolding sentence_of
returns-in-Larger c = arm c.args.given c.in-Larger.is c.put-in-Larger.ensures

pub returns-in-Fault : goal.returns-in-Fault
unfolding sentence_of
returns-in-Fault c = arm c.args.given c.in-Fault.is c.put-in-Fault.ensures
