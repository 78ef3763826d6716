-- Each arm knows its advice.
use Rattle.messages.specs.Message.{sentence_of}
use Rattle.messages.proofs.Arms.{arm}
use Rattle.messages.proofs.put_sentence.Goals as goal

pub returns-in-Key : goal.returns-in-Key
unfolding sentence_of
returns-in-Key c = arm c.args.given c.in-Key.is c.put.ensures

pub returns-in-Field : goal.returns-in-Field
unfolding sentence_of
returns-in-Field c = arm c.args.given c.in-Field.is c.put-in-Field.ensures

pub returns-in-Shares : goal.returns-in-Shares
unfolding sentence_of
returns-in-Shares c = arm c.args.given c.in-Shares.is c.put-in-Shares.ensures

pub returns-in-Ids : goal.returns-in-Ids
unfolding sentence_of
returns-in-Ids c = arm c.args.given c.in-Ids.is c.put-in-Ids.ensures

pub returns-in-Token : goal.returns-in-Token
unfolding sentence_of
returns-in-Token c = arm c.args.given c.in-Token.is c.put-in-Token.ensures

pub returns-in-Sizes : goal.returns-in-Sizes
unfolding sentence_of
returns-in-Sizes c = arm c.args.given c.in-Sizes.is c.put-in-Sizes.ensures
