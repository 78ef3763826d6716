-- Each arm knows its advice; what is not of the store is of its room.
use Rattle.messages.specs.Message.{sentence_of}
use Rattle.messages.proofs.Arms.{arm}
use Rattle.messages.proofs.put_on_store.Goals as goal

pub returns-in-NoStore : goal.returns-in-NoStore
unfolding sentence_of
returns-in-NoStore c = arm c.args.given c.in-NoStore.is c.put.ensures

pub returns-in-Old : goal.returns-in-Old
unfolding sentence_of
returns-in-Old c = arm c.args.given c.in-Old.is c.put-in-Old.ensures

pub returns-in-Marks : goal.returns-in-Marks
unfolding sentence_of
returns-in-Marks c = arm c.args.given c.in-Marks.is c.put-in-Marks.ensures

pub returns-in-Order : goal.returns-in-Order
unfolding sentence_of
returns-in-Order c = arm c.args.given c.in-Order.is c.put-in-Order.ensures

pub returns-in-Damage : goal.returns-in-Damage
unfolding sentence_of
returns-in-Damage c = arm c.args.given c.in-Damage.is c.put-in-Damage.ensures

pub returns-in-Count : goal.returns-in-Count
unfolding sentence_of
returns-in-Count c = arm c.args.given c.in-Count.is c.put-in-Count.ensures
