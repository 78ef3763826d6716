-- Each arm is what it called; the part lent is as long as the store.
use Rattle.scenario.specs.Given.Recorded.{made, overwritten, resized, called, told}
use borrow.Author.Rules.{rules}
use Rattle.scenario.proofs.record.Goals as goal

pub returns-in-1 : goal.returns-in-1
returns-in-1 c = let e = c.make_in.ensures in (e.0, made e.1)

pub returns-in-2 : goal.returns-in-2
returns-in-2 c = (search rules, overwritten c.set.ensures)

pub returns-in-3 : goal.returns-in-3
returns-in-3 c = let e = c.resize.ensures in (e.0, resized e.1)

pub returns-in_default : goal.returns-in_default
returns-in_default c = (search rules, told)

pub returns-in-4-to-12 : goal.returns-in-4-to-12
returns-in-4-to-12 c = (search rules, called c.call.ensures)
