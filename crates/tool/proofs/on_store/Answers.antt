-- Each arm knows its request; what is not of a store and a key is of a token.
use mathlib.Core.Path.{subst}
use native.Mathlib.Omega.{arith}
use Rattle.request.specs.Request.{Bounded}
use Rattle.request.specs.declared.Request.TheVariants.{Compact}
use Rattle.report.proofs.Arms.{arm, ended, found_any, counted_any, erased_any, ordered_any, shown_any, checked_any}
use Rattle.tool.proofs.Places.{past_store}
use borrow.Author.Rules.{rules}
use Rattle.tool.proofs.on_store.Goals as goal

pub insert-requires : goal.insert-requires
insert-requires c = (subst Bounded c.in-Insert.is c.requires.1.1.0, search rules)

pub find-requires : goal.find-requires
find-requires c = let h = subst Bounded c.in-Find.is c.requires.1.1.0 in (omega arith, search rules)

pub with_token-requires : goal.with_token-requires
with_token-requires c = (search rules, (search rules, (c.requires.1.1.0, past_store c.args.q c.in_default.not-Insert c.in_default.not-Find c.in_default.not-Count c.in_default.not-Erase c.in_default.not-Compact c.in_default.not-Order c.in_default.not-Show c.in_default.not-Check c.requires.1.1.1)))

pub returns-in-Insert : goal.returns-in-Insert
returns-in-Insert c = arm c.in-Insert.is c.insert.ensures

pub returns-in-Find : goal.returns-in-Find
returns-in-Find c = arm c.in-Find.is (found_any c.args.random.now c.find.ensures)

pub returns-in-Count : goal.returns-in-Count
returns-in-Count c = arm c.in-Count.is (counted_any c.args.random.now c.count.ensures)

pub returns-in-Erase : goal.returns-in-Erase
returns-in-Erase c = arm c.in-Erase.is (erased_any c.args.random.now c.erase.ensures)

pub returns-in-Compact : goal.returns-in-Compact
returns-in-Compact c = arm c.in-Compact.is (ended Compact c.args.line.now c.args.store.now c.args.key.now c.args.random.now c.compact.new.store c.compact.result c.answered.result c.answered.ensures.outcome_value (c.compact.ensures.result_value, (c.compact.ensures.store_after, c.compact.ensures.roomed)) c.answered.ensures.put c.answered.ensures.put_2)

pub returns-in-Order : goal.returns-in-Order
returns-in-Order c = arm c.in-Order.is (ordered_any c.args.random.now c.order.ensures)

pub returns-in-Show : goal.returns-in-Show
returns-in-Show c = arm c.in-Show.is (shown_any c.args.random.now c.show.ensures)

pub returns-in-Check : goal.returns-in-Check
returns-in-Check c = arm c.in-Check.is (checked_any c.args.random.now c.check.ensures)
