-- Each arm knows its request.
use mathlib.Core.Path.{subst}
use Rattle.request.specs.Request.{Bounded}
use Rattle.report.proofs.Arms.{arm, found_by_any, counted_by_any, insert_token_any, find_token_any, count_token_any, compaction_token_any}
use Rattle.tool.proofs.Places.{none_before}
use borrow.Author.Rules.{rules}
use Rattle.tool.proofs.with_token.Goals as goal

pub insert_by-requires : goal.insert_by-requires
insert_by-requires c = (subst Bounded c.in-InsertBy.is c.requires.1.1.0, search rules)

pub returns-in-InsertToken : goal.returns-in-InsertToken
returns-in-InsertToken c = arm c.in-InsertToken.is (insert_token_any c.args.store.now c.insert_token.ensures)

pub returns-in-FindToken : goal.returns-in-FindToken
returns-in-FindToken c = arm c.in-FindToken.is (find_token_any c.args.store.now c.args.random.now c.find_token.ensures)

pub returns-in-CountToken : goal.returns-in-CountToken
returns-in-CountToken c = arm c.in-CountToken.is (count_token_any c.args.store.now c.args.random.now c.count_token.ensures)

pub returns-in-CompactionToken : goal.returns-in-CompactionToken
returns-in-CompactionToken c = arm c.in-CompactionToken.is (compaction_token_any c.args.store.now c.args.random.now c.compaction_token.ensures)

pub returns-in-InsertBy : goal.returns-in-InsertBy
returns-in-InsertBy c = arm c.in-InsertBy.is c.insert_by.ensures

pub returns-in-FindBy : goal.returns-in-FindBy
returns-in-FindBy c = arm c.in-FindBy.is (found_by_any c.args.random.now c.find_by.ensures)

pub returns-in-CountBy : goal.returns-in-CountBy
returns-in-CountBy c = arm c.in-CountBy.is (counted_by_any c.args.random.now c.count_by.ensures)

pub returns-in-CompactBy : goal.returns-in-CompactBy
returns-in-CompactBy c = arm c.in-CompactBy.is c.compact_by.ensures

-- no other request comes here
pub returns-in_default : goal.returns-in_default
returns-in_default c = absurd (none_before c.args.q c.in_default.not-InsertToken c.in_default.not-FindToken c.in_default.not-CountToken c.in_default.not-CompactionToken c.in_default.not-InsertBy c.in_default.not-FindBy c.in_default.not-CountBy c.in_default.not-CompactBy c.requires.1.1.1)
