-- Each arm knows its request.
use mathlib.Core.Path.{refl, sym, ap, ◌∙◌}
use native.Mathlib.Omega.{arith}
use lib.ListN.{length}
use Rattle.words.proofs.Lines.{word_short}
use Rattle.request.specs.declared.Request.TheVariants.{New, Key}
use Rattle.outcome.specs.declared.Outcome.TheVariants.{Done}
use Rattle.report.proofs.Arms.{arm, ended, helped, complained, no_number, no_id}
use Rattle.tool.proofs.Places.{past_words}
use borrow.Author.Rules.{rules}
use Rattle.tool.proofs.run.Goals as goal

pub bad_word-requires : goal.bad_word-requires
bad_word-requires c = (search rules, omega (arith, c.requires.1, ap length c.word.ensures, word_short c.in-NotNumber.i c.args.line.now))

pub bad_word-requires-in-NotId : goal.bad_word-requires-in-NotId
bad_word-requires-in-NotId c = (search rules, omega (arith, c.requires.1, ap length c.word-in-NotId.ensures, word_short c.in-NotId.i c.args.line.now))

pub on_store-requires : goal.on_store-requires
on_store-requires c = (search rules, (search rules, (c.read-q.ensures.bounded, past_words c.read-q.result c.in_default.not-Help c.in_default.not-Misused c.in_default.not-NotNumber c.in_default.not-NotId c.in_default.not-New c.in_default.not-Key)))

pub returns-in-Help : goal.returns-in-Help
returns-in-Help c = arm (sym c.read-q.ensures.value ∙ c.in-Help.is) (helped c.args.line.now c.args.store.now c.args.key.now c.args.random.now c.help.result _ c.help.ensures.outcome_value.0 c.help.ensures.outcome_value.1 c.help.ensures.put)

pub returns-in-Misused : goal.returns-in-Misused
returns-in-Misused c = arm (sym c.read-q.ensures.value ∙ c.in-Misused.is) (complained c.args.line.now c.args.store.now c.args.key.now c.args.random.now c.misused.result _ c.misused.ensures.outcome_value c.misused.ensures.put c.misused.ensures.put_2)

pub returns-in-NotNumber : goal.returns-in-NotNumber
returns-in-NotNumber c = arm (sym c.read-q.ensures.value ∙ c.in-NotNumber.is) (no_number c.args.line.now c.args.store.now c.args.key.now c.args.random.now c.bad_word.result _ _ c.word.ensures c.bad_word.ensures.outcome_value c.bad_word.ensures.put c.bad_word.ensures.put_2)

pub returns-in-NotId : goal.returns-in-NotId
returns-in-NotId c = arm (sym c.read-q.ensures.value ∙ c.in-NotId.is) (no_id c.args.line.now c.args.store.now c.args.key.now c.args.random.now c.bad_word-in-NotId.result _ _ c.word-in-NotId.ensures c.bad_word-in-NotId.ensures.outcome_value c.bad_word-in-NotId.ensures.put c.bad_word-in-NotId.ensures.put_2)

pub returns-in-New : goal.returns-in-New
returns-in-New c = arm (sym c.read-q.ensures.value ∙ c.in-New.is) (ended (New _ _ _ _ _) c.args.line.now c.args.store.now c.args.key.now c.args.random.now c.make.new.slice c.make.result c.answered.result c.answered.ensures.outcome_value (c.make.ensures.result_value, (c.make.ensures.value, c.make.ensures.slice_after)) c.answered.ensures.put c.answered.ensures.put_2)

pub returns-in-Key : goal.returns-in-Key
returns-in-Key c = arm (sym c.read-q.ensures.value ∙ c.in-Key.is) (ended Key c.args.line.now c.args.store.now c.args.key.now c.args.random.now c.args.store.now Done c.answered-in-Key.result c.answered-in-Key.ensures.outcome_value (refl, refl) c.answered-in-Key.ensures.put c.answered-in-Key.ensures.put_2)

pub returns-in_default : goal.returns-in_default
returns-in_default c = arm (sym c.read-q.ensures.value) c.on_store.ensures
