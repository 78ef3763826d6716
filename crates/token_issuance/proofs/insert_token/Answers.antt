-- The making with the line's words.
use mathlib.Core.Path.{refl, ap, ap₂, ◌∙◌}
use mathlib.Core.List.{[]}
use lib.ListN.{replicate}
use Rattle.scheme.specs.Labels.{Field}
use Rattle.scheme.specs.Keys.{insert_token}
use Rattle.scheme.specs.Refusals.{insert_token_tests}
use Rattle.suite.specs.Program.{program}
use Rattle.client.specs.Making.{field_of, making_answer}
use Rattle.request.specs.declared.Request.TheVariants.{InsertToken}
use Rattle.buffer.proofs.Laws.{said}
use Rattle.report.specs.Run.{made_text}
use Rattle.report.proofs.Arms.{ended}
use Rattle.token_issuance.proofs.Arms.{made_text_lem}
use Rattle.token_issuance.proofs.insert_token.Goals as goal

pub returns : goal.returns
returns c =
    ended (InsertToken c.args.p c.args.u) c.args.line.now [] c.args.key.now c.args.random.now [] c.insert_token-o.result c.told_token.result c.told_token.ensures.outcome_value
    (c.insert_token-o.ensures.result_value ∙ ap (λ (f : Field). making_answer (insert_token_tests c.args.key.now f c.args.p c.args.u c.args.random.now)) (ap₂ field_of c.word.ensures c.word-2.ensures), (c.insert_token-o.ensures.value, refl))
    (said (made_text_lem (insert_token_tests c.args.key.now (field_of c.word.result.now c.word-2.result.now) c.args.p c.args.u c.args.random.now) (insert_token program c.args.key.now (field_of c.word.result.now c.word-2.result.now) c.args.p c.args.u c.args.random.now) (replicate 173 0) c.insert_token-o.new.token c.insert_token-o.ensures.token_after c.insert_token-o.result c.insert_token-o.ensures.result_value ∙ ap (λ (f : Field). made_text c.insert_token-o.result (insert_token program c.args.key.now f c.args.p c.args.u c.args.random.now)) (ap₂ field_of c.word.ensures c.word-2.ensures)) c.told_token.ensures.put) c.told_token.ensures.put_2
