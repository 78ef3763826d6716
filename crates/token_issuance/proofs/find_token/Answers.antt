-- The making with the line's words.
use mathlib.Core.Path.{refl, ap, ap₂, ◌∙◌}
use mathlib.Core.List.{[]}
use lib.ListN.{replicate}
use Rattle.scheme.specs.Labels.{Field}
use Rattle.scheme.specs.Keys.{find_token}
use Rattle.scheme.specs.Refusals.{field_token_tests}
use Rattle.suite.specs.Program.{program}
use Rattle.client.specs.Making.{field_of, making_answer}
use Rattle.request.specs.declared.Request.TheVariants.{FindToken}
use Rattle.buffer.proofs.Laws.{said}
use Rattle.report.specs.Run.{made_text}
use Rattle.report.proofs.Arms.{ended}
use Rattle.token_issuance.proofs.Arms.{made_text_lem}
use Rattle.token_issuance.proofs.find_token.Goals as goal

pub returns : goal.returns
returns c =
    ended FindToken c.args.line.now [] c.args.key.now [] [] c.find_token-o.result c.told_token.result c.told_token.ensures.outcome_value
    (c.find_token-o.ensures.result_value ∙ ap (λ (f : Field). making_answer (field_token_tests c.args.key.now f)) (ap₂ field_of c.word.ensures c.word-2.ensures), (c.find_token-o.ensures.value, refl))
    (said (made_text_lem (field_token_tests c.args.key.now (field_of c.word.result.now c.word-2.result.now)) (find_token program c.args.key.now (field_of c.word.result.now c.word-2.result.now)) (replicate 96 0) c.find_token-o.new.token c.find_token-o.ensures.token_after c.find_token-o.result c.find_token-o.ensures.result_value ∙ ap (λ (f : Field). made_text c.find_token-o.result (find_token program c.args.key.now f)) (ap₂ field_of c.word.ensures c.word-2.ensures)) c.told_token.ensures.put) c.told_token.ensures.put_2
