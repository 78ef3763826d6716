-- The making with the line's words.
use mathlib.Core.Path.{refl}
use mathlib.Core.List.{[]}
use lib.ListN.{replicate}
use Rattle.scheme.specs.Keys.{compaction_token}
use Rattle.scheme.specs.Refusals.{key_tests}
use Rattle.suite.specs.Program.{program}
use Rattle.request.specs.declared.Request.TheVariants.{CompactionToken}
use Rattle.buffer.proofs.Laws.{said}
use Rattle.report.proofs.Arms.{ended}
use Rattle.token_issuance.proofs.Arms.{made_text_lem}
use Rattle.token_issuance.proofs.compaction_token.Goals as goal

pub returns : goal.returns
returns c =
    ended CompactionToken c.args.line.now [] c.args.key.now [] [] c.compaction_token-o.result c.told_token.result c.told_token.ensures.outcome_value
    (c.compaction_token-o.ensures.result_value, (c.compaction_token-o.ensures.value, refl))
    (said (made_text_lem (key_tests c.args.key.now) (compaction_token program c.args.key.now) (replicate 32 0) c.compaction_token-o.new.token c.compaction_token-o.ensures.token_after c.compaction_token-o.result c.compaction_token-o.ensures.result_value) c.told_token.ensures.put) c.told_token.ensures.put_2
