-- A token that was made is told by its digits.
use mathlib.Core.Path.{refl, sym, ap}
use Rattle.outcome.specs.declared.Outcome.{Outcome}
use Rattle.buffer.proofs.Laws.{said, nothing}
use Rattle.messages.specs.Message.{message_line}
use Rattle.report.specs.Run.{made_text}
use Rattle.token_issuance.proofs.told_token.Goals as goal

pub returns : goal.returns
unfolding message_line
returns c = record { outcome_value = refl; put = said (sym (ap (λ (z : Outcome). made_text z c.args.token.now) c.in-Done.is)) c.put_hex-n.ensures.0; put_2 = said (sym (ap (λ (z : Outcome). message_line z 0) c.in-Done.is)) (nothing _) }
