-- A number is told by the ids.
use mathlib.Core.Path.{sym, ap, subst}
use native.Mathlib.Omega.{arith}
use lib.ListN.{length}
use Rattle.outcome.specs.declared.Outcome.{Outcome}
use Rattle.buffer.proofs.Laws.{said, nothing}
use Rattle.messages.specs.Message.{message_line}
use Rattle.report.specs.Run.{found_text, Holds}
use Rattle.report.proofs.Arms.{unnumbered}
use Rattle.report.proofs.told_ids.Goals as goal

pub returns-in_default : goal.returns-in_default
returns-in_default c = record { outcome_value = c.answered.ensures.outcome_value; put = said (unnumbered c.args.o c.args.ids.now c.in_default.not-Number) c.answered.ensures.put; put_2 = c.answered.ensures.put_2 }

pub ids-k-requires : goal.ids-k-requires
ids-k-requires c =
    let n = subst (λ (z : Outcome). Holds z (length c.args.ids.now)) c.in-Number.is c.requires.0 in
    (n, omega (arith, n, c.requires.1))

pub returns : goal.returns
unfolding message_line
returns c = record { outcome_value = sym c.in-Number.is; put = said (sym (ap (λ (z : Outcome). found_text z c.args.ids.now) c.in-Number.is)) c.ids-k.ensures; put_2 = said (sym (ap (λ (z : Outcome). message_line z 0) c.in-Number.is)) (nothing _) }
