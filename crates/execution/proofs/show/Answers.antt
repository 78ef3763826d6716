-- Each arm knows what the checks gave, the sizes' range among it.
use mathlib.Core.Path.{refl, sym, ap, ◌∙◌}
use mathlib.Core.List.{[]}
use Rattle.std.specs.Prelude.{Result}
use Rattle.answer.specs.declared.Refusal.{Refusal}
use Rattle.store.specs.declared.Shape.{Shape}
use Rattle.store.proofs.Laws.{table_m, table_v, table_c, table_s, table_r, fits}
use Rattle.request.specs.declared.Request.TheVariants.{Show}
use Rattle.outcome.specs.declared.Outcome.TheVariants.{Done}
use Rattle.buffer.proofs.Laws.{said, nothing}
use Rattle.messages.specs.Message.{message_line}
use Rattle.advice.specs.Advise.{room_of}
use Rattle.report.specs.Run.{show_by, shown_text}
use Rattle.report.proofs.Arms.{ended}
use Rattle.execution.proofs.Arms.{shown_refused, shown_text_lem}
use borrow.Author.Rules.{rules}
use Rattle.execution.proofs.show.Goals as goal

pub shape-n-requires : goal.shape-n-requires
shape-n-requires c =
    let in-part = fits _ _ (sym c.sizes.ensures ∙ c.in-Ok.is) in
    ((((in-part table_m).most, (in-part table_v).most), ((in-part table_c).most, ((in-part table_s).most, (in-part table_r).most))), search rules)

pub returns-in-Err : goal.returns-in-Err
returns-in-Err c =
    let s = c.args in
    let a = c.answered in
    let x = sym c.sizes.ensures ∙ c.in-Err.is in
    let e = shown_refused _ _ c.room_in-room.result _ x c.room_in-room.ensures.0 in
    ended Show [] s.store.now [] [] s.store.now _ a.result a.ensures.outcome_value (e, refl)
    (said (shown_text_lem _ _ _ x) a.ensures.put) a.ensures.put_2

pub returns-in-Ok : goal.returns-in-Ok
unfolding message_line
returns-in-Ok c =
    let s = c.args in
    let x = sym c.sizes.ensures ∙ c.in-Ok.is in
    ended Show [] s.store.now [] [] s.store.now Done _ refl (sym (ap (λ (z : Result Shape Refusal). show_by z (room_of s.store.now)) x), refl)
    (said (sym (ap (λ (z : Result Shape Refusal). shown_text z Done) x)) c.shape-n.ensures) (nothing _)
