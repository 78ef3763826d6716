-- 10 and 11, then 20.
use mathlib.Core.Path.{sym, ◌∙◌}
use Rattle.store.proofs.Laws.{checked_form}
use Rattle.store.proofs.sizes.Goals as goal

pub returns-then-bad_form : goal.returns-then-bad_form
returns-then-bad_form c =
    checked_form c.args.store.now c.in_ok-z.z (sym c.in_ok-z.ensures) (sym c.bad_form.ensures ∙ c.if-bad_form.true)
