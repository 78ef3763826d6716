-- Refused by the definition's tests, in its order; then find in the store.
use mathlib.Core.Path.{sym}
use Rattle.find.proofs.Laws.{other_length, unfit_store}
use Rattle.find.proofs.find.Goals as goal

pub returns-then-token-ne-FIND_TOKEN : goal.returns-then-token-ne-FIND_TOKEN
returns-then-token-ne-FIND_TOKEN c =
    let a = c.args in
    let both = other_length a.store.now a.token.now a.output.now c.if-token-ne-FIND_TOKEN.true in
    record { result_value = both.0; output_after = both.1 }

pub returns-in_err-z-clause-output_after : goal.returns-in_err-z-clause-output_after
returns-in_err-z-clause-output_after c =
    let a = c.args in
    (unfit_store a.store.now a.token.now a.output.now c.if-token-ne-FIND_TOKEN.false c.in_err-z.field-0.0 (sym c.in_err-z.ensures)).1
