-- 4 to 6, then 10 and 11, then the rest.
use mathlib.Core.Path.{sym}
use Rattle.insert.proofs.Answers.{refused_store}
use Rattle.insert.proofs.insert.Goals as goal

pub returns-in_err-z-clause-store_after : goal.returns-in_err-z-clause-store_after
returns-in_err-z-clause-store_after c =
    let a = c.args in
    (refused_store a.store.now a.ids.now a.nonces.now a.token.now (record { passes = sym c.in_ok-input.ensures }) c.in_err-z.field-0.0 c.in_err-z.ensures).1
