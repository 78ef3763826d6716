-- Refused by the definition's tests, in its order; then the test in the store.
use mathlib.Core.Path.{sym}
use Rattle.test.proofs.Laws.{other_id, other_length}
use Rattle.test.proofs.test.Goals as goal

pub returns-then-id-ne-ID : goal.returns-then-id-ne-ID
returns-then-id-ne-ID c = let a = c.args in other_id a.store.now a.id.now a.token.now c.if-id-ne-ID.true

pub returns-then-token-ne-MARK_TOKEN : goal.returns-then-token-ne-MARK_TOKEN
returns-then-token-ne-MARK_TOKEN c =
    let a = c.args in other_length a.store.now a.id.now a.token.now c.if-id-ne-ID.false c.if-token-ne-MARK_TOKEN.true

pub test_in-requires : goal.test_in-requires
test_in-requires c = (sym c.in_ok-z.ensures, (c.if-id-ne-ID.false, c.if-token-ne-MARK_TOKEN.false))
