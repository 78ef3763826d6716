-- The token is made or its making refused; then the operation's contract.
use mathlib.Core.Path.{sym, ap, ◌∙◌}
use mathlib.Core.List.{[]}
use lib.ListN.{length}
use Rattle.std.proofs.lemmas.Result.{err_from_is_err_and}
use Rattle.scheme.proofs.Tokens.{token-length}
use Rattle.scheme.specs.Insert.{insert}
use Rattle.scheme.specs.Keys.{insert_token}
use Rattle.scheme.specs.Refusals.{insert_token_tests}
use Rattle.scheme.specs.Run.{insert_call}
use Rattle.suite.specs.Program.{program}
use Rattle.client.specs.Making.{field_of}
use Rattle.client.proofs.Making.{made, token_made, unmade_call, made_call, nonce_length}
use Rattle.calls.proofs.insert.Goals as goal

pub slice_bounds-insert-end : goal.slice_bounds-insert-end
slice_bounds-insert-end c =
    let a = c.args in
    let f = field_of a.name.now a.value.now in
    let ts = insert_token_tests a.key.now f a.p a.u a.nonce.now in
    sym (ap length (token_made ts (insert_token program a.key.now f a.p a.u a.nonce.now) _ c.insert_token.new.token (made ts c.in_ok-insert_token.ensures.result_value) c.insert_token.ensures.token_after) ∙ token-length program a.key.now f a.p a.u a.nonce.now (nonce_length a.key.now f a.p a.u a.nonce.now (made ts c.in_ok-insert_token.ensures.result_value)))

pub returns-in_err-insert_token : goal.returns-in_err-insert_token
unfolding insert_call
returns-in_err-insert_token c =
    let a = c.args in
    let f = field_of a.name.now a.value.now in
    let ts = insert_token_tests a.key.now f a.p a.u a.nonce.now in
    let g = unmade_call ts (insert program a.store.now a.ids.now a.nonces.now (insert_token program a.key.now f a.p a.u a.nonce.now)) a.store.now [] c.in_err-insert_token.field-0.0 c.in_err-insert_token.ensures.result_value in
    let p = err_from_is_err_and c.from_residual.result c.from_residual.ensures.1 in
    record { result_value = rw (p.1, p.2) (sym (ap (λ r. r.answer) g)); store_after = sym (ap (λ r. r.store) g) }

pub returns : goal.returns
unfolding insert_call
returns c =
    let a = c.args in
    let f = field_of a.name.now a.value.now in
    let ts = insert_token_tests a.key.now f a.p a.u a.nonce.now in
    let g = ap (insert program a.store.now a.ids.now a.nonces.now) (token_made ts (insert_token program a.key.now f a.p a.u a.nonce.now) _ c.insert_token.new.token (made ts c.in_ok-insert_token.ensures.result_value) c.insert_token.ensures.token_after)
    ∙ sym (made_call ts (insert program a.store.now a.ids.now a.nonces.now (insert_token program a.key.now f a.p a.u a.nonce.now)) a.store.now [] c.in_ok-insert_token.ensures.result_value) in
    record { result_value = c.insert.ensures.result_value ∙ ap (λ r. r.answer) g; store_after = c.insert.ensures.store_after ∙ ap (λ r. r.store) g }
