-- The token is made or its making refused; then the operation's contract.
use mathlib.Core.Path.{sym, ap, ◌∙◌}
use mathlib.Core.List.{[]}
use Rattle.std.proofs.lemmas.Result.{err_from_is_err_and}
use Rattle.scheme.specs.Keys.{mark_token}
use Rattle.scheme.specs.Refusals.{field_token_tests}
use Rattle.scheme.specs.Run.{test_call}
use Rattle.scheme.specs.Test
use Rattle.suite.specs.Program.{program}
use Rattle.client.specs.Making.{field_of}
use Rattle.client.proofs.Making.{made, token_made, unmade_call, made_call}
use Rattle.queries.proofs.test.Goals as goal

pub returns-in_err-mark_token : goal.returns-in_err-mark_token
unfolding test_call
returns-in_err-mark_token c =
    let a = c.args in
    let f = field_of a.name.now a.value.now in
    let ts = field_token_tests a.key.now f in
    let g = unmade_call ts (Test.test program a.store.now a.id.now (mark_token program a.key.now f)) a.store.now [] c.in_err-mark_token.field-0.0 c.in_err-mark_token.ensures.result_value in
    let p = err_from_is_err_and c.from_residual.result c.from_residual.ensures.1 in
    rw (p.1, p.2) (sym (ap (λ r. r.answer) g))

pub returns : goal.returns
unfolding test_call
returns c =
    let a = c.args in
    let f = field_of a.name.now a.value.now in
    let ts = field_token_tests a.key.now f in
    let g = ap (Test.test program a.store.now a.id.now) (token_made ts (mark_token program a.key.now f) _ c.mark_token.new.token (made ts c.in_ok-mark_token.ensures.result_value) c.mark_token.ensures.token_after)
    ∙ sym (made_call ts (Test.test program a.store.now a.id.now (mark_token program a.key.now f)) a.store.now [] c.in_ok-mark_token.ensures.result_value) in
    c.test.ensures ∙ ap (λ r. r.answer) g
