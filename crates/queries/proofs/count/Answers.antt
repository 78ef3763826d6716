-- The token is made or its making refused; then the operation's contract.
use mathlib.Core.Path.{sym, ap, ◌∙◌}
use mathlib.Core.List.{[]}
use Rattle.std.proofs.lemmas.Result.{err_from_is_err_and}
use Rattle.scheme.specs.Count
use Rattle.scheme.specs.Keys.{count_token}
use Rattle.scheme.specs.Refusals.{field_token_tests}
use Rattle.scheme.specs.Run.{count_call}
use Rattle.suite.specs.Program.{program}
use Rattle.client.specs.Making.{field_of}
use Rattle.client.proofs.Making.{made, token_made, unmade_call, made_call}
use Rattle.queries.proofs.count.Goals as goal

pub returns-in_err-count_token : goal.returns-in_err-count_token
unfolding count_call
returns-in_err-count_token c =
    let a = c.args in
    let f = field_of a.name.now a.value.now in
    let ts = field_token_tests a.key.now f in
    let g = unmade_call ts (Count.count program a.store.now (count_token program a.key.now f)) a.store.now [] c.in_err-count_token.field-0.0 c.in_err-count_token.ensures.result_value in
    let p = err_from_is_err_and c.from_residual.result c.from_residual.ensures.1 in
    rw (p.1, p.2) (sym (ap (λ r. r.answer) g))

pub returns : goal.returns
unfolding count_call
returns c =
    let a = c.args in
    let f = field_of a.name.now a.value.now in
    let ts = field_token_tests a.key.now f in
    let g = ap (Count.count program a.store.now) (token_made ts (count_token program a.key.now f) _ c.count_token.new.token (made ts c.in_ok-count_token.ensures.result_value) c.count_token.ensures.token_after)
    ∙ sym (made_call ts (Count.count program a.store.now (count_token program a.key.now f)) a.store.now [] c.in_ok-count_token.ensures.result_value) in
    c.count.ensures.result_value ∙ ap (λ r. r.answer) g
