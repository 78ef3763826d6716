-- The token is made or its making refused; then the operation's contract.
use Prim.Native.Nat.{ℕ}
use mathlib.Core.Path.{sym, ap, ◌∙◌}
use mathlib.Core.List.{List}
use Rattle.std.proofs.lemmas.Result.{err_from_is_err_and}
use Rattle.scheme.specs.Find
use Rattle.scheme.specs.Keys.{find_token}
use Rattle.scheme.specs.Refusals.{field_token_tests}
use Rattle.scheme.specs.Run.{find_call}
use Rattle.suite.specs.Program.{program}
use Rattle.client.specs.Making.{field_of}
use Rattle.client.proofs.Making.{made, token_made, unmade_call, made_call}
use Rattle.queries.proofs.find.Goals as goal

pub returns-in_err-find_token : goal.returns-in_err-find_token
unfolding find_call
returns-in_err-find_token c =
    let a = c.args in
    let f = field_of a.name.now a.value.now in
    let ts = field_token_tests a.key.now f in
    let g = unmade_call ts (Find.find program a.store.now (find_token program a.key.now f) a.output.now) a.store.now a.output.now c.in_err-find_token.field-0.0 c.in_err-find_token.ensures.result_value in
    let p = err_from_is_err_and c.from_residual.result c.from_residual.ensures.1 in
    record { result_value = rw (p.1, p.2) (sym (ap (λ r. r.answer) g)); output_after = sym (ap (λ r. r.output) g) }

pub returns : goal.returns
unfolding find_call
returns c =
    let a = c.args in
    let f = field_of a.name.now a.value.now in
    let ts = field_token_tests a.key.now f in
    let g = ap (λ (t : List ℕ). Find.find program a.store.now t a.output.now) (token_made ts (find_token program a.key.now f) _ c.find_token.new.token (made ts c.in_ok-find_token.ensures.result_value) c.find_token.ensures.token_after)
    ∙ sym (made_call ts (Find.find program a.store.now (find_token program a.key.now f) a.output.now) a.store.now a.output.now c.in_ok-find_token.ensures.result_value) in
    record { result_value = c.find.ensures.result_value ∙ ap (λ r. r.answer) g; output_after = c.find.ensures.output_after ∙ ap (λ r. r.output) g }
