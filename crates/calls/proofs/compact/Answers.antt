-- The token is made or its making refused; then the operation's contract.
use mathlib.Core.Path.{sym, ap, ◌∙◌}
use mathlib.Core.List.{[]}
use lib.ListN.{length}
use Rattle.std.proofs.lemmas.Result.{err_from_is_err_and}
use Rattle.scheme.specs.Compaction.{compact}
use Rattle.scheme.specs.Keys.{compaction_token}
use Rattle.scheme.specs.Refusals.{key_tests}
use Rattle.scheme.specs.Run.{compact_call}
use Rattle.suite.specs.Program.{program}
use Rattle.client.proofs.Making.{made, token_made, unmade_call, made_call, compaction_length}
use Rattle.calls.proofs.compact.Goals as goal

pub slice_bounds-compact-end : goal.slice_bounds-compact-end
slice_bounds-compact-end c =
    let a = c.args in
    let ts = key_tests a.key.now in
    sym (ap length (token_made ts (compaction_token program a.key.now) _ c.compaction_token.new.token (made ts c.in_ok-compaction_token.ensures.result_value) c.compaction_token.ensures.token_after) ∙ compaction_length a.key.now)

pub returns-in_err-compaction_token : goal.returns-in_err-compaction_token
unfolding compact_call
returns-in_err-compaction_token c =
    let a = c.args in
    let ts = key_tests a.key.now in
    let g = unmade_call ts (compact program a.store.now a.nonces.now (compaction_token program a.key.now)) a.store.now [] c.in_err-compaction_token.field-0.0 c.in_err-compaction_token.ensures.result_value in
    let p = err_from_is_err_and c.from_residual.result c.from_residual.ensures.1 in
    record { result_value = rw (p.1, p.2) (sym (ap (λ r. r.answer) g)); store_after = sym (ap (λ r. r.store) g) }

pub returns : goal.returns
unfolding compact_call
returns c =
    let a = c.args in
    let ts = key_tests a.key.now in
    let g = ap (compact program a.store.now a.nonces.now) (token_made ts (compaction_token program a.key.now) _ c.compaction_token.new.token (made ts c.in_ok-compaction_token.ensures.result_value) c.compaction_token.ensures.token_after)
    ∙ sym (made_call ts (compact program a.store.now a.nonces.now (compaction_token program a.key.now)) a.store.now [] c.in_ok-compaction_token.ensures.result_value) in
    record { result_value = c.compact.ensures.result_value ∙ ap (λ r. r.answer) g; store_after = c.compact.ensures.store_after ∙ ap (λ r. r.store) g }
