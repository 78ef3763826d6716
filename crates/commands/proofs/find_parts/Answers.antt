-- The parts are made or their making refused; then the joint find's contract.
use mathlib.Core.Path.{sym, ap, ◌∙◌}
use mathlib.Core.List.{List}
use Prim.Native.Nat.{ℕ}
use Rattle.std.proofs.lemmas.Result.{err_from_is_err_and}
use Rattle.scheme.specs.JointFind.{joint_find}
use Rattle.scheme.specs.Run.{joint_call}
use Rattle.suite.specs.Program.{program}
use Rattle.parts.specs.Parts.{parts_of, parts_tests, parts_bytes}
use Rattle.parts.proofs.Laws.{parts_were}
use Rattle.client.proofs.Making.{made, unmade_call, made_call}
use Rattle.commands.proofs.find_parts.Goals as goal

pub returns-in_err-make : goal.returns-in_err-make
unfolding joint_call
returns-in_err-make c =
    let s = c.args in
    let ps = parts_of s.line.now s.key.now s.n in
    let g = unmade_call (parts_tests ps) (joint_find program s.store.now (parts_bytes ps) s.output.now) s.store.now s.output.now c.in_err-make.field-0.0 c.in_err-make.ensures.result_value in
    let p = err_from_is_err_and c.from_residual.result c.from_residual.ensures.1 in
    record { result_value = rw (p.1, p.2) (sym (ap (λ z. z.answer) g)); output_after = sym (ap (λ z. z.output) g); parts_after = c.make.ensures.to_after }

pub returns : goal.returns
unfolding joint_call
returns c =
    let s = c.args in
    let ps = parts_of s.line.now s.key.now s.n in
    let v = made (parts_tests ps) c.in_ok-make.ensures.result_value in
    let g = ap (λ (p : List ℕ). joint_find program s.store.now p s.output.now) (parts_were ps s.n _ v c.make.ensures.to_after)
    ∙ sym (made_call (parts_tests ps) (joint_find program s.store.now (parts_bytes ps) s.output.now) s.store.now s.output.now c.in_ok-make.ensures.result_value) in
    record { result_value = c.joint_find.ensures.result_value ∙ ap (λ z. z.answer) g; output_after = c.joint_find.ensures.output_after ∙ ap (λ z. z.output) g; parts_after = c.make.ensures.to_after }
