-- The parts are made or a making refused; then the joint find of those made, or 6 where they are more than 8.
-- more than 8 are refused by 6
use Prim.Native.Nat.{ℕ, ◌*◌, ◌/◌, ◌%◌, ◌<◌}
use mathlib.Core.Path.{◌≡◌, sym, ap, ◌∙◌}
use mathlib.Core.Bool.{Bool, true, not, ◌||◌, or-true}
use mathlib.Core.List.{List}
use native.Mathlib.Omega.{arith}
use lib.Dec.{ltb, eqb}
use lib.ListN.{length, take, replicate, length-replicate}
use borrow.Author.Tests.{lt-ltb}
use Rattle.std.proofs.lemmas.Result.{err_from_is_err_and}
use Rattle.scheme.specs.Refusals.{part_count}
use Rattle.scheme.specs.JointFind
use Rattle.scheme.specs.Run.{joint_call}
use Rattle.suite.specs.Program.{program}
use Rattle.joint_find.specs.Kept.{parts_bad}
use Rattle.joint_find.proofs.Laws.{other_parts}
use Rattle.part_tokens.specs.Parts.{parts_to, parts_of, parts_tests, parts_bytes}
use Rattle.client.proofs.Making.{made, unmade_call, made_call}
use Rattle.part_tokens.proofs.Parts.{bytes_length, all_kept}
use Rattle.queries.proofs.joint_find.Goals as goal

too_many : (text ends : List ℕ) (n : ℕ) → 8 < n → parts_bad (parts_bytes (parts_to text ends n)) ≡ true
unfolding parts_bad
too_many text ends n h =
    let b = parts_bytes (parts_to text ends n) in
    let c : 8 < part_count b = omega (arith, bytes_length text ends n) in
    ap (λ (x : Bool). not (eqb (length b % 128) 0) || (ltb (part_count b) 1 || x)) (lt-ltb 8 (part_count b) c) ∙ ap (λ (x : Bool). not (eqb (length b % 128) 0) || x) (or-true (ltb (part_count b) 1)) ∙ or-true (not (eqb (length b % 128) 0))

pub returns-then-n-gt8 : goal.returns-then-n-gt8
unfolding joint_call
returns-then-n-gt8 c =
    let a = c.args in
    let b = parts_bytes (parts_of a.text.now a.ends.now) in
    let g = sym (made_call (parts_tests (parts_of a.text.now a.ends.now)) (JointFind.joint_find program a.store.now b a.output.now) a.store.now a.output.now c.in_ok-make_parts.ensures.result_value) in
    let r = other_parts a.store.now b a.output.now (too_many a.text.now a.ends.now (length a.ends.now / 3) c.if-n-gt8.true) in
    record { result_value = r.0 ∙ ap (λ r. r.answer) g; output_after = r.1 ∙ ap (λ r. r.output) g }

pub returns-in_err-make_parts : goal.returns-in_err-make_parts
unfolding joint_call
returns-in_err-make_parts c =
    let a = c.args in
    let ps = parts_of a.text.now a.ends.now in
    let g = unmade_call (parts_tests ps) (JointFind.joint_find program a.store.now (parts_bytes ps) a.output.now) a.store.now a.output.now c.in_err-make_parts.field-0.0 c.in_err-make_parts.ensures.result_value in
    let p = err_from_is_err_and c.from_residual.result c.from_residual.ensures.1 in
    record { result_value = rw (p.1, p.2) (sym (ap (λ r. r.answer) g)); output_after = sym (ap (λ r. r.output) g) }

-- the first bytes are the parts
pub returns : goal.returns
unfolding joint_call
returns c =
    let a = c.args in
    let ps = parts_of a.text.now a.ends.now in
    let ts = parts_tests ps in
    let lent : take (128 * (length a.ends.now / 3)) c.make_parts.new.to ≡ parts_bytes ps =
    all_kept a.text.now a.ends.now (replicate 1024 0) c.make_parts.new.to (length a.ends.now / 3) (length-replicate {A = ℕ} 1024 0) (omega (arith, c.if-n-gt8.false))
    (made ts c.in_ok-make_parts.ensures.result_value) c.make_parts.ensures.to_after in
    let g = ap (λ (t : List ℕ). JointFind.joint_find program a.store.now t a.output.now) lent
    ∙ sym (made_call ts (JointFind.joint_find program a.store.now (parts_bytes ps) a.output.now) a.store.now a.output.now c.in_ok-make_parts.ensures.result_value) in
    record { result_value = c.joint_find.ensures.result_value ∙ ap (λ r. r.answer) g; output_after = c.joint_find.ensures.output_after ∙ ap (λ r. r.output) g }
