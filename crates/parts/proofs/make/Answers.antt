use Prim.Native.Nat.{ℕ, ◌+◌, ◌*◌}
use mathlib.Core.Path.{◌≡◌, refl, sym, ap, ◌∙◌}
use mathlib.Core.List.{[]}
use mathlib.Core.Option.{Option}
use lib.ListN.{replicate}
use Rattle.answer.specs.Answer.{Answer, done, completion}
use Rattle.answer.specs.Verdict.{answer_or}
use Rattle.scheme.specs.Run.{part_of, part_token_tests}
use Rattle.suite.specs.Program.{program}
use Rattle.parts.specs.Parts.{part_at, parts_of}
use Rattle.client.proofs.Making.{made, unmade, token_made}
use Rattle.parts.proofs.Laws.{going_none, going_on, going_stops, going_passed, going_all, parts_made, parts_refused}
use borrow.Author.Rules.{rules}
use Rattle.parts.proofs.make.Goals as goal

pub loop-i-init : goal.loop-i-init
loop-i-init c = let s = c in going_none s.args.line.now s.args.key.now s.args.n s.args.to.now s.requires.0

pub loop-i-preserved : goal.loop-i-preserved
loop-i-preserved c =
    let s = c.args in
    let l = c.loop-i in
    let m = c.make_part in
    let p = part_at s.line.now s.key.now l.i in
    let v = made (part_token_tests p) (sym (ap completion c.in_default.is) ∙ m.ensures.result_value) in
    going_on s.line.now s.key.now s.n l.i l.to l.invariant c.loop-i-test.true m.new.to (128 * l.i) (128 * l.i + 128) refl refl v
    (token_made (part_token_tests p) (part_of program p) _ m.new.to v m.ensures.to_after)

pub returns-in-Err : goal.returns-in-Err
returns-in-Err c =
    let s = c.args in
    let l = c.loop-i in
    let v = unmade (part_token_tests (part_at s.line.now s.key.now l.i)) c.in-Err.r c.in-Err.ensures.result_value in
    let r = going_stops s.line.now s.key.now s.n l.i l.to l.invariant c.loop-i-test.true _ v in
    let e : c.fill.new.self ≡ replicate (128 * s.n) 0 = search rules in
    record { result_value = sym (ap (λ (o : Option Answer). answer_or o (done [])) r); to_after = parts_refused (parts_of s.line.now s.key.now s.n) s.n c.fill.new.self _ r e }

pub returns : goal.returns
returns c =
    let s = c.args in
    let l = c.loop-i in
    let v = going_passed s.line.now s.key.now s.n l.i l.to l.invariant c.loop-i-test.false in record { result_value = sym (ap (λ (o : Option Answer). answer_or o (done [])) v); to_after = parts_made (parts_of s.line.now s.key.now s.n) s.n l.to v (going_all s.line.now s.key.now s.n l.i l.to l.invariant c.loop-i-test.false) }
