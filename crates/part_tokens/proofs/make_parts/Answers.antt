-- Each part is made in turn: one that is refused ends it.
use Prim.Native.Nat.{ℕ, ◌/◌}
use mathlib.Core.Path.{◌≡◌, sym, ap, ◌∙◌}
use mathlib.Core.Option.{Option}
use mathlib.Core.List.{[]}
use native.Mathlib.Omega.{arith}
use lib.ListN.{length, replicate}
use Rattle.std.proofs.Common.{rules}
use Rattle.answer.specs.Answer.{Answer, done, completion}
use Rattle.answer.specs.Verdict.{answer_or, verdict}
use Rattle.scheme.specs.Run.{part_of, part_token_tests}
use Rattle.suite.specs.Program.{program}
use Rattle.part_tokens.specs.Parts.{part_at, parts_of, parts_tests}
use Rattle.client.proofs.Making.{made, unmade, token_made}
use Rattle.part_tokens.proofs.Parts.{going_none, going_stops, going_on, going_passed, going_all, kept_made, kept_refused}
use Rattle.part_tokens.proofs.make_parts.Goals as goal

pub loop-i-init : goal.loop-i-init
loop-i-init c = going_none c.args.text.now c.args.ends.now (length c.args.ends.now / 3) c.args.to.now c.requires

pub returns-in-Err : goal.returns-in-Err
returns-in-Err c =
    let a = c.args in
    let v = unmade (part_token_tests (part_at a.text.now a.ends.now c.loop-i.i)) c.in-Err.r c.in-Err.ensures.result_value in
    let r = going_stops a.text.now a.ends.now (length a.ends.now / 3) a.to.now c.loop-i.i c.loop-i.to c.loop-i.invariant c.loop-i-test.true _ v in
    let e : c.fill.new.self ≡ replicate (length c.loop-i.to) 0 = search rules in record {
      result_value = sym (ap (λ (o : Option Answer). answer_or o (done [])) r);
      to_after = kept_refused (parts_of a.text.now a.ends.now) a.to.now c.fill.new.self _ r (e ∙ ap (λ (k : ℕ). replicate k 0) c.loop-i.invariant.size);
    }

pub loop-i-preserved : goal.loop-i-preserved
loop-i-preserved c =
    let a = c.args in
    let p = part_at a.text.now a.ends.now c.loop-i.i in
    let v = made (part_token_tests p) (sym (ap completion c.in_default.is) ∙ c.make_part.ensures.result_value) in
    let b = token_made (part_token_tests p) (part_of program p) _ c.make_part.new.part v c.make_part.ensures.part_after in
    going_on a.text.now a.ends.now (length a.ends.now / 3) a.to.now c.loop-i.i c.loop-i.to c.loop-i.invariant c.loop-i-test.true c.make_part.new.part c.put_part.new.to c.requires v b c.put_part.ensures c.put_part.auto.to

pub returns : goal.returns
returns c =
    let a = c.args in
    let n = length a.ends.now / 3 in
    let v = going_passed a.text.now a.ends.now n a.to.now c.loop-i.i c.loop-i.to c.loop-i.invariant c.loop-i-test.false in record {
      result_value = sym (ap (λ (o : Option Answer). answer_or o (done [])) v);
      to_after = kept_made (parts_of a.text.now a.ends.now) a.to.now c.loop-i.to v (going_all a.text.now a.ends.now n a.to.now c.loop-i.i c.loop-i.to c.loop-i.invariant c.loop-i-test.false);
    }
