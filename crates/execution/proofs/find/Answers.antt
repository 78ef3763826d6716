-- The call with the line's pairs.
use Prim.Native.Nat.{ℕ}
use mathlib.Core.Path.{◌≡◌, refl, sym, ap, ◌∙◌}
use mathlib.Core.List.{List, []}
use native.Mathlib.Omega.{arith}
use lib.ListN.{length}
use Rattle.scheme.specs.Call.{Call}
use Rattle.scheme.specs.Run.{perform}
use Rattle.suite.specs.Program.{program}
use Rattle.parts.specs.Parts.{parts_of}
use Rattle.request.specs.declared.Request.TheVariants.{Find}
use Rattle.buffer.proofs.Laws.{said}
use Rattle.report.specs.Run.{lent, found_text}
use Rattle.report.proofs.Found.{call_room, holds}
use Rattle.report.proofs.Arms.{ended, lent_length}
use Rattle.execution.proofs.find.Goals as goal

-- the call, where its output is lent
lent_call : (before line key given : List ℕ) (n : ℕ) → given ≡ lent
    → perform program (Call.joint_find (parts_of line key n) given) before ≡ perform program (Call.joint_find (parts_of line key n) lent) before
lent_call before line key given n e = ap (λ (x : List ℕ). perform program (Call.joint_find (parts_of line key n) x) before) e

pub told_ids-requires : goal.told_ids-requires
told_ids-requires c =
    let a = c.args in
    let o = c.find-o in
    let b = c.blank-ids.ensures in
    let long : length o.new.output ≡ 65536 = omega (arith, lent_length, ap length b, o.auto) in
    let e = lent_call a.store.now a.line.now a.key.now _ a.n b in
    (holds o.result (length o.new.output) (λ n h. omega (arith, call_room a.store.now (parts_of a.line.now a.key.now a.n) lent n (sym (o.ensures.result_value ∙ ap (λ r. r.answer) e) ∙ h), lent_length, long)), (omega (arith, long), c.requires.1))

pub returns : goal.returns
returns c =
    let s = c.args in
    let o = c.find-o in
    let a = c.told_ids in
    let e = lent_call s.store.now s.line.now s.key.now _ s.n c.blank-ids.ensures in
    ended (Find s.n) s.line.now s.store.now s.key.now [] s.store.now o.result a.result a.ensures.outcome_value (o.ensures.result_value ∙ ap (λ r. r.answer) e, (refl, o.ensures.roomed))
    (said (ap (found_text o.result) (o.ensures.output_after ∙ ap (λ r. r.output) e)) a.ensures.put) a.ensures.put_2
