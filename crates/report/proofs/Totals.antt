-- The numbers of a check's outcome are those of the answer, so their sum is small.
use Prim.Native.Nat.{ℕ, ◌≤◌}
use mathlib.Core.Path.{◌≡◌, refl, sym, ap, subst, ◌∙◌}
use mathlib.Core.Option.{Option, none, some}
use mathlib.Core.List.{List, []}
use Rattle.table.specs.Lists.{sum}
use Rattle.answer.specs.Answer.{Answer, done, refused, faults_of}
use Rattle.answer.specs.Verdict.{verdict, answer_or}
use Rattle.scheme.specs.Store.{cut, header_bad, state_tests}
use Rattle.scheme.specs.Check.{faults, check_verdict, check}
use Rattle.scheme.proofs.Verdicts.{passed}
use Rattle.consistency.proofs.Few.{faults_few}
use Rattle.outcome.specs.Told.{told}
use Rattle.outcome.specs.declared.Outcome.{Outcome}
use Rattle.outcome.specs.declared.Outcome.TheVariants.{Number, Counted, Inspected, Compacted, Damaged, WrongKey, Refused, Done, BadWords}
use Rattle.report.specs.Run.{Few}
use Rattle.report.proofs.Found.{never_done}

module _ (before : List ℕ) where
  -- an answer has the seven numbers
  answer_few : (l : List ℕ) → done l ≡ (check before).answer → sum l ≤ 28672
  unfolding check check_verdict state_tests
  answer_few l e = go (verdict (state_tests before)) refl e
    where
      go : (v : Option Answer) → verdict (state_tests before) ≡ v → done l ≡ answer_or v (done (faults (cut before))) → sum l ≤ 28672
      go none q h =
          let k : l ≡ faults (cut before) = cc in
          subst (λ (x : List ℕ). sum x ≤ 28672) (sym k) (faults_few before (passed (header_bad before) (refused 10 []) _ q).0)
      go (some r) q h = absurd (never_done (state_tests before) l (q ∙ ap some (sym h)))

  -- what a check's outcome tells is small
  pub few : (o : Outcome) → told o ≡ (check before).answer → Few o
  few (Number n) e = tt
  few (Counted n rows) e = tt
  few (Inspected f) e = answer_few (faults_of f) e
  few (Compacted t) e = tt
  few (Damaged t) e = tt
  few (WrongKey t) e = tt
  few (Refused r room) e = tt
  few Done e = tt
  few BadWords e = tt
