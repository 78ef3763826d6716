-- A find that is answered found no more ids than its output has room for.
use Prim.Native.Nat.{ℕ, ◌*◌, ◌≤◌}
use mathlib.Core.Path.{◌≡◌, refl, ap, ◌∙◌}
use mathlib.Core.Bool.{Bool, true, false}
use mathlib.Core.Option.{Option, none, some}
use mathlib.Core.List.{List, [], ◌∷◌, ◌++◌}
use native.Mathlib.Omega.{arith}
use borrow.Author.Tests.{ltb-false}
use lib.Dec.{ltb}
use lib.ListN.{length}
use Rattle.answer.specs.Answer.{Answer, done, refused}
use Rattle.answer.specs.Verdict.{Test, ◌⇒◌, ◌⇒◌carrying◌, verdict, answer_or}
use Rattle.scheme.specs.Keys.{find_token_length}
use Rattle.scheme.specs.Store.{state_tests}
use Rattle.scheme.specs.Refusals.{token_tests, part_tests}
use Rattle.scheme.specs.Find.{ids_found, find_verdict, find}
use Rattle.scheme.specs.JointFind.{ids_kept, joint_verdict, joint_find}
use Rattle.scheme.specs.Call.{Part}
use Rattle.scheme.specs.Run.{joint_call, made_or}
use Rattle.scheme.proofs.Verdicts.{after_none, passed}
use Rattle.suite.specs.Program.{program}
use Rattle.parts.specs.Parts.{parts_tests, parts_bytes}
use Rattle.outcome.specs.Told.{told}
use Rattle.outcome.specs.declared.Outcome.{Outcome}
use Rattle.outcome.specs.declared.Outcome.TheVariants.{Number, Counted, Inspected, Compacted, Damaged, WrongKey, Refused, Done, BadWords}
use Rattle.report.specs.Run.{Holds}

-- no refusal is an answer
pub never_done : (ts : List Test) (l : List ℕ) → verdict ts ≡ some (done l) → ⊥
never_done [] l e = let z : ◌≡◌ {A = ℕ} 0 1 = cc in omega arith
never_done ((b ⇒ n) ∷ ts) l e = go b e (never_done ts l)
  where
    go : (b : Bool) → verdict ((b ⇒ n) ∷ ts) ≡ some (done l) → (verdict ts ≡ some (done l) → ⊥) → ⊥
    go true e h = let z : ◌≡◌ {A = ℕ} 0 1 = cc in omega arith
    go false e h = h e
never_done ((b ⇒ n carrying x) ∷ ts) l e = go b e (never_done ts l)
  where
    go : (b : Bool) → verdict ((b ⇒ n carrying x) ∷ ts) ≡ some (done l) → (verdict ts ≡ some (done l) → ⊥) → ⊥
    go true e h = let z : ◌≡◌ {A = ℕ} 0 1 = cc in omega arith
    go false e h = h e

-- an answer that 18 is judged for last
answer_room : (first second : List Test) (damage : Bool) (output : List ℕ) (ids n : ℕ)
    → answer_or (verdict (first ++ (second ++ ((damage ⇒ 13) ∷ (ltb (length output) (16 * ids) ⇒ 18 carrying (ids ∷ [])) ∷ [])))) (done (ids ∷ [])) ≡ done (n ∷ [])
    → 16 * n ≤ length output
answer_room first second damage output ids n e = go (verdict (first ++ (second ++ last))) refl e
  where
    last : List Test
    last = (damage ⇒ 13) ∷ (ltb (length output) (16 * ids) ⇒ 18 carrying (ids ∷ [])) ∷ []

    go : (v : Option Answer) → verdict (first ++ (second ++ last)) ≡ v → answer_or v (done (ids ∷ [])) ≡ done (n ∷ []) → 16 * n ≤ length output
    go none q h =
        let k : ids ≡ n = cc in
        let e = after_none second last (after_none first (second ++ last) q) in
        omega (arith, k, ltb-false (length output) (16 * ids) (passed (ltb (length output) (16 * ids)) (refused 18 (ids ∷ [])) none (passed damage (refused 13 []) (verdict ((ltb (length output) (16 * ids) ⇒ 18 carrying (ids ∷ [])) ∷ [])) e).1).0)
    go (some r) q h = absurd (never_done (first ++ (second ++ last)) (n ∷ []) (q ∙ ap some h))

pub find_room : (before token output : List ℕ) (n : ℕ) → (find program before token output).answer ≡ done (n ∷ []) → 16 * n ≤ length output
unfolding find find_verdict
find_room before token output n e =
    answer_room (token_tests find_token_length token) (state_tests before) _ output (length (ids_found program before token)) n e

joint_room : (before parts output : List ℕ) (n : ℕ) → (joint_find program before parts output).answer ≡ done (n ∷ []) → 16 * n ≤ length output
unfolding joint_find joint_verdict
joint_room before parts output n e = answer_room (part_tests parts) (state_tests before) _ output (length (ids_kept program before parts)) n e

-- the same with the makings of the parts
pub call_room : (before : List ℕ) (parts : List Part) (output : List ℕ) (n : ℕ) → (joint_call program before parts output).answer ≡ done (n ∷ [])
    → 16 * n ≤ length output
unfolding joint_call
call_room before parts output n e = go (verdict (parts_tests parts)) refl e
  where
    go : (v : Option Answer) → verdict (parts_tests parts) ≡ v
        → (made_or v (joint_find program before (parts_bytes parts) output) before output).answer ≡ done (n ∷ []) → 16 * n ≤ length output
    go none q h = joint_room before (parts_bytes parts) output n h
    go (some r) q h = absurd (never_done (parts_tests parts) (n ∷ []) (q ∙ ap some h))

-- what a find's outcome tells has room
pub holds : (o : Outcome) (room : ℕ) → ((n : ℕ) → told o ≡ done (n ∷ []) → 16 * n ≤ room) → Holds o room
holds (Number n) room h = h n refl
holds (Counted n rows) room h = tt
holds (Inspected f) room h = tt
holds (Compacted t) room h = tt
holds (Damaged t) room h = tt
holds (WrongKey t) room h = tt
holds (Refused r x) room h = tt
holds Done room h = tt
holds BadWords room h = tt
