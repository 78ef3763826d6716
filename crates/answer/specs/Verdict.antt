-- Refusals in their order (document 01, "Refusals from the input", "Refusals from the state"): a call's conditions with their
-- numbers, one list per call. The first condition that holds refuses the call. [01:RI1 RS1]
use Rattle.std.specs.Prelude.{ℕ, Bool, cond, List, [], ◌∷◌, Result, Ok, Err}
use Rattle.std.proofs.Math.Option.{Option, none, some}
use Rattle.answer.specs.Answer.{Answer, refused, refusal}
use Rattle.answer.specs.declared.Refusal.{Refusal}

infix 10 ◌⇒◌ ◌⇒◌carrying◌
-- a condition, the number of its refusal, and what that carries
pub data Test : Type 0 where
  ◌⇒◌ : Bool → ℕ → Test
  ◌⇒◌carrying◌ : Bool → ℕ → List ℕ → Test

-- the refusal by the first condition that holds [01:RS12]
abbrev pub verdict : List Test → Option Answer
verdict [] = none
verdict ((b ⇒ n) ∷ ts) = cond b (some (refused n [])) (verdict ts)
verdict ((b ⇒ n carrying l) ∷ ts) = cond b (some (refused n l)) (verdict ts)

-- what tests make of a call: it may go on, or is refused
abbrev pub tested : Result (Unit {0}) Refusal → Option Answer
tested (Ok u) = none
tested (Err r) = some (refusal r)

-- the refusal, or else the answer
abbrev pub answer_or : Option Answer → Answer → Answer
answer_or none a = a
answer_or (some r) a = r

-- the bytes after a call: a refusal leaves them as they were [01:RS13]
abbrev pub unless_refused : Option Answer → List ℕ → List ℕ → List ℕ
unless_refused none new old = new
unless_refused (some r) new old = old
