-- What an insert that its tests (admission) let pass is known to have (document 01, "Refusals from the input", "Refusals from the
-- state").
use Rattle.std.specs.Prelude.{ℕ, ◌≡◌, List, ◌++◌}
use Rattle.std.proofs.Math.Option.{none}
use Rattle.answer.specs.Verdict.{verdict}
use Rattle.scheme.specs.Keys.{insert_token_length, token_p}
use Rattle.scheme.specs.Refusals.{insert_input_tests, token_tests}
use Rattle.store.specs.declared.Shape.{Shape}
use Rattle.std.specs.Prelude.{Ok}
use Rattle.store.specs.Check.{checked_of}

-- 4, 5 and 6 don't refuse the call
pub record Accepted (ids nonces token : List ℕ) : Type 0 where
  pub passes : verdict (insert_input_tests ids nonces ++ token_tests insert_token_length token) ≡ none

-- 10, 11 and 12 don't refuse it, and the store has these sizes and free rows
pub record Matching (before token : List ℕ) (z : Shape) : Type 0 where
  pub fits : checked_of before ≡ Ok z
  pub shares : token_p token ≡ z.p
