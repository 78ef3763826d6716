-- What a find with a token gives, put together from what its pieces give.
use Prim.Native.Nat.{ℕ}
use mathlib.Core.Path.{◌≡◌, ap₂, ◌∙◌}
use mathlib.Core.List.{List}
use Rattle.scheme.specs.Keys.{find_token_length}
use Rattle.scheme.specs.Find
use Rattle.suite.specs.Program.{program}
use Rattle.outcome.specs.Told.{told}
use Rattle.outcome.specs.declared.Outcome.{Outcome}
use Rattle.report.specs.Run.{token_in, lent}

-- a find with a token, whose output is that of the definition
module _ (before token line key given ids : List ℕ) (o : Outcome) (e : token ≡ token_in find_token_length line key) (g : given ≡ lent)
    (a : told o ≡ (Find.find program before token given).answer) (b : ids ≡ (Find.find program before token given).output) where
  pub found_by_answer : told o ≡ (Find.find program before (token_in find_token_length line key) lent).answer
  found_by_answer = a ∙ ap₂ (λ (x y : List ℕ). (Find.find program before x y).answer) e g

  pub found_by_output : ids ≡ (Find.find program before (token_in find_token_length line key) lent).output
  found_by_output = b ∙ ap₂ (λ (x y : List ℕ). (Find.find program before x y).output) e g
