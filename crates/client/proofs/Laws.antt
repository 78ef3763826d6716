-- What a valid share tells, and the tests of an insert token as those of a field, then its own.
use mathlib.Core.Path.{◌≡◌, refl}
use mathlib.Core.Bool.{Bool, true, false, cond, ◌||◌, true≢false}
use mathlib.Core.List.{List, [], ◌∷◌}
use mathlib.Core.Option.{none, some}
use Prim.Native.Nat.{ℕ, ◌≤◌}
use borrow.Author.Tests.{ltb-false}
use lib.Dec.{ltb}
use Rattle.answer.specs.Answer.{refused}
use Rattle.answer.specs.Verdict.{◌⇒◌, verdict}
use Rattle.scheme.specs.Labels.{Field}
use Rattle.scheme.specs.Refusals.{length_not, insert_token_tests, field_token_tests}
use Rattle.scheme.proofs.Verdicts.{or_else, verdict-append}

pub share_range : (p u : ℕ) → ltb 15 p || ltb p u ≡ false → p ≤ 15
share_range p u e = go (ltb 15 p) refl e
  where
    go : (a : Bool) → ltb 15 p ≡ a → a || ltb p u ≡ false → p ≤ 15
    go true f g = absurd (true≢false g)
    go false f g = ltb-false 15 p f

pub insert_tests : (K : List ℕ) (f : Field) (p u : ℕ) (nonce : List ℕ)
    → verdict (insert_token_tests K f p u nonce) ≡ or_else (verdict (field_token_tests K f)) (cond (ltb 15 p || ltb p u) (some (refused 3 [])) (cond (length_not 12 nonce) (some (refused 4 [])) none))
unfolding insert_token_tests field_token_tests
insert_tests K f p u nonce = verdict-append (field_token_tests K f) ((ltb 15 p || ltb p u ⇒ 3) ∷ (length_not 12 nonce ⇒ 4) ∷ [])
