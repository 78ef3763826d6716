-- What the readings of shares 0 to p come to (document 01, "Operations": count): 13, or the sum of their counts, and the rows looked at
-- for them.
use Rattle.std.specs.Prelude.{ℕ, cond, [], ◌∷◌, map}
use Rattle.answer.specs.Answer.{Answer, done, refused}
use Rattle.table.specs.Lists.{any_of, sum, up_to}
use Rattle.scheme.specs.Reading.{Reading, damaged, count_of}

-- [01:OP9 RS6] [02:W3.8]
unfoldable pub sum_answer : (ℕ → Reading) → (ℕ → ℕ) → ℕ → Answer
sum_answer f rows p =
    cond (any_of (λ u. damaged (f u)) (up_to p)) (refused 13 []) (done (sum (map (λ u. count_of (f u)) (up_to p)) ∷ sum (map rows (up_to p)) ∷ []))
