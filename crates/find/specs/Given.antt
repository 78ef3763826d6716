-- What a find gives of its ids (document 01, "Operations": find; "Refusals from the state": 18): each is in the list once.
use Rattle.std.specs.Prelude.{ℕ, ◌+◌, ◌*◌, ◌≤◌, ◌≡◌, cond, List, [], ◌∷◌, ◌++◌, ltb, length, drop, replicate}
use Rattle.answer.specs.Answer.{Answer, done, refused}
use Rattle.table.specs.Lists.{flat}

-- how many ids there are, or 18 with their number [01:OP8 RS11] [02:W1.3]
unfoldable pub given_answer : List (List ℕ) → List ℕ → Answer
given_answer ids output = cond (ltb (length output) (16 * length ids)) (refused 18 (length ids ∷ [])) (done (length ids ∷ []))

-- the ids at the start of the output, or the output as lent [01:OP6 OP7]
unfoldable pub given_output : List (List ℕ) → List ℕ → List ℕ
given_output ids output = cond (ltb (length output) (16 * length ids)) output (flat ids ++ drop (16 * length ids) output)

-- an index with no id and with room for n
pub record Empty (index : List ℕ) (n : ℕ) : Type 0 where
  pub clear : index ≡ replicate (length index) 0
  pub room : 4096 + n ≤ length index
  pub most : length index ≤ 69632
