-- An answer as one signed number of 64 bits, for callers in C: what a call answers, or minus the refusal's number (document 01,
-- "Refusals from the input", "Refusals from the state") and 256 times what that carries. [01:FM14 FM15]
use Rattle.std.specs.Prelude.{ℕ, ◌+◌, ◌*◌, ◌^◌, ◌<◌, cond, ◌&&◌, eqb, List, [], ◌∷◌, set, ℤ, pos, neg_ℤ}
use Rattle.table.specs.Lists.{sum}
use Rattle.answer.specs.Answer.{Answer, done, refused, rows_of}

-- the values as one number: none is 0, and of two (anchors, counters) the first counts 2 ^ 32
abbrev pub packed : List ℕ → ℕ
packed [] = 0
packed (n ∷ []) = n
packed (a ∷ b ∷ l) = a * 0x1_0000_0000 + b

-- the number without its sign
abbrev pub magnitude : Answer → ℕ
magnitude (done l) = packed l
magnitude (refused n l) = n + 256 * packed l

abbrev pub encoded : Answer → ℤ
encoded (done l) = pos (magnitude (done l))
encoded (refused n l) = neg_ℤ (pos (magnitude (refused n l)))

-- n values that a call answers or a refusal carries; the second of two is below 2 ^ 32
pub data Values : ℕ → List ℕ → Type 0 where
  none : Values 0 []
  one : {x : ℕ} → Values 1 (x ∷ [])
  two : {x y : ℕ} → y < 2 ^ 32 → Values 2 (x ∷ y ∷ [])

-- how many values refusal k carries in a call that answers n: 18 the ids found, a compaction's 13 its two numbers so far
abbrev pub carries : ℕ → ℕ → ℕ
carries n k = cond (eqb k 18) 1 (cond (eqb n 2 && eqb k 13) 2 0)

-- what a call that answers n values can answer
abbrev pub Gives : ℕ → Answer → Type 0
Gives n (done l) = Values n l
Gives n (refused k l) = (0 < k) × (k < 256) × Values (carries n k) l

-- such an answer, whose number fits its 64 bits
pub record Fits (n : ℕ) (a : Answer) : Type 0 where
  pub small : magnitude a < 2 ^ 63
  pub gives : Gives n a

-- a token making answers the token's length
abbrev pub answering : ℕ → Answer → Answer
answering n (done l) = done (n ∷ [])
answering n (refused k l) = refused k l

-- what a caller lent for the rows looked at, after a call: they stand at place 0, and a refusal leaves it [02:W3.8]
abbrev pub rows_lent : Answer → List ℕ → List ℕ
rows_lent (done l) old = set old 0 (rows_of (done l))
rows_lent (refused n l) old = old

-- a check answers the sum of its numbers [check:14]
abbrev pub summed : Answer → Answer
summed (done l) = done (sum l ∷ [])
summed (refused n l) = refused n l

-- what a caller lent for the numbers of a check, after it: they stand there, and a refusal leaves it [check:14]
abbrev pub numbers_lent : Answer → List ℕ → List ℕ
numbers_lent (done l) old = l
numbers_lent (refused n l) old = old
