-- Document 01, "Operations": count; and the rows that it looked at (document 02, "Stop early, and say the rows read").
use Rattle.std.specs.Prelude.{ℕ, ◌+◌, ◌*◌, List, [], ◌∷◌, ◌++◌, map, length}
use Rattle.std.proofs.Math.Option.{Option}
use Rattle.table.specs.Lists.{any_of, sum, up_to}
use Rattle.table.specs.Order.{used_rows}
use Rattle.answer.specs.Answer.{Answer, done}
use Rattle.scheme.specs.Suite.{Suite}
use Rattle.scheme.specs.Keys.{count_token_length, share}
use Rattle.scheme.specs.Store.{table_c, sizes_of, cut, state_tests}
use Rattle.scheme.specs.Reading.{damaged, count_of}
use Rattle.scheme.specs.RowsRead.{reading_rows}
use Rattle.scheme.specs.Refusals.{Result, token_tests}
use Rattle.answer.specs.Verdict.{◌⇒◌, verdict, answer_or}
use Rattle.scheme.specs.Find.{share_reading}

-- the rows looked at for share u
unfoldable pub share_rows : Suite → List ℕ → List ℕ → ℕ → ℕ
share_rows suite before clx u = reading_rows suite (sizes_of before).c (share suite clx u) ((cut before).table table_c)

-- at most 2 × c × (p + 1) × the used rows of C [02:W3.11]
unfoldable pub most_rows : List ℕ → ℕ
most_rows before = 2 * (sizes_of before).c * ((sizes_of before).p + 1) * length (used_rows ((cut before).table table_c))

module _ (suite : Suite) (before token : List ℕ) where
  -- 6, then 10, 11 and 20, then 13 with every share read first [01:RI7 RS6]
  unfoldable pub count_verdict : Option Answer
  count_verdict = verdict (token_tests count_token_length token ++ (state_tests before ++
      ((any_of (λ u. damaged (share_reading suite before token u)) (up_to (sizes_of before).p) ⇒ 13)
      ∷ [])))

  -- the sum over shares, erased entries and repeats included [01:OP9] [02:W1.4]
  unfoldable pub sum_of_counts : ℕ
  sum_of_counts = sum (map (λ u. count_of (share_reading suite before token u)) (up_to (sizes_of before).p))

  -- the rows looked at, over the shares [02:W3.8]
  unfoldable pub rows_read : ℕ
  rows_read = sum (map (share_rows suite before token) (up_to (sizes_of before).p))

  -- the answer of the full reading, without them [02:W3.12]
  unfoldable pub full_count : Answer
  full_count = answer_or count_verdict (done (sum_of_counts ∷ []))

  unfoldable pub count : Result
  count = record { answer = answer_or count_verdict (done (sum_of_counts ∷ rows_read ∷ [])); store = before; output = [] }
