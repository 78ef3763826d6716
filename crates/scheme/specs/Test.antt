-- Document 02, "Find by several fields": whether the document of an id has a label.
use Rattle.std.specs.Prelude.{ℕ, Bool, cond, ◌&&◌, List, [], ◌∷◌, ◌++◌}
use Rattle.std.proofs.Math.Option.{Option}
use Rattle.table.specs.Lists.{same, any_of}
use Rattle.table.specs.Table.{Table, used}
use Rattle.answer.specs.Answer.{Answer, done}
use Rattle.scheme.specs.Suite.{Suite}
use Rattle.scheme.specs.Keys.{mark_token_length}
use Rattle.scheme.specs.Store.{table_r, cut, state_tests, r_mark, label_id, label_nonce, label_mark}
use Rattle.scheme.specs.Refusals.{Result, id_tests, token_tests}
use Rattle.answer.specs.Verdict.{verdict, answer_or}

-- whether an R row of the id carries the R mark of RL [02:W4.17]
unfoldable pub carries : Suite → List ℕ → List ℕ → List ℕ → Bool
carries suite rl id b = same (label_id b) id && same (label_mark b) (r_mark suite rl (label_nonce b) id)

-- whether one of a table's used rows does [02:W4.17]
unfoldable pub tests : Suite → Table → List ℕ → List ℕ → Bool
tests suite t rl id = any_of (carries suite rl id) (used t)

-- yes is 1, no is 0
abbrev pub yes_or_no : Bool → Answer
yes_or_no b = done (cond b 1 0 ∷ [])

module _ (suite : Suite) (before id token : List ℕ) where
  -- 5, then 6, then 10, 11 and 20 [02:W4.15 W4.16]
  unfoldable pub test_verdict : Option Answer
  test_verdict = verdict (id_tests id ++ (token_tests mark_token_length token ++ state_tests before))

  -- the token is RL [02:W4.16]
  unfoldable pub test : Result
  test = record { answer = answer_or test_verdict (yes_or_no (tests suite ((cut before).table table_r) token id)); store = before; output = [] }
