-- Document 02, "Find by several fields": the ids of the documents that have several labels.
use Rattle.std.specs.Prelude.{ℕ, zero, suc, ◌*◌, Bool, cond, List, [], ◌∷◌, ◌++◌, map, ltb, length, get_or, take, drop}
use Rattle.std.proofs.Math.Option.{Option}
use Rattle.table.specs.Lists.{any_of, all_of, select, flat, up_to}
use Rattle.answer.specs.Answer.{Answer, done}
use Rattle.scheme.specs.Suite.{Suite}
use Rattle.scheme.specs.Keys.{find_cl, part_find, part_rl}
use Rattle.scheme.specs.Store.{table_r, sizes_of, cut, state_tests}
use Rattle.scheme.specs.Reading.{damaged}
use Rattle.scheme.specs.Refusals.{Result, parts_in, part_tests}
use Rattle.answer.specs.Verdict.{◌⇒◌, ◌⇒◌carrying◌, verdict, answer_or, unless_refused}
use Rattle.scheme.specs.Find.{share_reading, ids_found}
use Rattle.scheme.specs.Count.{sum_of_counts}
use Rattle.scheme.specs.Test.{tests}

-- the place of the least number, the earliest such place: the first number that no later one is less than [02:W4.19 W4.20]
abbrev pub least_at : List ℕ → ℕ
least_at [] = zero
least_at (n ∷ ns) = cond (any_of (λ k. ltb k n) ns) (suc (least_at ns)) zero

-- a list without the element at a place
abbrev pub without : ℕ → List (List ℕ) → List (List ℕ)
without i xs = take i xs ++ drop (suc i) xs

module _ (suite : Suite) (before : List ℕ) where
  -- whether a share of a part is damaged; the part's count, erased entries and repeats included; the ids that its find gives; whether it
  -- tests yes for an id
  unfoldable pub part_damaged : List ℕ → Bool
  part_damaged part = any_of (λ u. damaged (share_reading suite before (find_cl (part_find part)) u)) (up_to (sizes_of before).p)

  unfoldable pub part_sum : List ℕ → ℕ
  part_sum part = sum_of_counts suite before (find_cl (part_find part))

  unfoldable pub part_ids : List ℕ → List (List ℕ)
  part_ids part = ids_found suite before (part_find part)

  unfoldable pub part_test : List ℕ → List ℕ → Bool
  part_test id part = tests suite ((cut before).table table_r) (part_rl part) id

module _ (suite : Suite) (before parts : List ℕ) where
  -- the part with the least count, the earlier on a tie [02:W4.19 W4.20]
  unfoldable pub chosen_at : ℕ
  chosen_at = least_at (map (part_sum suite before) (parts_in parts))

  unfoldable pub chosen_part : List ℕ
  chosen_part = get_or (parts_in parts) chosen_at []

  -- the ids of its find for which every other part tests yes [02:W4.19 W4.21]
  unfoldable pub ids_kept : List (List ℕ)
  ids_kept = select (λ id. all_of (part_test suite before id) (without chosen_at (parts_in parts))) (part_ids suite before chosen_part)

module _ (suite : Suite) (before parts output : List ℕ) where
  -- 6, then 10, 11 and 20, then 13 by any share of any part, and 18 by the ids kept [02:W4.18 W4.22 W4.23]
  unfoldable pub joint_verdict : Option Answer
  joint_verdict = verdict (part_tests parts ++ (state_tests before ++
      ((any_of (part_damaged suite before) (parts_in parts) ⇒ 13)
      ∷ (ltb (length output) (16 * length (ids_kept suite before parts)) ⇒ 18 carrying (length (ids_kept suite before parts) ∷ []))
      ∷ [])))

  -- ids go to the start of the output, later bytes stay; answer: how many
  unfoldable pub joint_find : Result
  joint_find = record {
    answer = answer_or joint_verdict (done (length (ids_kept suite before parts) ∷ []));
    store = before;
    output = unless_refused joint_verdict (flat (ids_kept suite before parts) ++ drop (16 * length (ids_kept suite before parts)) output) output;
  }
