-- Document 01, "Operations": erase; and its rows of R (document 02, "Find by several fields").
use Rattle.std.specs.Prelude.{ℕ, Bool, List, [], ◌∷◌, ◌++◌, map, take}
use Rattle.std.proofs.Math.Option.{Option}
use Rattle.table.specs.Lists.{same, select, count, any_of}
use Rattle.table.specs.Table.{used}
use Rattle.table.specs.Order.{closed}
use Rattle.answer.specs.Answer.{Answer, done}
use Rattle.scheme.specs.Store.{Store, table_m, table_v, table_r, width_of, cut, joined, put_in, state_tests, reverse_id, reverse_tag, label_id}
use Rattle.scheme.specs.Refusals.{Result, id_tests}
use Rattle.answer.specs.Verdict.{verdict, answer_or, unless_refused}

module _ (before id : List ℕ) where
  -- 5, then 10, 11 and 20 [01:RI6]
  unfoldable pub erase_verdict : Option Answer
  erase_verdict = verdict (id_tests id ++ state_tests before)

  -- whether a V row is the id's; the tags in the id's V rows; whether an M row has one of them
  unfoldable pub is_reverse : List ℕ → Bool
  is_reverse b = same (reverse_id b) id

  unfoldable pub erased_tags : List (List ℕ)
  erased_tags = map reverse_tag (select is_reverse (used ((cut before).table table_v)))

  unfoldable pub is_erased : List ℕ → Bool
  is_erased b = any_of (same (take 32 b)) erased_tags

  -- whether an R row is the id's
  unfoldable pub is_label : List ℕ → Bool
  is_label b = same (label_id b) id

  -- frees all the id's V rows and each M row with a tag of theirs [01:OP4], and all the id's R rows [02:W4.14]; the rows left close up
  -- [02:W2.4]
  unfoldable pub erased_store : Store
  erased_store =
      put_in table_r (closed (width_of table_r) is_label ((cut before).table table_r))
      (put_in table_v (closed (width_of table_v) is_reverse ((cut before).table table_v))
      (put_in table_m (closed (width_of table_m) is_erased ((cut before).table table_m)) (cut before)))

  -- answer: V rows freed, each entry of the id [01:OP5] [02:W1.6]
  unfoldable pub erase : Result
  erase = record {
    answer = answer_or erase_verdict (done (count is_reverse (used ((cut before).table table_v)) ∷ []));
    store = unless_refused erase_verdict (joined erased_store) before;
    output = [];
  }
