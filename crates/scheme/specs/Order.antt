-- Document 02, "Rows in byte order": the call that puts a store in form.
use Rattle.std.specs.Prelude.{ℕ, List, [], ◌∷◌, map, length}
use Rattle.std.proofs.Math.Option.{Option}
use Rattle.table.specs.Lists.{sum}
use Rattle.table.specs.Table.{used}
use Rattle.table.specs.Order.{reordered}
use Rattle.answer.specs.Answer.{Answer, done}
use Rattle.answer.specs.Verdict.{verdict, answer_or, unless_refused}
use Rattle.scheme.specs.Store.{Store, plan, width_of, cut, joined, mark_tests}
use Rattle.scheme.specs.Refusals.{Result}

-- how many used rows all tables have together [02:W2.8]
unfoldable pub used_in_all : Store → ℕ
used_in_all st = sum (map (λ k. length (used (st.table k))) plan)

module _ (before : List ℕ) where
  -- 10 and 11 only [02:W2.9]
  unfoldable pub order_verdict : Option Answer
  order_verdict = verdict (mark_tests before)

  -- every table in form, every used row kept [02:W2.6 W2.7]
  unfoldable pub ordered_store : Store
  ordered_store = record { header = (cut before).header; table = λ k. reordered (width_of k) ((cut before).table k) }

  -- answer: the used rows of all tables [02:W2.8]
  unfoldable pub order : Result
  order = record {
    answer = answer_or order_verdict (done (used_in_all (cut before) ∷ []));
    store = unless_refused order_verdict (joined ordered_store) before;
    output = [];
  }
