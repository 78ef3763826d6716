-- Document 01, "Operations": insert; and its rows of R (document 02, "Find by several fields").
use Rattle.std.specs.Prelude.{ℕ, suc, ◌+◌, ◌*◌, not, ◌||◌, List, [], ◌∷◌, ◌++◌, ltb, eqb, take, drop}
use Rattle.std.proofs.Math.Option.{Option}
use Rattle.table.specs.Table.{Row, free_rows}
use Rattle.table.specs.Order.{with_rows}
use Rattle.answer.specs.Answer.{Answer, done}
use Rattle.scheme.specs.Suite.{Suite}
use Rattle.scheme.specs.Keys.{insert_token_length, token_p, token_mt, token_me, token_cl, token_log, token_rl}
use Rattle.scheme.specs.Store.{Which, Store, table_m, table_v, table_c, table_s, table_r, width_of, sizes_of, cut, joined, put_in, state_tests, entry_row, reverse_row, counter_row, log_row, label_row}
use Rattle.scheme.specs.Reading.{Reading, limit, damaged, count_of, position_of, reading}
use Rattle.scheme.specs.Refusals.{Result, id_count, ids_in, insert_input_tests, token_tests}
use Rattle.answer.specs.Verdict.{Test, ◌⇒◌, verdict, answer_or, unless_refused}

module _ (suite : Suite) where
  -- the rows of M and of V for ids at addresses g + 1 onward, one nonce per id [01:OP1 OP2]
  abbrev pub entry_rows : List ℕ → List ℕ → ℕ → List (List ℕ) → List ℕ → List Row
  entry_rows mt me g [] nonces = []
  entry_rows mt me g (id ∷ ids) nonces = entry_row suite mt me (suc g) (take 12 nonces) id ∷ entry_rows mt me (suc g) ids (drop 12 nonces)

  abbrev pub reverse_rows : List ℕ → ℕ → List (List ℕ) → List Row
  reverse_rows mt g [] = []
  reverse_rows mt g (id ∷ ids) = reverse_row suite mt (suc g) id ∷ reverse_rows mt (suc g) ids

  -- the rows of R for ids, one nonce per id [02:W4.13]
  abbrev pub label_rows : List ℕ → List (List ℕ) → List ℕ → List Row
  label_rows rl [] nonces = []
  label_rows rl (id ∷ ids) nonces = label_row suite rl (take 12 nonces) id ∷ label_rows rl ids (drop 12 nonces)

-- the reading of the token's CL, and the new count [01:OP3]
unfoldable pub insert_reading : Suite → List ℕ → List ℕ → Reading
insert_reading suite before token = reading suite (sizes_of before).c (token_cl token) ((cut before).table table_c)

unfoldable pub new_count : Suite → List ℕ → List ℕ → List ℕ → ℕ
new_count suite before ids token = count_of (insert_reading suite before token) + id_count ids

-- a store with new rows in one table, in byte order with the others [02:W2.4]
abbrev pub added_to : Which → List Row → Store → Store
added_to k new st = put_in k (with_rows (width_of k) new (st.table k)) st

-- the nonces of an insert: one per id, one for the counter, one per id for R [02:W4.11 W4.12]
unfoldable pub counter_nonce : List ℕ → List ℕ → List ℕ
counter_nonce ids nonces = take 12 (drop (12 * id_count ids) nonces)

unfoldable pub label_nonces : List ℕ → List ℕ → List ℕ
label_nonces ids nonces = drop (12 * (id_count ids + 1)) nonces

-- a store with new rows in all of them: of M and of V, one of C and one of S, and of R
unfoldable pub inserted_store : List ℕ → List Row → List Row → Row → Row → List Row → Store
inserted_store before new_m new_v new_c new_s new_r =
    added_to table_r new_r (added_to table_s (new_s ∷ []) (added_to table_c (new_c ∷ []) (added_to table_v new_v (added_to table_m new_m (cut before)))))

module _ (suite : Suite) (before ids nonces token : List ℕ) where
  -- 12 to 17, then 21 [01:RS4 RS6 RS7 RS8 RS9 RS10] [02:W4.28 W4.30]
  unfoldable pub insert_state_tests : List Test
  insert_state_tests =
      (not (eqb (token_p token) (sizes_of before).p) ⇒ 12)
      ∷ (damaged (insert_reading suite before token) ⇒ 13)
      ∷ (ltb limit (new_count suite before ids token) ⇒ 14)
      ∷ (ltb (free_rows ((cut before).table table_m)) (id_count ids) || ltb (free_rows ((cut before).table table_v)) (id_count ids) ⇒ 15)
      ∷ (ltb (free_rows ((cut before).table table_c)) 1 ⇒ 16)
      ∷ (ltb (free_rows ((cut before).table table_s)) 1 ⇒ 17)
      ∷ (ltb (free_rows ((cut before).table table_r)) (id_count ids) ⇒ 21)
      ∷ []

  -- 4 to 6, then 10, 11 and 20, then these
  unfoldable pub insert_verdict : Option Answer
  insert_verdict = verdict (insert_input_tests ids nonces ++ (token_tests insert_token_length token ++ (state_tests before ++ insert_state_tests)))

  -- the rows to be written: entries in M and V, the counter at the next position, the token's 44 bytes before RL in S [01:OP1 OP2]
  -- [02:W4.10], and for each id a row with RL's R mark in R [02:W4.13]
  unfoldable pub new_entries : List Row
  new_entries = entry_rows suite (token_mt token) (token_me token) (count_of (insert_reading suite before token)) (ids_in ids) nonces

  unfoldable pub new_reverses : List Row
  new_reverses = reverse_rows suite (token_mt token) (count_of (insert_reading suite before token)) (ids_in ids)

  unfoldable pub new_counter : Row
  new_counter =
      counter_row suite (token_cl token) (position_of (insert_reading suite before token) + 1) (counter_nonce ids nonces) (new_count suite before ids token)

  unfoldable pub new_log : Row
  new_log = log_row (token_log token)

  unfoldable pub new_labels : List Row
  new_labels = label_rows suite (token_rl token) (ids_in ids) (label_nonces ids nonces)

  -- the answer is the new count [01:OP3 OP14 OP15]; a refusal changes no byte [01:RS13]
  unfoldable pub insert : Result
  insert = record {
    answer = answer_or insert_verdict (done (new_count suite before ids token ∷ []));
    store = unless_refused insert_verdict (joined (inserted_store before new_entries new_reverses new_counter new_log new_labels)) before;
    output = [];
  }
