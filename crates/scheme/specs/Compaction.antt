-- Document 01, "Operations": compaction.
use Rattle.std.specs.Prelude.{ℕ, zero, suc, ◌+◌, ◌/◌, List, [], ◌∷◌, ◌++◌, map, ltb, length, take, drop}
use Rattle.std.proofs.Math.Option.{Option}
use Rattle.table.specs.Lists.{same, distinct}
use Rattle.table.specs.Table.{Row, Table, used, place_of, free_at}
use Rattle.table.specs.Order.{with_rows, closed}
use Rattle.answer.specs.Answer.{Answer, done, refused}
use Rattle.scheme.specs.Suite.{Suite}
use Rattle.scheme.specs.Keys.{compaction_token_length}
use Rattle.scheme.specs.Store.{Store, table_c, table_s, width_of, sizes_of, cut, joined, put_in, state_tests, counter_tag, anchor_row, cl_in}
use Rattle.scheme.specs.Reading.{Reading, damage, reading}
use Rattle.scheme.specs.Refusals.{Result, compaction_input_tests, token_tests}
use Rattle.answer.specs.Verdict.{◌⇒◌, verdict, answer_or, unless_refused}

module _ (suite : Suite) where
  -- the places of the rows held as counters start + 1 to start + k [01:OP11]
  abbrev pub held_places : List ℕ → Table → ℕ → ℕ → List ℕ
  held_places cl t start zero = []
  held_places cl t start (suc k) = place_of (counter_tag suite cl (suc start)) t ∷ held_places cl t (suc start) k

  -- one CL with k > 0: those rows are freed, anchor B + 1 is written with position and count [01:OP11]; the table is in form again [02:W2.4]
  unfoldable pub freed_counters : List ℕ → Table → ℕ → ℕ → Table
  freed_counters cl t start k = free_at (width_of table_c) (held_places cl t start k) t

  unfoldable pub next_anchor : List ℕ → List ℕ → ℕ → ℕ → ℕ → ℕ → Row
  next_anchor cl nonce B start k n = anchor_row suite cl (B + 1) nonce (start + k) n

  unfoldable pub anchored_table : List ℕ → List ℕ → Table → ℕ → ℕ → ℕ → ℕ → Table
  anchored_table cl nonce t B start k n = with_rows (width_of table_c) (next_anchor cl nonce B start k n ∷ []) (freed_counters cl t start k)

  -- the CL in the used S rows, in order [01:ST12]
  unfoldable pub log_of : List ℕ → Table → List (List ℕ)
  log_of ks t = map (cl_in suite ks) (used t)

  -- all S rows of a CL are freed [01:OP12], and the others close up [02:W2.4]
  unfoldable pub free_log : List ℕ → List ℕ → Table → Table
  free_log ks cl t = closed (width_of table_s) (λ b. same (cl_in suite ks b) cl) t

-- the answer and the tables C and S after it
pub record Treated : Type 0 where
  pub answer : Answer
  pub t_c : Table
  pub t_s : Table

-- one CL, by its reading, from tables C and S with the nonces left and the numbers so far, and then the rest: damage stops it and carries
-- the numbers so far [01:RS13]; with k = 0 nothing is written and no nonce is used [01:OP11]
abbrev pub by_reading : Suite → List ℕ → List ℕ → Table → Table → List ℕ → ℕ → ℕ → Reading → (Table → Table → List ℕ → ℕ → ℕ → Treated) → Treated
by_reading suite ks cl t_c t_s nonces a w damage rest = record { answer = refused 13 (a ∷ w ∷ []); t_c = t_c; t_s = t_s }
by_reading suite ks cl t_c t_s nonces a w (Reading.counter B start zero n) rest = rest t_c (free_log suite ks cl t_s) nonces a w
by_reading suite ks cl t_c t_s nonces a w (Reading.counter B start (suc k) n) rest =
    rest (anchored_table suite cl (take 12 nonces) t_c B start (suc k) n) (free_log suite ks cl t_s) (drop 12 nonces) (a + 1) (w + suc k)

-- CL after CL
abbrev pub treat_all : Suite → ℕ → List ℕ → List (List ℕ) → Table → Table → List ℕ → ℕ → ℕ → Treated
treat_all suite c ks [] t_c t_s nonces a w = record { answer = done (a ∷ w ∷ []); t_c = t_c; t_s = t_s }
treat_all suite c ks (cl ∷ cls) t_c t_s nonces a w =
    by_reading suite ks cl t_c t_s nonces a w (reading suite c cl t_c) (λ t_c t_s nonces a w. treat_all suite c ks cls t_c t_s nonces a w)

-- distinct CL of S in order of first row [01:OP10]
unfoldable pub logged : Suite → List ℕ → List ℕ → List (List ℕ)
logged suite before token = distinct (log_of suite token ((cut before).table table_s))

-- the store with its tables C and S after the treatment
unfoldable pub compacted_store : List ℕ → Table → Table → Store
compacted_store before t_c t_s = put_in table_s t_s (put_in table_c t_c (cut before))

module _ (suite : Suite) (before nonces token : List ℕ) where
  -- 4 and 6, then 10, 11 and 20, then 19 [01:RI5 RI7 RS5]
  unfoldable pub compact_verdict : Option Answer
  compact_verdict = verdict (compaction_input_tests nonces ++ (token_tests compaction_token_length token ++ (state_tests before ++
      ((ltb (length nonces / 12) (length (used ((cut before).table table_s))) ⇒ 19)
      ∷ []))))

  unfoldable pub treated : Treated
  treated = treat_all suite (sizes_of before).c token (logged suite before token) ((cut before).table table_c) ((cut before).table table_s) nonces 0 0

  -- answer: anchors written, counters freed [01:OP13]; a refusal changes no byte, except 13, which is among the treatment's answers [01:RS13]
  unfoldable pub compact : Result
  compact = record {
    answer = answer_or compact_verdict treated.answer;
    store = unless_refused compact_verdict (joined (compacted_store before treated.t_c treated.t_s)) before;
    output = [];
  }
