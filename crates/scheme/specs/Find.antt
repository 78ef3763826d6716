-- Document 01, "Operations": find.
use Rattle.std.specs.Prelude.{ℕ, zero, suc, ◌*◌, List, [], ◌∷◌, ◌++◌, map, ltb, length, drop}
use Rattle.std.proofs.Math.Option.{Option, none, some}
use Rattle.table.specs.Lists.{any_of, flat, up_to, distinct}
use Rattle.table.specs.Table.{Table, lookup}
use Rattle.answer.specs.Answer.{Answer, done}
use Rattle.scheme.specs.Suite.{Suite}
use Rattle.scheme.specs.Keys.{find_token_length, share, find_mt, find_me, find_cl}
use Rattle.scheme.specs.Store.{table_m, table_c, sizes_of, cut, state_tests, entry_tag, id_in}
use Rattle.scheme.specs.Reading.{Reading, damaged, count_of, reading}
use Rattle.scheme.specs.Refusals.{Result, token_tests}
use Rattle.answer.specs.Verdict.{◌⇒◌, ◌⇒◌carrying◌, verdict, answer_or, unless_refused}

module _ (suite : Suite) where
  -- a missing address is skipped, a held one gives its id [01:OP6]
  abbrev pub id_of : List ℕ → Option (List ℕ) → List (List ℕ)
  id_of me none = []
  id_of me (some b) = id_in suite me b ∷ []

  -- the ids at addresses 1 to n [01:OP6]
  abbrev pub ids_to : List ℕ → List ℕ → Table → ℕ → List (List ℕ)
  ids_to mt me t zero = []
  ids_to mt me t (suc n) = ids_to mt me t n ++ id_of me (lookup (entry_tag suite mt (suc n)) t)

  -- the reading of share u under the find token's or the count token's F(KC, x)
  unfoldable pub share_reading : List ℕ → List ℕ → ℕ → Reading
  share_reading before clx u = reading suite (sizes_of before).c (share suite clx u) ((cut before).table table_c)

module _ (suite : Suite) (before token : List ℕ) where
  -- for u = 0 to p, addresses 1 to the count: what is held, repeats among it [01:OP6]
  unfoldable pub ids_of_share : ℕ → List (List ℕ)
  ids_of_share u =
      ids_to suite (share suite (find_mt token) u) (share suite (find_me token) u) ((cut before).table table_m) (count_of (share_reading suite before (find_cl token) u))

  unfoldable pub ids_held : List (List ℕ)
  ids_held = flat (map ids_of_share (up_to (sizes_of before).p))

  -- each id once, at the first place where it would have come [01:OP6] [02:W1.1 W1.2]
  unfoldable pub ids_found : List (List ℕ)
  ids_found = distinct ids_held

module _ (suite : Suite) (before token output : List ℕ) where
  -- 6, then 10, 11 and 20, then 13 with every share read first, and 18, which counts each id once [01:RI7 RS6 RS11] [02:W1.3]
  unfoldable pub find_verdict : Option Answer
  find_verdict = verdict (token_tests find_token_length token ++ (state_tests before ++
      ((any_of (λ u. damaged (share_reading suite before (find_cl token) u)) (up_to (sizes_of before).p) ⇒ 13)
      ∷ (ltb (length output) (16 * length (ids_found suite before token)) ⇒ 18 carrying (length (ids_found suite before token) ∷ []))
      ∷ [])))

  -- ids go to the start of the output, later bytes stay; answer: how many [01:OP7 OP8]
  unfoldable pub find : Result
  find = record {
    answer = answer_or find_verdict (done (length (ids_found suite before token) ∷ []));
    store = before;
    output = unless_refused find_verdict (flat (ids_found suite before token) ++ drop (16 * length (ids_found suite before token)) output) output;
  }
