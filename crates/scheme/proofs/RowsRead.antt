-- The rows that a count looked at: each lookup looks at the used rows at most, and there are at most c of either kind in a share. The
-- count itself is that of the full reading.
use Prim.Native.Nat.{ℕ, zero, suc, ◌+◌, ◌*◌, ◌≤◌, min}
use mathlib.Core.Path.{◌≡◌, refl, sym, ap, ◌∙◌}
use mathlib.Core.Option.{Option, none, some}
use mathlib.Core.List.{List, [], ◌∷◌, ◌++◌}
use native.Mathlib.Nat.{mul-zero, mul-suc, mul-le-mul_left, min-le_right}
use native.Mathlib.Numerals.{add-one}
use native.Mathlib.Omega.{arith}
use lib.ListN.{length}
use Rattle.answer.specs.Answer.{Answer, done, refused, without_rows, rows_of}
use Rattle.answer.specs.Verdict.{Test, ◌⇒◌, verdict, answer_or}
use Rattle.table.specs.Lists.{any_of, up_to}
use Rattle.table.specs.Table.{Table}
use Rattle.table.specs.Order.{used_rows}
use Rattle.table.specs.Looked.{looked_at}
use Rattle.table.proofs.Below.{up_to-below, sum_most}
use Rattle.table.proofs.Looked.{looked_most}
use Rattle.scheme.specs.Suite.{Suite}
use Rattle.scheme.specs.Keys.{count_token_length, share}
use Rattle.scheme.specs.Store.{table_c, sizes_of, cut, state_tests, counter_tag, anchor_tag}
use Rattle.scheme.specs.Reading.{damaged, anchors_held, start_of, counters_held}
use Rattle.scheme.specs.Refusals.{token_tests}
use Rattle.scheme.specs.Find.{share_reading}
use Rattle.scheme.specs.RowsRead.{looked_over, anchor_rows, counter_rows, reading_rows}
use Rattle.scheme.specs.Count.{count_verdict, sum_of_counts, share_rows, most_rows, rows_read, full_count, count}
use Rattle.scheme.proofs.Verdicts.{view_refused, view_or}

pub over_most : (tag : ℕ → List ℕ) (t : Table) (i n : ℕ) → looked_over tag t i n ≤ length (used_rows t) * n
over_most tag t i zero = omega (arith, mul-zero (length (used_rows t)))
over_most tag t i (suc n) = omega (arith, looked_most (tag (suc i)) t, over_most tag t (suc i) n, mul-suc (length (used_rows t)) n)

-- one lookup more
pub over_next : (tag : ℕ → List ℕ) (t : Table) (i n : ℕ) → looked_over tag t i (suc n) ≡ looked_over tag t i n + looked_at (tag (i + suc n)) t
over_next tag t i zero = rw (add-one i) (omega arith)
over_next tag t i (suc n) = omega (arith, over_next tag t (suc i) n, ap (λ (k : ℕ). looked_at (tag k) t) (let e : suc i + suc n ≡ i + suc (suc n) = omega arith in e))

module _ (suite : Suite) (c : ℕ) (cl : List ℕ) (t : Table) where
  -- of both kinds
  pub reading_rows_most : reading_rows suite c cl t ≤ 2 * c * length (used_rows t)
  unfolding reading_rows anchor_rows counter_rows
  reading_rows_most =
      let n : ℕ = length (used_rows t) in
      let a : ℕ = min (suc (anchors_held suite c cl t)) c in
      let k : ℕ = min (suc (counters_held suite c cl t)) c in
      omega (
        arith,
        over_most (anchor_tag suite cl) t 0 a,
        mul-le-mul_left n (min-le_right (suc (anchors_held suite c cl t)) c),
        over_most (counter_tag suite cl) t (start_of suite c cl t) k,
        mul-le-mul_left n (min-le_right (suc (counters_held suite c cl t)) c),
      )

-- [02:W3.11]
pub rows_most : (suite : Suite) (before token : List ℕ) → rows_read suite before token ≤ most_rows before
unfolding rows_read most_rows share_rows
rows_most suite before token =
    let c : ℕ = (sizes_of before).c in
    let p : ℕ = (sizes_of before).p in
    let t : Table = (cut before).table table_c in
    rw (up_to-below p)
    (omega (arith, sum_most (λ u. reading_rows suite c (share suite token u) t) (2 * c * length (used_rows t)) (λ u. reading_rows_most suite c (share suite token u) t) (p + 1)))

module _ (suite : Suite) (before token : List ℕ) where
  abbrev tests : List Test
  tests = token_tests count_token_length token ++ (state_tests before ++ ((any_of (λ u. damaged (share_reading suite before token u)) (up_to (sizes_of before).p) ⇒ 13) ∷ []))

  -- [02:W3.12]
  pub full_count_lem : without_rows (count suite before token).answer ≡ full_count suite before token
  unfolding count full_count count_verdict
  full_count_lem = view_or tests (sum_of_counts suite before token) (rows_read suite before token)

  -- a refusal carries no rows
  pub answer_most : rows_of (count suite before token).answer ≤ most_rows before
  unfolding count count_verdict
  answer_most = go (verdict tests) refl
    where
      none-carried : (a : Answer) → rows_of (without_rows a) ≡ 0
      none-carried (done []) = refl
      none-carried (done (n ∷ l)) = refl
      none-carried (refused n l) = refl

      go : (o : Option Answer) → verdict tests ≡ o → rows_of (answer_or o (done (sum_of_counts suite before token ∷ rows_read suite before token ∷ []))) ≤ most_rows before
      go none e = rows_most suite before token
      go (some r) e = omega (arith, sym (ap rows_of (view_refused tests r e)) ∙ none-carried r)

  -- what holds of an answer that is the count's
  pub promises : (a : Answer) → a ≡ (count suite before token).answer
      → (a ≡ (count suite before token).answer) × ((rows_of a ≤ most_rows before) × (without_rows a ≡ full_count suite before token))
  promises a e = (e, (omega (arith, answer_most, ap rows_of e), ap without_rows e ∙ full_count_lem))
