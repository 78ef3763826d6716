-- From the tests that a call passed or failed to the scheme's answer and store.
use Prim.Native.Nat.{ℕ, ◌+◌, ◌*◌, ◌-◌, ◌%◌, ◌≤◌}
use mathlib.Core.Path.{◌≡◌, refl, sym, ap, ap₂, ◌∙◌}
use mathlib.Core.Bool.{cond, not, ◌||◌}
use mathlib.Core.Option.{Option, none, some}
use mathlib.Core.List.{List, [], ◌∷◌, ◌++◌, append_assoc}
use native.Mathlib.Omega.{arith}
use lib.Dec.{ltb, eqb}
use lib.ListN.{length, take, drop}
use borrow.Author.Tests.{eqb-true, eq-eqb, ne_eqb, not-false, ltb-false}
use Rattle.table.specs.Table.{Row, Table, rows}
use Rattle.table.proofs.Counting.{neither}
use Rattle.answer.specs.Answer.{Answer, done, refused, refusal}
use Rattle.answer.specs.declared.Refusal.{Refusal}
use Rattle.answer.specs.Verdict.{verdict, answer_or, unless_refused}
use Rattle.scheme.specs.Keys.{insert_token_length, token_p, token_mt, token_me, token_cl, token_log, token_rl}
use Rattle.scheme.specs.Store.{Sizes, Store, width_of, sizes_of, cut, joined, state_tests, counter_row, log_row}
use Rattle.scheme.specs.Reading.{Reading, limit, damaged, count_of, position_of, reading}
use Rattle.scheme.specs.Reading.Reading.{counter, damage}
use Rattle.scheme.specs.Refusals.{length_not, id_count, ids_in, insert_input_tests, token_tests}
use Rattle.scheme.specs.Insert
use Rattle.scheme.specs.Insert.{entry_rows, reverse_rows, label_rows, counter_nonce, label_nonces, insert_reading, new_count, insert_state_tests, insert_verdict, new_entries, new_reverses, new_counter, new_log, new_labels, inserted_store}
use Rattle.scheme.proofs.Verdicts.{or_else, verdict-append, passed, length_passed}
use Rattle.suite.specs.Program.{program}
use Rattle.store.specs.declared.Shape.{Shape}
use Rattle.std.specs.Prelude.{Ok, Err}
use Rattle.store.specs.Check.{checked_of}
use Rattle.store.proofs.Laws.{table_m, table_v, table_c, table_s, table_r, unfit, fit_verdict, fit_sizes, free_rows_lem, fits}
use Rattle.counter.proofs.Readings.{reading_bounds}
use Rattle.admission.specs.Tests.{room_tests}
use Rattle.placing.specs.Placed.{Lengths, Room}
use Rattle.insert.specs.Tests.{Accepted}

-- ---- what passed tests tell

pub lengths : (ids nonces token : List ℕ) → Accepted ids nonces token → Lengths ids nonces token
unfolding insert_input_tests token_tests
lengths ids nonces token a =
    let p = passed (length_not (12 * (2 * id_count ids + 1)) nonces) (refused 4 []) _ a.passes in
    let q = passed (not (eqb (length ids % 16) 0) || (ltb (id_count ids) 1 || ltb 64 (id_count ids))) (refused 5 []) _ p.1 in
    let r = passed (length_not insert_token_length token) (refused 6 []) none q.1 in
    let u = neither (not (eqb (length ids % 16) 0)) (ltb (id_count ids) 1 || ltb 64 (id_count ids)) q.0 in
    let w = neither (ltb (id_count ids) 1) (ltb 64 (id_count ids)) u.1 in
    let e : length ids % 16 ≡ 0 = eqb-true (length ids % 16) 0 (not-false (eqb (length ids % 16) 0) u.0) in
    record {
      id_bytes = omega arith;
      most = ltb-false 64 (id_count ids) w.1;
      nonce_bytes = length_passed (12 * (2 * id_count ids + 1)) nonces p.0;
      token_bytes = length_passed insert_token_length token r.0;
    }

pub record Roomy (z : Shape) (count n : ℕ) : Type 0 where
  pub small : count ≤ limit
  pub rows : Room z n

pub roomy : (z : Shape) (count n : ℕ) → verdict (room_tests z count n) ≡ none → Roomy z count n
unfolding room_tests
roomy z count n e =
    let p = passed (ltb limit count) (refused 14 []) _ e in
    let q = passed (ltb z.m.free n || ltb z.v.free n) (refused 15 []) _ p.1 in
    let r = passed (ltb z.c.free 1) (refused 16 []) _ q.1 in
    let s = passed (ltb z.s.free 1) (refused 17 []) _ r.1 in
    let t = passed (ltb z.r.free n) (refused 21 []) none s.1 in
    let u = neither (ltb z.m.free n) (ltb z.v.free n) q.0 in
    record {
      small = ltb-false limit count p.0;
      rows = record {
        entries = ltb-false z.m.free n u.0;
        reverses = ltb-false z.v.free n u.1;
        counter = ltb-false z.c.free 1 r.0;
        log = ltb-false z.s.free 1 s.0;
        labels = ltb-false z.r.free n t.0;
      };
    }

-- ---- the reading

module _ (before token : List ℕ) (z : Shape) (f : checked_of before ≡ Ok z) where
  pub reading_is : (cl : List ℕ) → cl ≡ token_cl token
      → reading program z.c.rows cl (rows (width_of table_c) z.c.rows (take (z.c.end - z.c.start) (drop z.c.start before))) ≡ insert_reading program before token
  unfolding insert_reading
  reading_is cl e =
      ap₂ (λ (l : List ℕ) (t : Table). reading program z.c.rows l t) e (fits before z f table_c).same
      ∙ ap (λ (y : Sizes). reading program y.c (token_cl token) ((cut before).table table_c)) (fit_sizes before z f)

  pub reading_sums : (b start k n : ℕ) → counter b start k n ≡ insert_reading program before token → (start ≤ limit) × ((k ≤ 4096) × (n ≤ limit))
  unfolding insert_reading
  reading_sums b start k n e =
      let w = reading_bounds (sizes_of before).c (token_cl token) ((cut before).table table_c) b start k n e in
      (w.start_limit, (omega (arith, w.counters, ap (λ (y : Sizes). y.c) (fit_sizes before z f), (fits before z f table_c).most), w.count_limit))

-- ---- the verdict

module _ (before ids nonces token : List ℕ) where
  verdict_is : insert_verdict program before ids nonces token ≡ or_else (verdict (insert_input_tests ids nonces ++ token_tests insert_token_length token)) (verdict (state_tests before ++ insert_state_tests program before ids nonces token))
  unfolding insert_verdict
  verdict_is =
      ap verdict (sym (append_assoc (insert_input_tests ids nonces) (token_tests insert_token_length token) (state_tests before ++ insert_state_tests program before ids nonces token)))
      ∙ verdict-append (insert_input_tests ids nonces ++ token_tests insert_token_length token) (state_tests before ++ insert_state_tests program before ids nonces token)

  -- an insert that answers so and leaves the store so
  abbrev pub Gives : Answer → List ℕ → Type 0
  Gives r after = (r ≡ (Insert.insert program before ids nonces token).answer) × (after ≡ (Insert.insert program before ids nonces token).store)

  -- the store with the new rows
  abbrev with_new : Store
  with_new = inserted_store before (new_entries program before ids nonces token) (new_reverses program before ids nonces token) (new_counter program before ids nonces token) (new_log program before ids nonces token) (new_labels program before ids nonces token)

  -- a refusal changes no byte [01:RS13]
  pub refuse : (r : Answer) → insert_verdict program before ids nonces token ≡ some r → Gives r before
  unfolding Insert.insert
  refuse r e =
      (sym (ap (λ (v : Option Answer). answer_or v (done (new_count program before ids token ∷ []))) e), sym (ap (λ (v : Option Answer). unless_refused v (joined with_new) before) e))

  wrote : (n : ℕ) (after : List ℕ) → insert_verdict program before ids nonces token ≡ none → n ≡ new_count program before ids token → after ≡ joined with_new → Gives (done (n ∷ [])) after
  unfolding Insert.insert
  wrote n after e c a = (
    ap (λ (j : ℕ). done (j ∷ [])) c ∙ sym (ap (λ (v : Option Answer). answer_or v (done (new_count program before ids token ∷ []))) e),
    a ∙ sym (ap (λ (v : Option Answer). unless_refused v (joined with_new) before) e),
  )

  pub refused_input : (r : Answer) → some r ≡ verdict (insert_input_tests ids nonces ++ token_tests insert_token_length token) → Gives r before
  refused_input r e =
      refuse r (verdict_is ∙ ap (λ (v : Option Answer). or_else v (verdict (state_tests before ++ insert_state_tests program before ids nonces token))) (sym e))

  module _ (a : Accepted ids nonces token) where
    state : insert_verdict program before ids nonces token ≡ verdict (state_tests before ++ insert_state_tests program before ids nonces token)
    state = verdict_is ∙ ap (λ (v : Option Answer). or_else v (verdict (state_tests before ++ insert_state_tests program before ids nonces token))) a.passes

    pub refused_store : (r : Refusal) → Err r ≡ checked_of before → Gives (refusal r) before
    refused_store r e = refuse (refusal r) (state ∙ unfit before r (insert_state_tests program before ids nonces token) (sym e))

    module _ (z : Shape) (f : checked_of before ≡ Ok z) where
      -- 10 and 11 have passed
      checked : insert_verdict program before ids nonces token
          ≡ cond (not (eqb (token_p token) z.p)) (some (refused 12 []))
          (cond (damaged (insert_reading program before token)) (some (refused 13 []))
          (verdict (room_tests z (new_count program before ids token) (id_count ids))))
      unfolding insert_state_tests room_tests
      checked =
          let free = free_rows_lem before z f in
          state ∙ fit_verdict before z (insert_state_tests program before ids nonces token) f
          ∙ rw (← fit_sizes before z f, free table_m, free table_v, free table_c, free table_s, free table_r) refl

      pub refused_shares : (token_p token ≡ z.p → ⊥) → Gives (refused 12 []) before
      refused_shares n = refuse (refused 12 []) (checked ∙ rw (ne_eqb (token_p token) z.p n))

      module _ (s : token_p token ≡ z.p) where
        pub refused-damage : damage ≡ insert_reading program before token → Gives (refused 13 []) before
        refused-damage d = refuse (refused 13 []) (checked ∙ rw (eq-eqb (token_p token) z.p s, ← d))

        -- the counter was read
        module _ (b start k n : ℕ) (e : counter b start k n ≡ insert_reading program before token) where
          counted : new_count program before ids token ≡ n + id_count ids
          unfolding new_count
          counted = ap (λ (r : Reading). count_of r + id_count ids) (sym e)

          read : insert_verdict program before ids nonces token ≡ verdict (room_tests z (n + id_count ids) (id_count ids))
          read =
              checked ∙ rw (eq-eqb (token_p token) z.p s, ← e) (ap (λ (j : ℕ). verdict (room_tests z j (id_count ids))) counted)

          pub refused_room : (r : Answer) → some r ≡ verdict (room_tests z (n + id_count ids) (id_count ids)) → Gives r before
          refused_room r h = refuse r (read ∙ sym h)

          -- the rows are those of the definition
          abbrev store_with : Row → Store
          store_with row =
              inserted_store before (entry_rows program (token_mt token) (token_me token) n (ids_in ids) nonces) (reverse_rows program (token_mt token) n (ids_in ids)) row (log_row (token_log token))
              (label_rows program (token_rl token) (ids_in ids) (label_nonces ids nonces))

          rows_are : (row : Row) → row ≡ counter_row program (token_cl token) (start + k + 1) (counter_nonce ids nonces) (n + id_count ids) → store_with row ≡ with_new
          unfolding new_entries new_reverses new_counter new_log new_labels new_count
          rows_are row g =
              ap store_with g
              ∙ ap (λ (r : Reading). inserted_store before (entry_rows program (token_mt token) (token_me token) (count_of r) (ids_in ids) nonces) (reverse_rows program (token_mt token) (count_of r) (ids_in ids))
              (counter_row program (token_cl token) (position_of r + 1) (counter_nonce ids nonces) (count_of r + id_count ids)) (log_row (token_log token)) (label_rows program (token_rl token) (ids_in ids) (label_nonces ids nonces))) e

          pub accepted : (row : Row) (after : List ℕ) → none ≡ verdict (room_tests z (n + id_count ids) (id_count ids))
              → row ≡ counter_row program (token_cl token) (start + k + 1) (counter_nonce ids nonces) (n + id_count ids) → after ≡ joined (store_with row)
              → Gives (done ((n + id_count ids) ∷ [])) after
          accepted row after h g w = wrote (n + id_count ids) after (read ∙ sym h) (sym counted) (w ∙ ap joined (rows_are row g))
