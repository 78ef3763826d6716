-- Compaction tells what the ledger tells, and the store after it is the ledger's after it.
use Prim.Native.Nat.{ℕ, suc, ◌+◌, ◌*◌, ◌/◌, ◌≤◌}
use mathlib.Core.Path.{◌≡◌, refl, sym, ap, subst, ◌∙◌}
use mathlib.Core.Logic.{◌⊎◌}
use mathlib.Core.Option.{Option, none, some}
use mathlib.Core.List.{List, [], ◌∷◌, ◌++◌}
use native.Mathlib.Nat.{zero-add}
use native.Mathlib.Omega.{arith}
use lib.Dec.{ltb}
use lib.ListN.{length}
use borrow.Author.Tests.{ltb-false}
use Rattle.answer.specs.Answer.{Answer, done}
use Rattle.table.specs.Lists.{same, any_of, distinct}
use Rattle.table.specs.Table.{used}
use Rattle.scheme.specs.Keys.{KS, compaction_token, compaction_token_length}
use Rattle.scheme.specs.Suite.{number8}
use Rattle.scheme.specs.Store.{Store, table_c, table_s, put_in, cut, joined, state_tests}
use Rattle.scheme.specs.Refusals.{Result, key_tests, compaction_input_tests, token_tests, length_not}
use Rattle.answer.specs.Verdict.{Test, ◌⇒◌, verdict}
use Rattle.scheme.specs.Compaction
use Rattle.scheme.specs.Compaction.{logged, compacted_store, compact_verdict, Treated, treat_all, treated}
use Rattle.scheme.specs.Call.{Call}
use Rattle.scheme.specs.Ledger.{Ledger, ledger_compact_verdict, after_compaction, ledger_step}
use Rattle.scheme.specs.Run.{made_or, compact_call, told_by}
use Rattle.scheme.specs.Claim.{bounds_of}
use Rattle.scheme.proofs.Setting.{Setting, cl_of}
use Rattle.scheme.proofs.Shape.{shaped_put}
use Rattle.scheme.proofs.Compacting.{Compacts, compacts}
use Rattle.scheme.proofs.Simulation.{made_in, log_in, Sim, log_used, later, counters_later}
use Rattle.scheme.proofs.Verdicts.{or_else, both_none, verdict-append, passed, key_is, length_refused}
use Rattle.scheme.proofs.Queries.{After, cut_is, sizes_are, states_pass}

module _ (x : Setting) (i : ℕ) (before : List ℕ) (l : Ledger) (hi : suc i ≤ length x.calls) (s : Sim x i before l) (nonces : List ℕ) where
  open x use {suite, K, z, calls}

  abbrev hi₀ : i ≤ length calls
  hi₀ = omega arith

  abbrev L : List (List ℕ)
  L = log_in x (s.st.table table_s)

  abbrev few_tests : List Test
  few_tests = (ltb (length nonces / 12) l.W ⇒ 19) ∷ []

  KS-length : length (KS suite K) ≡ 32
  unfolding KS
  KS-length = suite.f_length K (number8 3)

  rest_verdict : verdict (token_tests compaction_token_length (KS suite K) ++ (state_tests before ++ ((ltb (length nonces / 12) (length (used ((cut before).table table_s))) ⇒ 19) ∷ []))) ≡ verdict few_tests
  unfolding token_tests
  rest_verdict =
      let w : length (used ((cut before).table table_s)) ≡ l.W = ap (λ (t : Store). length (used (t.table table_s))) (cut_is x i before l hi₀ s) ∙ sym (log_used x i before l s) ∙ sym s.w_is in
      rw (length_refused compaction_token_length (KS suite K) KS-length) (states_pass x i before l hi₀ s ((ltb (length nonces / 12) (length (used ((cut before).table table_s))) ⇒ 19) ∷ []) ∙ rw w refl)

  compact_verdict_lem : compact_verdict suite before nonces (KS suite K) ≡ or_else (verdict (compaction_input_tests nonces)) (verdict few_tests)
  unfolding compact_verdict
  compact_verdict_lem =
      verdict-append (compaction_input_tests nonces) (token_tests compaction_token_length (KS suite K) ++ (state_tests before ++ ((ltb (length nonces / 12) (length (used ((cut before).table table_s))) ⇒ 19) ∷ [])))
      ∙ ap (or_else (verdict (compaction_input_tests nonces))) rest_verdict

  -- ---- an accepted compaction

  abbrev after : Treated
  after = treat_all suite z.c (KS suite K) (distinct L) (s.st.table table_c) (s.st.table table_s) nonces 0 0

  treated_is : treated suite before nonces (KS suite K) ≡ after
  unfolding treated logged
  treated_is = rw (sizes_are x i before l hi₀ s, cut_is x i before l hi₀ s) refl

  abbrev compacted_st : Store
  compacted_st = put_in table_s after.t_s (put_in table_c after.t_c s.st)

  compacted_is : compacted_store before (treated suite before nonces (KS suite K)).t_c (treated suite before nonces (KS suite K)).t_s ≡ compacted_st
  unfolding compacted_store
  compacted_is = rw (treated_is, cut_is x i before l hi₀ s) refl

  module _ (enough : verdict few_tests ≡ none) where
    nonces_enough : 12 * length L ≤ length nonces
    nonces_enough =
        let a = passed (ltb (length nonces / 12) l.W) _ _ enough in
        let b = ltb-false (length nonces / 12) l.W a.0 in
        let w = s.w_is in
        omega arith

    result : Compacts x (KS suite K) i hi₀ (made_in l) l.A 0 0 (length (distinct L)) (length L) after.answer after.t_c after.t_s
    result = compacts x (KS suite K) i hi₀ (made_in l) (distinct L) l.A (s.st.table table_c) (s.st.table table_s) nonces 0 0 refl s.counters (s.shaped.tables table_c) (s.shaped.tables table_s) nonces_enough

    answer_is : after.answer ≡ done (length l.T ∷ l.W ∷ [])
    answer_is =
        let a : 0 + length (distinct L) ≡ length l.T = zero-add (length (distinct L)) ∙ sym s.t_length in
        let b : 0 + length L ≡ l.W = zero-add (length L) ∙ sym s.w_is in
        result.told ∙ (λ k. done (a k ∷ b k ∷ []))

    a_is : l.A + length (distinct L) ≡ l.A + length l.T
    a_is = ap (λ (n : ℕ). l.A + n) (sym s.t_length)

    compact_sim : Sim x (suc i) (joined compacted_st) (after_compaction (bounds_of z) l)
    unfolding after_compaction
    compact_sim = record {
      st = compacted_st;
      bytes = refl;
      shaped = shaped_put z _ table_s after.t_s result.s_ok (shaped_put z s.st table_c after.t_c result.c_ok s.shaped);
      counters = counters_later x after.t_c (log_in x after.t_s) (l.A + length l.T) i (made_in l) hi₀ (rw a_is at result.counted);
      entries = s.entries;
      marks = s.marks;
      small = λ pr ok. let w = s.small pr ok in omega arith;
      w_is = sym (ap length result.gone);
      t_length = sym (ap (λ (L : List (List ℕ)). length (distinct L)) result.gone);
      t_member = λ pr ok. sym (ap (any_of (λ y. same y (cl_of x pr))) result.gone);
    }

-- ---- the step

module _ (x : Setting) (i : ℕ) (before : List ℕ) (l : Ledger) (hi : suc i ≤ length x.calls) (s : Sim x i before l) (key nonces : List ℕ)
    (keyed : (key ≡ x.K) ⊎ (length key ≡ 32 → ⊥)) where
  open x use {suite, K, z, calls}

  abbrev few : List Test
  few = (ltb (length nonces / 12) l.W ⇒ 19) ∷ []

  ledger_verdict : ledger_compact_verdict (bounds_of z) l key nonces ≡ or_else (verdict (key_tests key)) (or_else (verdict (compaction_input_tests nonces)) (verdict few))
  unfolding ledger_compact_verdict
  ledger_verdict =
      verdict-append (key_tests key) (compaction_input_tests nonces ++ few)
      ∙ ap (or_else (verdict (key_tests key))) (verdict-append (compaction_input_tests nonces) few)

  key_made : verdict (key_tests key) ≡ none → key ≡ K
  unfolding key_tests
  key_made e = key_is K key keyed (passed (length_not 32 key) _ _ e).0

  abbrev call : Call
  call = Call.compact key nonces

  abbrev Reached : Result → Type 0
  Reached r = After x i call l (told_by call r) r.store

  refused_step : (r : Answer) → ledger_compact_verdict (bounds_of z) l key nonces ≡ some r → Reached (record { answer = r; store = before; output = [] })
  unfolding ledger_step
  refused_step r v = record { told_is = rw v refl; sim = rw v (later x i before l (omega arith) s) }

  abbrev accepted : Result
  accepted = record { answer = (after x i before l hi s nonces).answer; store = joined (compacted_st x i before l hi s nonces); output = [] }

  accepted_step : verdict few ≡ none → ledger_compact_verdict (bounds_of z) l key nonces ≡ none → Reached accepted
  unfolding ledger_step
  accepted_step e v = record {
    told_is = rw (v, answer_is x i before l hi s nonces e) refl;
    sim = rw v (compact_sim x i before l hi s nonces e);
  }

  compact_accepted : compact_verdict suite before nonces (KS suite K) ≡ none → Compaction.compact suite before nonces (KS suite K) ≡ accepted
  unfolding Compaction.compact
  compact_accepted e =
      rw e (λ j. record { answer = (treated_is x i before l hi s nonces j).answer; store = joined (compacted_is x i before l hi s nonces j); output = [] })

  compact_refused : (r : Answer) → compact_verdict suite before nonces (KS suite K) ≡ some r → Compaction.compact suite before nonces (KS suite K) ≡ record { answer = r; store = before; output = [] }
  unfolding Compaction.compact
  compact_refused r e = rw e refl

  made_step : ledger_compact_verdict (bounds_of z) l key nonces ≡ or_else (verdict (compaction_input_tests nonces)) (verdict few) → Reached (Compaction.compact suite before nonces (KS suite K))
  made_step v = by (or_else (verdict (compaction_input_tests nonces)) (verdict few)) refl
    where
      by : (q : Option Answer) → or_else (verdict (compaction_input_tests nonces)) (verdict few) ≡ q → Reached (Compaction.compact suite before nonces (KS suite K))
      by none e =
          subst Reached (sym (compact_accepted (compact_verdict_lem x i before l hi s nonces ∙ e)))
          (accepted_step (both_none (verdict (compaction_input_tests nonces)) (verdict few) e).1 (v ∙ e))
      by (some r) e = subst Reached (sym (compact_refused r (compact_verdict_lem x i before l hi s nonces ∙ e))) (refused_step r (v ∙ e))

  pub compact_step : Reached (compact_call suite before key nonces)
  unfolding compact_call compaction_token
  compact_step = go (verdict (key_tests key)) refl
    where
      go : (q : Option Answer) → verdict (key_tests key) ≡ q → Reached (made_or q (Compaction.compact suite before nonces (KS suite key)) before [])
      go none e = subst (λ (k : List ℕ). Reached (Compaction.compact suite before nonces (KS suite k))) (sym (key_made e)) (made_step (ledger_verdict ∙ rw e refl))
      go (some r) e = refused_step r (ledger_verdict ∙ rw e refl)
