-- The refusals before the treatment, in their order (document 01, "Refusals from the input" and "Refusals from the state").
use Prim.Native.Nat.{ℕ, ◌+◌, ◌-◌, ◌/◌, ◌%◌, ◌≤◌, ◌<◌}
use mathlib.Core.Path.{◌≡◌, sym, ap, ◌∙◌}
use mathlib.Core.Option.{Option, none, some}
use mathlib.Core.List.{List, [], ◌∷◌, ◌++◌}
use native.Mathlib.Omega.{arith}
use borrow.Author.Tests.{eq-eqb, ne_eqb, lt-ltb, le-ltb}
use lib.Dec.{ltb}
use lib.ListN.{length}
use Rattle.answer.specs.Answer.{Answer, refused, refusal}
use Rattle.answer.specs.declared.Refusal.{Refusal}
use Rattle.answer.specs.Verdict.{Test, ◌⇒◌, verdict, answer_or, unless_refused}
use Rattle.table.specs.Table.{used}
use Rattle.table.proofs.Rows.{free_used}
use Rattle.scheme.specs.Keys.{compaction_token_length}
use Rattle.scheme.specs.Store.{cut, joined, state_tests}
use Rattle.scheme.specs.Refusals.{compaction_input_tests, token_tests}
use Rattle.scheme.specs.Compaction.{compact_verdict, treated, compacted_store, compact}
use Rattle.suite.specs.Program.{program}
use Rattle.store.specs.declared.Shape.{Shape}
use Rattle.std.specs.Prelude.{Ok, Err}
use Rattle.store.specs.Check.{checked_of}
use Rattle.store.proofs.Laws.{table_s, unfit, fit_verdict, laid_fit, free_rows_lem}

-- the used rows of S, by the free ones
pub rows_left : (before : List ℕ) (z : Shape) → checked_of before ≡ Ok z → z.s.rows ≡ z.s.free + length (used ((cut before).table table_s))
rows_left before z e =
    let n = ((laid_fit before z e).wide table_s).number in
    let f = free_rows_lem before z e table_s in
    omega (arith, free_used ((cut before).table table_s))

module _ (before nonces token : List ℕ) where
  -- a refusal leaves the store
  pub refuses : (r : Answer) → compact_verdict program before nonces token ≡ some r → (r ≡ (compact program before nonces token).answer) × (before ≡ (compact program before nonces token).store)
  unfolding compact
  refuses r v = (sym (ap (λ (o : Option Answer). answer_or o (treated program before nonces token).answer) v), sym (ap (λ (o : Option Answer). unless_refused o wrote before) v))
    where
      wrote : List ℕ
      wrote = joined (compacted_store before (treated program before nonces token).t_c (treated program before nonces token).t_s)

  pub goes : (answer : Answer) (after : List ℕ) → compact_verdict program before nonces token ≡ none → answer ≡ (treated program before nonces token).answer
      → after ≡ joined (compacted_store before (treated program before nonces token).t_c (treated program before nonces token).t_s)
      → (answer ≡ (compact program before nonces token).answer) × (after ≡ (compact program before nonces token).store)
  unfolding compact
  goes answer after v a w =
      (a ∙ sym (ap (λ (o : Option Answer). answer_or o (treated program before nonces token).answer) v), w ∙ sym (ap (λ (o : Option Answer). unless_refused o wrote before) v))
    where
      wrote : List ℕ
      wrote = joined (compacted_store before (treated program before nonces token).t_c (treated program before nonces token).t_s)

  pub verdict_nonces : (length nonces % 12 ≡ 0 → ⊥) → compact_verdict program before nonces token ≡ some (refused 4 [])
  unfolding compact_verdict compaction_input_tests
  verdict_nonces h = rw (ne_eqb (length nonces % 12) 0 h)

  module _ (n : length nonces % 12 ≡ 0) where
    pub verdict_token : (length token ≡ compaction_token_length → ⊥) → compact_verdict program before nonces token ≡ some (refused 6 [])
    unfolding compact_verdict compaction_input_tests token_tests
    verdict_token h = rw (eq-eqb (length nonces % 12) 0 n, ne_eqb (length token) compaction_token_length h)

    module _ (t : length token ≡ compaction_token_length) where
      -- 19
      abbrev few_nonces : List Test
      few_nonces = (ltb (length nonces / 12) (length (used ((cut before).table table_s))) ⇒ 19) ∷ []

      -- what is left are 10, 11, 20 and 19
      state : compact_verdict program before nonces token ≡ verdict (state_tests before ++ few_nonces)
      unfolding compact_verdict compaction_input_tests token_tests
      state = rw (eq-eqb (length nonces % 12) 0 n, eq-eqb (length token) compaction_token_length t)

      pub verdict_store : (r : Refusal) → checked_of before ≡ Err r → compact_verdict program before nonces token ≡ some (refusal r)
      verdict_store r e = state ∙ unfit before r few_nonces e

      module _ (z : Shape) (e : checked_of before ≡ Ok z) where
        rest : compact_verdict program before nonces token ≡ verdict few_nonces
        rest = state ∙ fit_verdict before z few_nonces e

        pub verdict_count : length nonces / 12 < z.s.rows - z.s.free → compact_verdict program before nonces token ≡ some (refused 19 [])
        verdict_count h =
            let k : length nonces / 12 < length (used ((cut before).table table_s)) = omega (arith, rows_left before z e) in
            rest ∙ rw (lt-ltb (length nonces / 12) (length (used ((cut before).table table_s))) k)

        enough : z.s.rows - z.s.free ≤ length nonces / 12 → length (used ((cut before).table table_s)) ≤ length nonces / 12
        enough h = omega (arith, rows_left before z e)

        pub verdict_none : z.s.rows - z.s.free ≤ length nonces / 12 → compact_verdict program before nonces token ≡ none
        verdict_none h = rest ∙ rw (le-ltb (length nonces / 12) (length (used ((cut before).table table_s))) (enough h))
