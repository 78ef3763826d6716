-- Each way out is the definition's: refused by a test, or the sum.
use Prim.Native.Nat.{ℕ, ◌+◌, ◌-◌}
use mathlib.Core.Path.{◌≡◌, refl, sym, ap, ap₂, ◌∙◌}
use mathlib.Core.Bool.{Bool, true, false, cond}
use mathlib.Core.Option.{Option}
use mathlib.Core.List.{List, [], ◌∷◌, map}
use native.Mathlib.Numerals.{add-one}
use native.Mathlib.Omega.{arith}
use lib.ListN.{length, take, drop}
use borrow.Author.Tests.{eq-eqb, ne_eqb}
use Rattle.hmac.specs.declared.Keyed.{Keyed}
use Rattle.answer.specs.Answer.{Answer, done, refused, refusal}
use Rattle.answer.specs.declared.Refusal.{Refusal}
use Rattle.answer.specs.Verdict.{◌⇒◌, verdict, answer_or}
use Rattle.table.specs.Lists.{any_of, sum, up_to}
use Rattle.table.specs.Table.{rows}
use Rattle.table.proofs.Below.{below, up_to-below, sum_next}
use Rattle.scheme.specs.Store.{Sizes, width_of, sizes_of}
use Rattle.scheme.specs.Keys.{count_token_length}
use Rattle.scheme.specs.Reading.{Reading, damaged, count_of}
use Rattle.scheme.specs.Refusals.{token_tests}
use Rattle.scheme.specs.Find.{share_reading}
use Rattle.scheme.specs.Count.{count_verdict, sum_of_counts, share_rows, rows_read, count}
use Rattle.suite.specs.Program.{program}
use Rattle.store.specs.declared.Shape.{Shape}
use Rattle.std.specs.Prelude.{Ok, Err}
use Rattle.store.specs.Check.{checked_of}
use Rattle.store.proofs.Laws.{table_c, unfit, fit_verdict, fit_sizes, fits}
use Rattle.format.specs.Tags.{Prepared}
use Rattle.counter.specs.Outcome.{share_read, share_looked}
use Rattle.counter.proofs.Shares.{share_read_lem, share_looked_lem}
use Rattle.count.specs.Sum.{sum_answer}

module _ (f : ℕ → Reading) (g : ℕ → ℕ) (p : ℕ) where
  pub sum_damage : any_of (λ u. damaged (f u)) (up_to p) ≡ true → refused 13 [] ≡ sum_answer f g p
  unfolding sum_answer
  sum_damage e = rw e

  pub sum_done : (n rows : ℕ) → (any_of (λ u. damaged (f u)) (up_to p) ≡ false) × (n ≡ sum (map (λ u. count_of (f u)) (up_to p))) → rows ≡ sum (map g (below (p + 1)))
      → done (n ∷ rows ∷ []) ≡ sum_answer f g p
  unfolding sum_answer
  sum_done n rows e r =
      rw e.0 (ap₂ (λ (k j : ℕ). done (k ∷ j ∷ [])) e.1 (r ∙ ap (λ (l : List ℕ). sum (map g l)) (sym (up_to-below p))))

-- one share's rows more
pub rows_more : (g : ℕ → ℕ) (u rows more : ℕ) → rows ≡ sum (map g (below u)) → more ≡ g u → rows + more ≡ sum (map g (below (u + 1)))
rows_more g u rows more e f = rw (add-one u) (omega (arith, sum_next g u))

module _ (before token : List ℕ) where
  pub other_length : (length token ≡ count_token_length → ⊥) → refused 6 [] ≡ (count program before token).answer
  unfolding count count_verdict token_tests
  other_length h = rw (ne_eqb (length token) count_token_length h)

  module _ (h : length token ≡ count_token_length) where
    pub unfit_store : (r : Refusal) → checked_of before ≡ Err r → refusal r ≡ (count program before token).answer
    unfolding count count_verdict token_tests
    unfit_store r e =
        rw (eq-eqb (length token) count_token_length h)
        (ap (λ (o : Option Answer). answer_or o (done (sum_of_counts program before token ∷ rows_read program before token ∷ [])))
        (sym (unfit before r ((any_of (λ u. damaged (share_reading program before token u)) (up_to (sizes_of before).p) ⇒ 13) ∷ []) e)))

    -- the readings are the scheme's, so is their sum
    pub fit_store : (z : Shape) (clx : Keyed) → checked_of before ≡ Ok z → Prepared clx token
        → let t = rows (width_of table_c) z.c.rows (take (z.c.end - z.c.start) (drop z.c.start before)) in
        sum_answer (share_read clx z.c.rows t) (share_looked clx z.c.rows t) z.p ≡ (count program before token).answer
    unfolding count count_verdict token_tests sum_of_counts rows_read sum_answer
    fit_store z clx e k =
        let f = share_reading program before token in
        let y = fit_sizes before z e in
        let q = ap (λ (y : Sizes). y.c) y in
        let t = (fits before z e table_c).same in
        let a : Answer = done (sum (map (λ u. count_of (f u)) (up_to (sizes_of before).p)) ∷ sum (map (share_rows program before token) (up_to (sizes_of before).p)) ∷ []) in
        ap₂ (λ (s : ℕ → Reading) (g : ℕ → ℕ). sum_answer s g z.p) (share_read_lem clx token before z.c.rows _ k q t) (share_looked_lem clx token before z.c.rows _ k q t)
        ∙ ap (sum_answer f (share_rows program before token)) (ap (λ (y : Sizes). y.p) y)
        ∙ rw (eq-eqb (length token) count_token_length h)
        (turned (any_of (λ u. damaged (f u)) (up_to (sizes_of before).p)) a
        ∙ ap (λ (o : Option Answer). answer_or o a)
        (sym (fit_verdict before z ((any_of (λ u. damaged (f u)) (up_to (sizes_of before).p) ⇒ 13) ∷ []) e)))
      where
        turned : (b : Bool) (a : Answer) → cond b (refused 13 []) a ≡ answer_or (verdict ((b ⇒ 13) ∷ [])) a
        turned true a = refl
        turned false a = refl
