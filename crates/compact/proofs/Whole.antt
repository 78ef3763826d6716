-- A store that passed the checks: table C treated and table S closed up are what the definition gives.
use Prim.Native.Nat.{ℕ, ◌-◌, ◌≤◌}
use mathlib.Core.Path.{◌≡◌, refl, sym, ap, ap₂, subst, ◌∙◌}
use mathlib.Core.Bool.{Bool, cond}
use mathlib.Core.List.{List, [], ◌∷◌, ◌++◌}
use native.Mathlib.Omega.{arith}
use lib.ListN.{length, take, drop, replicate, length-replicate}
use lib.Seq.{take_all, take_at, drop_at}
use Rattle.octets.specs.Part.{back}
use Rattle.answer.specs.Answer.{done, refused}
use Rattle.table.specs.Lists.{distinct}
use Rattle.table.specs.Table.{Table, rows}
use Rattle.table.specs.Order.{reordered}
use Rattle.table.proofs.Order.{InForm, form_true}
use Rattle.closing.specs.Flags.{free_flagged}
use Rattle.scheme.specs.Store.{Sizes, width_of, cut, joined, put_in}
use Rattle.scheme.specs.Layout.{Laid}
use Rattle.scheme.specs.Compaction.{Treated, treat_all, logged, treated, compacted_store}
use Rattle.scheme.proofs.Plan.{laid_back}
use Rattle.suite.specs.Program.{program}
use Rattle.store.specs.declared.Shape.{Shape}
use Rattle.std.specs.Prelude.{Ok}
use Rattle.store.specs.Check.{checked_of, span_in}
use Rattle.store.proofs.Laws.{table_c, table_s, fit_sizes, laid_fit, used_rows_lem, formed}
use Rattle.firsts.specs.Firsts.{firsts}
use Rattle.firsts.specs.Flags.{flags_under}
use Rattle.firsts.proofs.Chaining.{firsts-length}
use Rattle.answer.specs.declared.Tally.{Tally}
use Rattle.course.specs.Course.{Course, course_of, begun, course, course_to, treated_to}
use Rattle.course.proofs.Courses.{treated_in, treated_is, treated_le}
use Rattle.compact.specs.Log.{cls_in}
use Rattle.compact.proofs.Closings.{ended, treats, shut_none}
use Rattle.compact.proofs.Logs.{log_is, log-length, shut_is}

pub room : (k n : ℕ) (l : List ℕ) → length l ≡ length {A = ℕ} (replicate k 0) → n ≤ k → n ≤ length l
room k n l e h = subst (λ (m : ℕ). n ≤ m) (sym (e ∙ length-replicate {A = ℕ} k 0)) h

-- the firsts and what follows them
module _ (l : List (List ℕ)) (n : ℕ) (first rest : List ℕ) (e : first ≡ firsts l ++ rest) (k : length l ≡ n) where
  pub found_self : first ≡ firsts l ++ drop n first
  found_self = e ∙ ap (λ (x : List ℕ). firsts l ++ x) (sym (ap (drop n) e ∙ drop_at (firsts l) rest n (firsts-length l ∙ k)))

  pub found_front : take n first ≡ firsts l
  found_front = ap (take n) e ∙ take_at (firsts l) rest n (firsts-length l ∙ k)

module _ (b nonces ks : List ℕ) (z : Shape) (e : checked_of b ≡ Ok z) where
  abbrev n : ℕ
  n = z.s.rows - z.s.free

  abbrev t_c : Table
  t_c = (cut b).table table_c

  abbrev t_s : Table
  t_s = (cut b).table table_s

  form : InForm (width_of table_s) t_s
  form = form_true (width_of table_s) t_s (formed b z e table_s)

  count : n ≡ length (Rattle.table.specs.Order.used_rows t_s)
  count = used_rows_lem b z e table_s

  abbrev log : List (List ℕ)
  log = cls_in ks (take n t_s)

  treated_law : treated program b nonces ks
      ≡ ended z.c.rows nonces ks t_s form (course_to z.c.rows nonces log t_c n) (distinct (take (treated_to z.c.rows nonces log t_c n) log))
  unfolding treated logged course_to
  treated_law =
      let c = z.c.rows in
      let whole : take n log ≡ log = take_all n log (omega (arith, log-length ks t_s n form count)) in
      ap₂ (λ (k : ℕ) (l : List (List ℕ)). treat_all program k ks (distinct l) t_c t_s nonces 0 0) (sym (ap (λ (s : Sizes). s.c) (fit_sizes b z e))) (sym (log_is ks t_s n form count))
      ∙ treats c nonces ks t_s form (distinct log) [] (begun t_c) t_s refl (sym (shut_none c nonces ks t_s form))
      ∙ ap (λ (l : List (List ℕ)). ended c nonces ks t_s form (course c nonces (distinct l) (begun t_c)) (treated_in c nonces (distinct l) (begun t_c))) (sym whole)
      ∙ ap (ended c nonces ks t_s form (course c nonces (distinct (take n log)) (begun t_c))) (treated_is c nonces log t_c n (omega (arith, log-length ks t_s n form count)))

  module _ (l : List (List ℕ)) (el : l ≡ cls_in ks (take n t_s)) (t t' : Table) (et : t ≡ t_c) (x : Tally) (st : Bool)
      (ec : course_of t' x st ≡ course_to z.c.rows nonces l t n) (upto : ℕ) (eu : upto ≡ treated_to z.c.rows nonces l t n) where
    ended_is : course_of t' x st ≡ course_to z.c.rows nonces log t_c n
    ended_is = ec ∙ ap₂ (λ (l : List (List ℕ)) (t : Table). course_to z.c.rows nonces l t n) el et

    pub answer_is : cond st (refused 13 (x.anchors ∷ x.counters ∷ [])) (done (x.anchors ∷ x.counters ∷ [])) ≡ (treated program b nonces ks).answer
    answer_is =
        ap (λ (s : Course). cond s.stopped (refused 13 (s.anchors ∷ s.counters ∷ [])) (done (s.anchors ∷ s.counters ∷ []))) ended_is
        ∙ sym (ap (λ (r : Treated). r.answer) treated_law)

    c_is : t' ≡ (treated program b nonces ks).t_c
    c_is = ap (λ (s : Course). s.t_c) ended_is ∙ sym (ap (λ (r : Treated). r.t_c) treated_law)

    module _ (fs : List ℕ) (m : ℕ) (few : length t_s ≤ m) (ef : fs ≡ flags_under upto (firsts l) ++ drop n (replicate m 0)) (s s' : Table) (es : s ≡ t_s)
        (sh : s' ≡ reordered (width_of table_s) (free_flagged (width_of table_s) fs s)) where
      s_is : s' ≡ (treated program b nonces ks).t_s
      s_is =
          let c = z.c.rows in
          let u : upto ≡ treated_to c nonces log t_c n = eu ∙ ap₂ (λ (l : List (List ℕ)) (t : Table). treated_to c nonces l t n) el et in
          sh ∙ ap (λ (x : Table). reordered (width_of table_s) (free_flagged (width_of table_s) fs x)) es
          ∙ shut_is ks t_s n form count upto m (omega (arith, u, treated_le c nonces log t_c n)) few fs (ef ∙ ap (λ (x : List (List ℕ)). flags_under upto (firsts x) ++ drop n (replicate m 0)) el) c nonces
          ∙ ap (λ (k : ℕ). shut_to k) u ∙ sym (ap (λ (r : Treated). r.t_s) treated_law)
        where
          shut_to : ℕ → Table
          shut_to k = (ended z.c.rows nonces ks t_s form (course_to z.c.rows nonces log t_c n) (distinct (take k log))).t_s

      pub store_is : (after : List ℕ) → after ≡ joined (put_in table_s s' (put_in table_c t' (cut b)))
          → after ≡ joined (compacted_store b (treated program b nonces ks).t_c (treated program b nonces ks).t_s)
      unfolding compacted_store
      store_is after ea = ea ∙ ap₂ (λ (x y : Table). joined (put_in table_s y (put_in table_c x (cut b)))) c_is s_is

  -- table C has come back
  pub laid_c : (ys : List ℕ) → length ys ≡ length (take (z.c.end - z.c.start) (drop z.c.start b))
      → Laid (span_in z) (back b z.c.start z.c.end ys) (put_in table_c (rows (width_of table_c) z.c.rows ys) (cut b))
  laid_c ys h = laid_back (span_in z) b (cut b) (laid_fit b z e) table_c ys h
