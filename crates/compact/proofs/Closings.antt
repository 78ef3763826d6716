-- Table S closed up once, without the rows whose CL first stands before the row that stopped the treatment, is S closed up after each CL.
use Prim.Native.Nat.{ℕ, zero, suc, ◌+◌, ◌*◌}
use mathlib.Core.Path.{◌≡◌, refl, sym, ap, ap₂, subst, ◌∙◌}
use mathlib.Core.Bool.{Bool, false, cond, not, ◌||◌, or-false}
use mathlib.Core.List.{List, [], ◌∷◌, ◌++◌, append-nil, append_assoc}
use native.Mathlib.Nat.{add-zero}
use native.Mathlib.Omega.{arith}
use lib.ListN.{drop}
use lib.Seq.{drop-drop}
use Rattle.answer.specs.Answer.{Answer, done, refused}
use Rattle.table.specs.Lists.{same, select, any_of, Same}
use Rattle.table.specs.Table.{Row, Table, body, free_where}
use Rattle.table.specs.Order.{used_rows, closed, reordered}
use Rattle.table.proofs.Counting.{any_append, same_sym, Same-select, Same-refl}
use Rattle.table.proofs.Rows.{free_where-or, free_where-length, free_where_none}
use Rattle.table.proofs.Order.{InForm, reordered_form}
use Rattle.table.proofs.Arranging.{reordered-length, reordered-Same, reordered_same, free_where_rows}
use Rattle.scheme.specs.Store.{table_s, width_of, cl_in}
use Rattle.scheme.specs.Reading.{Reading, reading}
use Rattle.scheme.specs.Reading.Reading.{counter, damage}
use Rattle.scheme.specs.Compaction.{Treated, free_log, treat_all, by_reading}
use Rattle.treatment.specs.Treatment.{done_by}
use Rattle.course.specs.Totals.{stops}
use Rattle.suite.specs.Program.{program}
use Rattle.course.specs.Course.{Course, step_by, course}
use Rattle.course.proofs.Courses.{step_goes, course-stopped, treated_in}

closed_ext : (w : ℕ) (p q : List ℕ → Bool) (t : Table) → ((b : List ℕ) → p b ≡ q b) → closed w p t ≡ closed w q t
unfolding closed
closed_ext w p q t h =
    reordered_same w (free_where w p t) (free_where w q t) (free_where-length w p t ∙ sym (free_where-length w q t))
    (subst (Same (used_rows (free_where w p t)))
    (free_where_rows w p t ∙ select-ext (used_rows t) ∙ sym (free_where_rows w q t)) (Same-refl (used_rows (free_where w p t))))
  where
    select-ext : (l : List Row) → select (λ r. not (p (body r))) l ≡ select (λ r. not (q (body r))) l
    select-ext [] = refl
    select-ext (r ∷ rs) = ap₂ (λ (b : Bool) (x : List Row). cond (not b) (r ∷ x) x) (h (body r)) (select-ext rs)

closed_twice : (w : ℕ) (p q : List ℕ → Bool) (t : Table) → closed w q (closed w p t) ≡ closed w (λ b. p b || q b) t
unfolding closed
closed_twice w p q t =
    let x = free_where w p t in
    reordered_same w (free_where w q (reordered w x)) (free_where w (λ b. p b || q b) t)
    (free_where-length w q (reordered w x) ∙ reordered-length w x ∙ free_where-length w p t ∙ sym (free_where-length w (λ b. p b || q b) t))
    (subst (Same (used_rows (free_where w q (reordered w x)))) (ap used_rows (free_where-or w p q t))
    (subst (λ (l : List Row). Same l (used_rows (free_where w q x))) (sym (free_where_rows w q (reordered w x)))
    (subst (Same (select (λ r. not (q (body r))) (used_rows (reordered w x)))) (sym (free_where_rows w q x))
    (Same-select (λ r. not (q (body r))) (used_rows (reordered w x)) (used_rows x) (reordered-Same w x)))))

module _ (c : ℕ) (nonces ks : List ℕ) (t_s : Table) (form : InForm (width_of table_s) t_s) where
  -- S without the rows of these CL
  unfoldable pub shut : List (List ℕ) → Table
  shut ms = closed (width_of table_s) (λ b. any_of (λ y. same y (cl_in program ks b)) ms) t_s

  pub shut_none : shut [] ≡ t_s
  unfolding shut closed
  shut_none = ap (reordered (width_of table_s)) (free_where_none (width_of table_s) t_s) ∙ reordered_form (width_of table_s) t_s form

  shut_more : (ms : List (List ℕ)) (cl : List ℕ) → free_log program ks cl (shut ms) ≡ shut (ms ++ (cl ∷ []))
  unfolding shut free_log
  shut_more ms cl =
      closed_twice (width_of table_s) (λ b. any_of (λ y. same y (cl_in program ks b)) ms) (λ b. same (cl_in program ks b) cl) t_s
      ∙ closed_ext (width_of table_s) _ _ t_s
      (λ b. sym (any_append (λ y. same y (cl_in program ks b)) ms (cl ∷ [])
      ∙ ap (λ (x : Bool). any_of (λ y. same y (cl_in program ks b)) ms || x) (or-false (same cl (cl_in program ks b)) ∙ same_sym cl (cl_in program ks b))))

  abbrev pub answer_of : Course → Answer
  answer_of s = cond s.stopped (refused 13 (s.anchors ∷ s.counters ∷ [])) (done (s.anchors ∷ s.counters ∷ []))

  -- the outcome of the whole
  abbrev pub ended : Course → List (List ℕ) → Treated
  ended s ms = record { answer = answer_of s; t_c = s.t_c; t_s = shut ms }

  -- CL after CL in both tables, from where the treatment stands
  pub treats : (cls ms : List (List ℕ)) (s : Course) (t : Table) → s.stopped ≡ false → t ≡ shut ms
      → treat_all program c ks cls s.t_c t (drop (12 * s.anchors) nonces) s.anchors s.counters ≡ ended (course c nonces cls s) (ms ++ treated_in c nonces cls s)
  treats [] ms s t e f =
      ap₂ (λ (b : Bool) (x : Table). outcome_of s.anchors s.counters b s.t_c x) (sym e) (f ∙ ap shut (sym (append-nil ms)))
    where
      outcome_of : ℕ → ℕ → Bool → Table → Table → Treated
      outcome_of a w b t_c x = record { answer = cond b (refused 13 (a ∷ w ∷ [])) (done (a ∷ w ∷ [])); t_c = t_c; t_s = x }
  treats (cl ∷ cls) ms s t e f =
      go (reading program c cl s.t_c) (treats cls)
      ∙ ap (λ (x : Course). ended (course c nonces cls x) (ms ++ cond x.stopped [] (cl ∷ treated_in c nonces cls x))) (sym (step_goes c nonces cl s e))
    where
      halted : ℕ → ℕ → Table → Treated
      halted a w x = record { answer = refused 13 (a ∷ w ∷ []); t_c = s.t_c; t_s = x }

      more : free_log program ks cl t ≡ shut (ms ++ (cl ∷ []))
      more = ap (free_log program ks cl) f ∙ shut_more ms cl

      go : (r : Reading)
          → ((ms : List (List ℕ)) (s : Course) (t : Table) → s.stopped ≡ false → t ≡ shut ms
          → treat_all program c ks cls s.t_c t (drop (12 * s.anchors) nonces) s.anchors s.counters ≡ ended (course c nonces cls s) (ms ++ treated_in c nonces cls s))
          → by_reading program ks cl s.t_c t (drop (12 * s.anchors) nonces) s.anchors s.counters r (λ t_c t_s nonces a w. treat_all program c ks cls t_c t_s nonces a w)
          ≡ ended (course c nonces cls (step_by nonces cl s r)) (ms ++ cond (stops (done_by r)) [] (cl ∷ treated_in c nonces cls (step_by nonces cl s r)))
      go damage rest =
          ap₂ (λ (a w : ℕ). halted a w t) (sym (add-zero s.anchors)) (sym (add-zero s.counters))
          ∙ ap (halted (s.anchors + 0) (s.counters + 0)) (f ∙ ap shut (sym (append-nil ms)))
          ∙ ap (λ (x : Course). ended x (ms ++ [])) (sym (course-stopped c nonces cls (step_by nonces cl s damage) refl))
      go (counter B start zero n) rest =
          ap₂ (λ (a w : ℕ). treat_all program c ks cls s.t_c (free_log program ks cl t) (drop (12 * a) nonces) a w) (sym (add-zero s.anchors)) (sym (add-zero s.counters))
          ∙ rest (ms ++ (cl ∷ [])) (step_by nonces cl s (counter B start zero n)) (free_log program ks cl t) refl more
          ∙ ap (ended (course c nonces cls (step_by nonces cl s (counter B start zero n)))) (append_assoc ms (cl ∷ []) (treated_in c nonces cls (step_by nonces cl s (counter B start zero n))))
      go (counter B start (suc k) n) rest =
          let s₁ = step_by nonces cl s (counter B start (suc k) n) in
          let d : 12 * s.anchors + 12 ≡ 12 * (s.anchors + 1) = omega arith in
          ap (λ (x : List ℕ). treat_all program c ks cls s₁.t_c (free_log program ks cl t) x (s.anchors + 1) (s.counters + suc k))
          (drop-drop 12 (12 * s.anchors) nonces ∙ ap (λ (m : ℕ). drop m nonces) d)
          ∙ rest (ms ++ (cl ∷ [])) s₁ (free_log program ks cl t) refl more
          ∙ ap (ended (course c nonces cls s₁)) (append_assoc ms (cl ∷ []) (treated_in c nonces cls s₁))
