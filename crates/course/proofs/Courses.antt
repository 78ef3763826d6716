-- The treatment over table C alone, row after row of the log, is that of the distinct CL.
use Prim.Native.Nat.{ℕ, zero, suc, ◌+◌, ◌≤◌, ◌<◌}
use mathlib.Core.Path.{◌≡◌, refl, sym, ap, ◌∙◌}
use mathlib.Core.Bool.{Bool, true, false, cond, ◌||◌, true≢false}
use mathlib.Core.List.{List, [], ◌∷◌, ◌++◌, append-nil}
use native.Mathlib.Nat.{not-suc-le-zero, le_of_suc-le-suc}
use native.Mathlib.Omega.{arith}
use lib.Dec.{ltb, eqb}
use lib.ListN.{length, get_or, take}
use lib.Seq.{take-suc}
use borrow.Author.Tests.{eqb-true, eqb-false, ltb-true, ltb-false, lt-ltb, le-ltb}
use Rattle.table.specs.Lists.{same, any_of, distinct}
use Rattle.table.specs.Table.{Table, index_of}
use Rattle.table.proofs.Distinct.{distinct_end}
use Rattle.scheme.specs.Reading.{reading}
use Rattle.suite.specs.Program.{program}
use Rattle.firsts.specs.Firsts.{first_in}
use Rattle.firsts.proofs.Chaining.{first_le}
use Rattle.course.specs.Course.{Course, begun, step_by, step_on, course, course_to, treated_to}

ltb-suc : (m n : ℕ) → ltb (suc m) (suc n) ≡ ltb m n
ltb-suc m n = go (ltb m n) refl
  where
    go : (b : Bool) → ltb m n ≡ b → ltb (suc m) (suc n) ≡ b
    go true e = lt-ltb (suc m) (suc n) (omega (arith, ltb-true m n e))
    go false e = le-ltb (suc m) (suc n) (omega (arith, ltb-false m n e))

any_front : (p : List ℕ → Bool) (l : List (List ℕ)) (k : ℕ) → k ≤ length l → any_of p (take k l) ≡ ltb (index_of p l) k
any_front p l zero h = sym (le-ltb (index_of p l) 0 (omega arith))
any_front p [] (suc k) h = absurd (not-suc-le-zero h)
any_front p (x ∷ xs) (suc k) h = go (p x) (any_front p xs k (le_of_suc-le-suc h))
  where
    go : (b : Bool) → any_of p (take k xs) ≡ ltb (index_of p xs) k → (b || any_of p (take k xs)) ≡ ltb (cond b zero (suc (index_of p xs))) (suc k)
    go true e = sym (lt-ltb 0 (suc k) (omega arith))
    go false e = e ∙ sym (ltb-suc (index_of p xs) k)

-- a CL stands before row k of the log if it first stands there
pub any_first : (l : List (List ℕ)) (x : List ℕ) (k : ℕ) → k ≤ length l → any_of (λ y. same y x) (take k l) ≡ ltb (first_in l x) k
unfolding first_in
any_first l x k h = any_front (λ y. same y x) l k h

module _ (c : ℕ) (nonces : List ℕ) where
  course-append : (xs ys : List (List ℕ)) (s : Course) → course c nonces (xs ++ ys) s ≡ course c nonces ys (course c nonces xs s)
  course-append [] ys s = refl
  course-append (x ∷ xs) ys s = course-append xs ys (step_on c nonces x s)

  pub step_stopped : (cl : List ℕ) (s : Course) → s.stopped ≡ true → step_on c nonces cl s ≡ s
  unfolding step_on
  step_stopped cl s e = ap (λ (b : Bool). cond b s (step_by nonces cl s (reading program c cl s.t_c))) e

  pub step_goes : (cl : List ℕ) (s : Course) → s.stopped ≡ false → step_on c nonces cl s ≡ step_by nonces cl s (reading program c cl s.t_c)
  unfolding step_on
  step_goes cl s e = ap (λ (b : Bool). cond b s (step_by nonces cl s (reading program c cl s.t_c))) e

  pub course-stopped : (cls : List (List ℕ)) (s : Course) → s.stopped ≡ true → course c nonces cls s ≡ s
  course-stopped [] s e = refl
  course-stopped (x ∷ xs) s e = ap (course c nonces xs) (step_stopped x s e) ∙ course-stopped xs s e

  -- the CL that were treated
  abbrev pub treated_in : List (List ℕ) → Course → List (List ℕ)
  treated_in [] s = []
  treated_in (cl ∷ cls) s = cond (step_on c nonces cl s).stopped [] (cl ∷ treated_in cls (step_on c nonces cl s))

  treated_end : (xs : List (List ℕ)) (y : List ℕ) (s : Course) → treated_in (xs ++ (y ∷ [])) s ≡ treated_in xs s ++ cond (course c nonces (xs ++ (y ∷ [])) s).stopped [] (y ∷ [])
  treated_end [] y s = refl
  treated_end (x ∷ xs) y s = go (step_on c nonces x s).stopped refl (treated_end xs y (step_on c nonces x s))
    where
      go : (b : Bool) → (step_on c nonces x s).stopped ≡ b
          → treated_in (xs ++ (y ∷ [])) (step_on c nonces x s) ≡ treated_in xs (step_on c nonces x s) ++ cond (course c nonces (xs ++ (y ∷ [])) (step_on c nonces x s)).stopped [] (y ∷ [])
          → cond b [] (x ∷ treated_in (xs ++ (y ∷ [])) (step_on c nonces x s))
          ≡ cond b [] (x ∷ treated_in xs (step_on c nonces x s)) ++ cond (course c nonces (xs ++ (y ∷ [])) (step_on c nonces x s)).stopped [] (y ∷ [])
      go true e k =
          sym (ap (λ (b : Bool). cond b [] (y ∷ [])) (ap (λ (r : Course). r.stopped) (course-stopped (xs ++ (y ∷ [])) (step_on c nonces x s) e) ∙ e))
      go false e k = ap (λ (l : List (List ℕ)). x ∷ l) k

  module _ (l : List (List ℕ)) (t : Table) where
    -- ---- one row of the log more

    module _ (k : ℕ) (h : k < length l) where
      abbrev cl : List ℕ
      cl = get_or l k []

      distinct_next : distinct (take (suc k) l) ≡ cond (ltb (first_in l cl) k) (distinct (take k l)) (distinct (take k l) ++ (cl ∷ []))
      distinct_next =
          ap distinct (take-suc l k [] h) ∙ distinct_end cl (take k l)
          ∙ ap (λ (b : Bool). cond b (distinct (take k l)) (distinct (take k l) ++ (cl ∷ []))) (any_first l cl k (omega arith))

      pub distinct_new : first_in l cl ≡ k → distinct (take (suc k) l) ≡ distinct (take k l) ++ (cl ∷ [])
      distinct_new e =
          distinct_next ∙ ap (λ (b : Bool). cond b (distinct (take k l)) (distinct (take k l) ++ (cl ∷ []))) (le-ltb (first_in l cl) k (omega (arith, e)))

      distinct_old : (first_in l cl ≡ k → ⊥) → distinct (take (suc k) l) ≡ distinct (take k l)
      distinct_old e =
          distinct_next ∙ ap (λ (b : Bool). cond b (distinct (take k l)) (distinct (take k l) ++ (cl ∷ []))) (lt-ltb (first_in l cl) k (omega (arith, e, first_le l k h)))

      pub course_new : first_in l cl ≡ k → course_to c nonces l t (suc k) ≡ step_on c nonces cl (course_to c nonces l t k)
      unfolding course_to
      course_new e = ap (λ (x : List (List ℕ)). course c nonces x (begun t)) (distinct_new e) ∙ course-append (distinct (take k l)) (cl ∷ []) (begun t)

      pub course_old : (first_in l cl ≡ k → ⊥) → course_to c nonces l t (suc k) ≡ course_to c nonces l t k
      unfolding course_to
      course_old e = ap (λ (x : List (List ℕ)). course c nonces x (begun t)) (distinct_old e)

      stays : (course_to c nonces l t k).stopped ≡ true → course_to c nonces l t (suc k) ≡ course_to c nonces l t k
      stays s = go (eqb (first_in l cl) k) refl
        where
          go : (b : Bool) → eqb (first_in l cl) k ≡ b → course_to c nonces l t (suc k) ≡ course_to c nonces l t k
          go true e = course_new (eqb-true (first_in l cl) k e) ∙ step_stopped cl (course_to c nonces l t k) s
          go false e = course_old (eqb-false (first_in l cl) k e)

      -- ---- what was treated

      treated_next : treated_in (distinct (take k l)) (begun t) ≡ distinct (take (treated_to c nonces l t k) l)
          → ((course_to c nonces l t k).stopped ≡ false → treated_to c nonces l t k ≡ k)
          → treated_in (distinct (take (suc k) l)) (begun t) ≡ distinct (take (treated_to c nonces l t (suc k)) l)
      unfolding course_to
      treated_next p q = go (eqb (first_in l cl) k) refl
        where
          whole : (b : Bool) → (course_to c nonces l t k).stopped ≡ b → (course_to c nonces l t (suc k)).stopped ≡ false → (course_to c nonces l t k).stopped ≡ false
          whole true e f = absurd (true≢false (sym (ap (λ (r : Course). r.stopped) (stays e) ∙ e) ∙ f))
          whole false e f = e

          new : first_in l cl ≡ k → (b : Bool) → (course_to c nonces l t (suc k)).stopped ≡ b
              → treated_in (distinct (take k l)) (begun t) ++ cond b [] (cl ∷ []) ≡ distinct (take (cond b (treated_to c nonces l t k) (suc k)) l)
          new e true f = append-nil (treated_in (distinct (take k l)) (begun t)) ∙ p
          new e false f =
              ap (λ (x : List (List ℕ)). x ++ (cl ∷ [])) (p ∙ ap (λ (n : ℕ). distinct (take n l)) (q (whole (course_to c nonces l t k).stopped refl f))) ∙ sym (distinct_new e)

          old : (first_in l cl ≡ k → ⊥) → (b : Bool) → (course_to c nonces l t (suc k)).stopped ≡ b
              → treated_in (distinct (take k l)) (begun t) ≡ distinct (take (cond b (treated_to c nonces l t k) (suc k)) l)
          old e true f = p
          old e false f = p ∙ ap (λ (n : ℕ). distinct (take n l)) (q (whole (course_to c nonces l t k).stopped refl f)) ∙ sym (distinct_old e)

          go : (b : Bool) → eqb (first_in l cl) k ≡ b → treated_in (distinct (take (suc k) l)) (begun t) ≡ distinct (take (treated_to c nonces l t (suc k)) l)
          go true e =
              let f = eqb-true (first_in l cl) k e in
              let d = distinct_new f in
              ap (λ (x : List (List ℕ)). treated_in x (begun t)) d ∙ treated_end (distinct (take k l)) cl (begun t)
              ∙ ap (λ (x : List (List ℕ)). treated_in (distinct (take k l)) (begun t) ++ cond (course c nonces x (begun t)).stopped [] (cl ∷ [])) (sym d)
              ∙ new f (course_to c nonces l t (suc k)).stopped refl
          go false e =
              let f = eqb-false (first_in l cl) k e in
              ap (λ (x : List (List ℕ)). treated_in x (begun t)) (distinct_old f) ∙ old f (course_to c nonces l t (suc k)).stopped refl

    pub treated_whole : (k : ℕ) → (course_to c nonces l t k).stopped ≡ false → treated_to c nonces l t k ≡ k
    treated_whole zero e = refl
    treated_whole (suc k) e = ap (λ (b : Bool). cond b (treated_to c nonces l t k) (suc k)) e

    pub treated_is : (k : ℕ) → k ≤ length l → treated_in (distinct (take k l)) (begun t) ≡ distinct (take (treated_to c nonces l t k) l)
    treated_is zero h = refl
    treated_is (suc k) h = treated_next k h (treated_is k (omega arith)) (treated_whole k)

    pub treated_le : (k : ℕ) → treated_to c nonces l t k ≤ k
    treated_le zero = omega arith
    treated_le (suc k) = go (course_to c nonces l t (suc k)).stopped (treated_le k)
      where
        go : (b : Bool) → treated_to c nonces l t k ≤ k → cond b (treated_to c nonces l t k) (suc k) ≤ suc k
        go true e = omega arith
        go false e = omega arith

    -- once stopped, it stays so
    pub stopped_at : (j k : ℕ) → k + j ≤ length l → (course_to c nonces l t k).stopped ≡ true
        → (course_to c nonces l t (k + j) ≡ course_to c nonces l t k) × (treated_to c nonces l t (k + j) ≡ treated_to c nonces l t k)
    stopped_at zero k h e = let z : k + 0 ≡ k = omega arith in (ap (course_to c nonces l t) z, ap (treated_to c nonces l t) z)
    stopped_at (suc j) k h e =
        let z : k + suc j ≡ suc (k + j) = omega arith in
        let p = stopped_at j k (omega arith) e in
        let s : (course_to c nonces l t (k + j)).stopped ≡ true = ap (λ (r : Course). r.stopped) p.0 ∙ e in
        let q = stays (k + j) (omega arith) s in (
          ap (course_to c nonces l t) z ∙ q ∙ p.0,
          ap (treated_to c nonces l t) z ∙ ap (λ (b : Bool). cond b (treated_to c nonces l t (k + j)) (suc (k + j))) (ap (λ (r : Course). r.stopped) q ∙ s) ∙ p.1,
        )
