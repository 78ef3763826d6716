-- One row of the log more: the treatment stands where the definition has it, in bounds, and table C can be searched.
use Prim.Native.Nat.{ℕ, zero, suc, ◌+◌, ◌*◌, ◌-◌, ◌≤◌, ◌<◌}
use mathlib.Core.Path.{◌≡◌, refl, sym, ap, subst, ◌∙◌}
use mathlib.Core.Bool.{Bool, true, false, cond}
use mathlib.Core.List.{List, []}
use native.Mathlib.Nat.{add-zero}
use native.Mathlib.Numerals.{add-one}
use native.Mathlib.Omega.{arith}
use lib.Dec.{eqb}
use lib.ListN.{length, get_or, take, drop, length-drop}
use lib.Seq.{length-take-le}
use borrow.Author.Tests.{eqb-true, eqb-false}
use Rattle.table.specs.Table.{Table}
use Rattle.table.specs.Order.{used_rows, Searchable}
use Rattle.scheme.specs.Store.{table_c, width_of}
use Rattle.scheme.specs.Reading.{Reading, reading}
use Rattle.scheme.specs.Reading.Reading.{counter, damage}
use Rattle.suite.specs.Program.{program}
use Rattle.counter.proofs.Readings.{reading_bounds}
use Rattle.firsts.specs.Firsts.{first_in}
use Rattle.treatment.specs.declared.Treated.{Treated}
use Rattle.treatment.specs.Treatment.{done_by, table_by}
use Rattle.treatment.proofs.Places.{treated_searchable}
use Rattle.answer.specs.declared.Tally.{Tally}
use Rattle.course.specs.Totals.{stops, anchors_in, counters_in, totals_after}
use Rattle.course.specs.Course.{Course, course_of, step_by, step_on, course_to, treated_to}
use Rattle.course.proofs.Courses.{step_goes, step_stopped, course_new, course_old, treated_whole, stopped_at}

pub totals_same : (t : Tally) (r : Treated) → anchors_in r ≡ 0 → counters_in r ≡ 0 → t ≡ totals_after t r
totals_same t r a k =
    let p = sym (add-zero t.anchors) ∙ ap (λ (n : ℕ). t.anchors + n) (sym a) in
    let q = sym (add-zero t.counters) ∙ ap (λ (n : ℕ). t.counters + n) (sym k) in
    λ i. record { anchors = p i; counters = q i }

-- no more counters than rows
pub few_counters : (c : ℕ) (cl : List ℕ) (t : Table) (r : Reading) → reading program c cl t ≡ r → counters_in (done_by r) ≤ c
few_counters c cl t damage e = omega arith
few_counters c cl t (counter B start zero n) e = omega arith
few_counters c cl t (counter B start (suc k) n) e = (reading_bounds c cl t B start (suc k) n (sym e)).counters

few_anchors : (r : Reading) → anchors_in (done_by r) ≤ 1
few_anchors damage = omega arith
few_anchors (counter B start zero n) = omega arith
few_anchors (counter B start (suc k) n) = omega arith

-- the next nonce
pub nonce_is : (nonces : List ℕ) (a : ℕ) → take (12 * a + 12 - 12 * a) (drop (12 * a) nonces) ≡ take 12 (drop (12 * a) nonces)
nonce_is nonces a = let e : 12 * a + 12 - 12 * a ≡ 12 = omega arith in ap (λ (n : ℕ). take n (drop (12 * a) nonces)) e

pub nonce_wide : (nonces : List ℕ) (a : ℕ) → 12 * a + 12 ≤ length nonces → length (take (12 * a + 12 - 12 * a) (drop (12 * a) nonces)) ≡ 12
nonce_wide nonces a h = ap length (nonce_is nonces a) ∙ length-take-le 12 (drop (12 * a) nonces) (omega (arith, length-drop (12 * a) nonces))

pub step_is : (nonces cl : List ℕ) (t t' : Table) (x x' : Tally) (b b' : Bool) (d : Treated) (r : Reading) → d ≡ done_by r
    → t' ≡ table_by cl (take (12 * x.anchors + 12 - 12 * x.anchors) (drop (12 * x.anchors) nonces)) t r → x' ≡ totals_after x d → b' ≡ stops d
    → course_of t' x' b' ≡ step_by nonces cl (course_of t x b) r
step_is nonces cl t t' x x' b b' d r ed et ex eb =
    let p = et ∙ ap (λ (n : List ℕ). table_by cl n t r) (nonce_is nonces x.anchors) in
    let q = ex ∙ ap (totals_after x) ed in
    let s = eb ∙ ap stops ed in
    λ j. course_of (p j) (q j) (s j)

module _ (c : ℕ) (nonces : List ℕ) (l : List (List ℕ)) (t : Table) where
  -- row i
  pub turned : (i x : ℕ) → i < length l → x ≡ first_in l (get_or l i []) → (s : Course) → s ≡ course_to c nonces l t i → s.stopped ≡ false
      → cond (eqb x i) (step_by nonces (get_or l i []) s (reading program c (get_or l i []) s.t_c)) s ≡ course_to c nonces l t (suc i)
  turned i x h e s es f = go (eqb x i) refl
    where
      go : (b : Bool) → eqb x i ≡ b → cond b (step_by nonces (get_or l i []) s (reading program c (get_or l i []) s.t_c)) s ≡ course_to c nonces l t (suc i)
      go true q =
          sym (course_new c nonces l t i h (sym e ∙ eqb-true x i q) ∙ ap (step_on c nonces (get_or l i [])) (sym es) ∙ step_goes c nonces (get_or l i []) s f)
      go false q = es ∙ sym (course_old c nonces l t i h (λ k. eqb-false x i q (e ∙ k)))

  -- the numbers in bounds
  pub record Few (k : ℕ) (s : Course) : Type 0 where
    pub anchors_few : s.anchors ≤ k
    pub counters_few : s.counters ≤ 4096 * k

  few_more : (k : ℕ) (s : Course) → Few k s → Few (suc k) s
  few_more k s f = record { anchors_few = omega (arith, f.anchors_few); counters_few = omega (arith, f.counters_few) }

  few_step : c ≤ 4096 → (k : ℕ) (cl : List ℕ) (s : Course) → Few k s → Few (suc k) (step_on c nonces cl s)
  few_step h k cl s f = go s.stopped refl
    where
      go : (b : Bool) → s.stopped ≡ b → Few (suc k) (step_on c nonces cl s)
      go true e = subst (Few (suc k)) (sym (step_stopped c nonces cl s e)) (few_more k s f)
      go false e =
          let r = reading program c cl s.t_c in
          subst (Few (suc k)) (sym (step_goes c nonces cl s e)) (record {
            anchors_few = omega (arith, f.anchors_few, few_anchors r);
            counters_few = omega (arith, f.counters_few, few_counters c cl s.t_c r refl, h);
          })

  pub course_few : c ≤ 4096 → (k : ℕ) → k ≤ length l → Few k (course_to c nonces l t k)
  unfolding course_to
  course_few h zero m = record { anchors_few = omega arith; counters_few = omega arith }
  course_few h (suc k) m = go (eqb (first_in l (get_or l k [])) k) refl (course_few h k (omega arith))
    where
      go : (b : Bool) → eqb (first_in l (get_or l k [])) k ≡ b → Few k (course_to c nonces l t k) → Few (suc k) (course_to c nonces l t (suc k))
      go true e f =
          subst (Few (suc k)) (sym (course_new c nonces l t k m (eqb-true (first_in l (get_or l k [])) k e))) (few_step h k (get_or l k []) (course_to c nonces l t k) f)
      go false e f = subst (Few (suc k)) (sym (course_old c nonces l t k m (eqb-false (first_in l (get_or l k [])) k e))) (few_more k (course_to c nonces l t k) f)

-- the table after it can be searched
pub row_searchable : (nonces cl : List ℕ) (b : Bool) (r : Reading) (u v : ℕ) (s : Course) (t' : Table) → Searchable (width_of table_c) u s.t_c
    → t' ≡ (cond b (step_by nonces cl s r) s).t_c → v ≡ length (used_rows t') → Searchable (width_of table_c) v t'
row_searchable nonces cl true r u v s t' h e n =
    subst (Searchable (width_of table_c) v) (sym e)
    (treated_searchable u cl (take 12 (drop (12 * s.anchors) nonces)) s.t_c r h v (n ∙ ap (λ (x : Table). length (used_rows x)) e))
row_searchable nonces cl false r u v s t' h e n =
    subst (Searchable (width_of table_c) v) (sym e) (record { form = h.form; marks = h.marks; number = n ∙ ap (λ (x : Table). length (used_rows x)) e })

-- after i rows, with nothing that stopped it
module _ (c : ℕ) (nonces : List ℕ) (l : List (List ℕ)) (t : Table) where
  pub record Going (i : ℕ) (now : Table) (x : Tally) (b : Bool) (used : ℕ) : Type 0 where
    pub stands : course_of now x b ≡ course_to c nonces l t i
    pub goes : b ≡ false
    pub search : Searchable (width_of table_c) used now

  pub going_none : (x : Tally) (used : ℕ) → x.anchors ≡ 0 → x.counters ≡ 0 → Searchable (width_of table_c) used t → Going 0 t x false used
  unfolding course_to
  going_none x used a w s = record { stands = (λ j. record { t_c = t; anchors = a j; counters = w j; stopped = false }); goes = refl; search = s }

  module _ (i : ℕ) (now : Table) (x : Tally) (b : Bool) (used : ℕ) (g : Going i now x b used) (small : c ≤ 4096) (inside : i ≤ length l) where
    pub going_few : (x.anchors ≤ i) × (x.counters ≤ 4096 * i)
    going_few =
        let f = course_few c nonces l t small i inside in
        (omega (arith, f.anchors_few, ap (λ (s : Course). s.anchors) g.stands), omega (arith, f.counters_few, ap (λ (s : Course). s.counters) g.stands))

    module _ (h : i < length l) (first : ℕ) (ef : first ≡ first_in l (get_or l i [])) (now' : Table) (x' : Tally) (b' : Bool)
        (e : course_of now' x' b' ≡ cond (eqb first i) (step_by nonces (get_or l i []) (course_of now x b) (reading program c (get_or l i []) now)) (course_of now x b)) where
      pub going_turn : course_of now' x' b' ≡ course_to c nonces l t (i + 1)
      going_turn = e ∙ turned c nonces l t i first h ef (course_of now x b) g.stands g.goes ∙ ap (course_to c nonces l t) (sym (add-one i))

      pub going_on : b' ≡ false → (used' : ℕ) → used' ≡ length (used_rows now') → Going (i + 1) now' x' b' used'
      going_on eb used' eu = record {
        stands = going_turn;
        goes = eb;
        search = row_searchable nonces (get_or l i []) (eqb first i) (reading program c (get_or l i []) now) used used' (course_of now x b) now' g.search (ap (λ (s : Course). s.t_c) e) eu;
      }

      -- damage at row i
      pub going_stops : b' ≡ true → (n : ℕ) → n ≡ length l → (course_of now' x' true ≡ course_to c nonces l t n) × (i ≡ treated_to c nonces l t n)
      going_stops eb n en =
          let st : (course_to c nonces l t (i + 1)).stopped ≡ true = ap (λ (s : Course). s.stopped) (sym going_turn) ∙ eb in
          let z : i + 1 + (n - (i + 1)) ≡ n = omega (arith, h, en) in
          let p = stopped_at c nonces l t (n - (i + 1)) (i + 1) (omega (arith, h, en)) st in (
            ap (course_of now' x') (sym eb) ∙ going_turn ∙ sym p.0 ∙ ap (course_to c nonces l t) z,
            sym (treated_whole c nonces l t i (ap (λ (s : Course). s.stopped) (sym g.stands) ∙ g.goes))
                ∙ sym (ap (treated_to c nonces l t) (add-one i) ∙ ap (λ (y : Bool). cond y (treated_to c nonces l t i) (suc i)) (ap (λ (k : ℕ). (course_to c nonces l t k).stopped) (sym (add-one i)) ∙ st))
                ∙ sym p.1 ∙ ap (treated_to c nonces l t) z,
          )

    pub going_all : (n : ℕ) → i ≡ n → (course_of now x false ≡ course_to c nonces l t n) × (n ≡ treated_to c nonces l t n)
    going_all n en = (
      ap (course_of now x) (sym g.goes) ∙ g.stands ∙ ap (course_to c nonces l t) en,
      sym (treated_whole c nonces l t n (ap (λ (k : ℕ). (course_to c nonces l t k).stopped) (sym en) ∙ ap (λ (s : Course). s.stopped) (sym g.stands) ∙ g.goes)),
    )
