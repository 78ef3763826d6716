-- Flags one behind the other that pass a test: a search takes one after the other, and rows whose flags pass stay, or go, together.
use Prim.Native.Nat.{ℕ, zero, suc, ◌+◌, ◌-◌, ◌≤◌, ◌<◌}
use mathlib.Core.Path.{◌≡◌, refl, sym, ap, ap₂, subst, ◌∙◌}
use mathlib.Core.Bool.{Bool, true, false, cond, not, ◌&&◌}
use mathlib.Core.List.{List, [], ◌∷◌, ◌++◌, append_assoc}
use native.Mathlib.Nat.{add-zero, not-suc-le-zero, le_of_suc-le-suc}
use native.Mathlib.Omega.{arith}
use lib.Dec.{eqb, ltb}
use borrow.Author.Tests.{ltb-true, ltb-false}
use lib.ListN.{length, get_or, take, drop, take-append-drop}
use lib.Seq.{slice, length-slice, drop-cons, drop-drop, get_or-take, get_or-drop}
use Rattle.std.specs.Prelude.{Option, Some, None}
use Rattle.std.specs.List.{position_or_len}
use Rattle.std.proofs.lemmas.List.Recursion.{is_position_or_len}
use Rattle.octets.proofs.Parts.{length_part}
use Rattle.table.specs.Table.{Row, Table, is_free}
use Rattle.table.specs.Order.{used_rows}
use Rattle.table.proofs.Walk.{drop-take}
use Rattle.moving.specs.Moves.{moved}
use Rattle.moving.proofs.Moves.{take-moved_all, drop-moved, length_moved}
use Rattle.closing.specs.Flags.{free_flagged, leading, next_flagged, next_staying}
use Rattle.closing.proofs.Gathering.{Gathering, freed_next, gathering_none}

-- ---- the first that does not pass

module _ (q : ℕ → Bool) where
  leading_most : (l : List ℕ) → leading q l ≤ length l
  leading_most [] = omega arith
  leading_most (x ∷ xs) = go (q x) (leading_most xs)
    where
      go : (b : Bool) → leading q xs ≤ length xs → cond b (suc (leading q xs)) zero ≤ suc (length xs)
      go true h = omega arith
      go false h = omega arith

  leading_before : (l : List ℕ) (j : ℕ) → j < leading q l → q (get_or l j 0) ≡ true
  leading_before [] j h = absurd (not-suc-le-zero h)
  leading_before (x ∷ xs) zero h = go (q x) h
    where
      go : (b : Bool) → 0 < cond b (suc (leading q xs)) zero → b ≡ true
      go true h = refl
      go false h = absurd (not-suc-le-zero h)
  leading_before (x ∷ xs) (suc j) h = go (q x) h (leading_before xs j)
    where
      go : (b : Bool) → suc j < cond b (suc (leading q xs)) zero → (j < leading q xs → q (get_or xs j 0) ≡ true) → q (get_or xs j 0) ≡ true
      go true h k = k (le_of_suc-le-suc h)
      go false h k = absurd (not-suc-le-zero h)

  leading_at : (l : List ℕ) → leading q l < length l → q (get_or l (leading q l) 0) ≡ false
  leading_at [] h = absurd (not-suc-le-zero h)
  leading_at (x ∷ xs) h = go (q x) refl h (leading_at xs)
    where
      go : (b : Bool) → q x ≡ b → cond b (suc (leading q xs)) zero < suc (length xs) → (leading q xs < length xs → q (get_or xs (leading q xs) 0) ≡ false)
          → q (get_or (x ∷ xs) (cond b (suc (leading q xs)) zero) 0) ≡ false
      go true e h k = k (le_of_suc-le-suc h)
      go false e h k = e

  module _ (fs : List ℕ) (u : ℕ) (f : u ≤ length fs) where
    -- what the place tells
    pub run_most : (i : ℕ) → i ≤ u → i + leading q (slice i u fs) ≤ u
    run_most i h = omega (arith, leading_most (slice i u fs), length-slice i u fs f)

    flag_at : (i j : ℕ) → i + j < u → get_or (slice i u fs) j 0 ≡ get_or fs (i + j) 0
    flag_at i j h = get_or-drop i (take u fs) j 0 ∙ get_or-take u fs (i + j) 0 h

    run_before : (i j : ℕ) → i ≤ u → i + j < i + leading q (slice i u fs) → q (get_or fs (i + j) 0) ≡ true
    run_before i j h k =
        ap q (sym (flag_at i j (omega (arith, run_most i h)))) ∙ leading_before (slice i u fs) j (omega arith)

    run_at : (i : ℕ) → i + leading q (slice i u fs) < u → q (get_or fs (i + leading q (slice i u fs)) 0) ≡ false
    run_at i h =
        ap q (sym (flag_at i (leading q (slice i u fs)) h)) ∙ leading_at (slice i u fs) (omega (arith, length-slice i u fs f))

pub twice : (b : Bool) → b ≡ not (not b)
twice true = refl
twice false = refl

-- the first that passes another test, as `position` tells it
module _ (q p : ℕ → Bool) (opposite : (x : ℕ) → q x ≡ not (p x)) (fs : List ℕ) (i u : ℕ) (h : i ≤ u) (f : u ≤ length fs) (r : Option ℕ) where
  place : ℕ
  place = position_or_len p (take (u - i) (drop i fs))

  leading_place : leading q (slice i u fs) ≡ place
  unfolding place
  leading_place = ap (leading q) (drop-take i u fs) ∙ is_position_or_len (leading q) p refl step (take (u - i) (drop i fs))
    where
      step : (x : ℕ) (xs : List ℕ) → leading q (x ∷ xs) ≡ cond (p x) 0 (1 + leading q xs)
      step x xs = rw (opposite x) (go (p x))
        where
          go : (b : Bool) → cond (not b) (suc (leading q xs)) zero ≡ cond b 0 (1 + leading q xs)
          go true = refl
          go false = omega arith

  module _ (e : r ≡ cond (ltb (position_or_len p (take (u - i) (drop i fs))) (length (take (u - i) (drop i fs)))) (Some (position_or_len p (take (u - i) (drop i fs)))) None) where
    pub run_found : (k : ℕ) → r ≡ Some k → (i + k ≡ i + leading q (slice i u fs)) × ((i ≤ i + k) × (i + k ≤ u))
    unfolding place
    run_found k g = go (ltb place (length (take (u - i) (drop i fs)))) refl (sym e ∙ g)
      where
        go : (b : Bool) → ltb place (length (take (u - i) (drop i fs))) ≡ b → cond b (Some place) None ≡ Some k → (i + k ≡ i + leading q (slice i u fs)) × ((i ≤ i + k) × (i + k ≤ u))
        go true l s =
            let m : place ≡ k = cc in
            let n = ltb-true place (length (take (u - i) (drop i fs))) l in
            (omega (arith, leading_place), (omega arith, omega (arith, length_part fs i u f)))
        go false l s = cc

    pub run_over : r ≡ None → (u ≡ i + leading q (slice i u fs)) × ((i ≤ u) × (u ≤ u))
    unfolding place
    run_over g = go (ltb place (length (take (u - i) (drop i fs)))) refl (sym e ∙ g)
      where
        go : (b : Bool) → ltb place (length (take (u - i) (drop i fs))) ≡ b → cond b (Some place) None ≡ None → (u ≡ i + leading q (slice i u fs)) × ((i ≤ u) × (u ≤ u))
        go true l s = cc
        go false l s = (omega (arith, leading_place, ltb-false place (length (take (u - i) (drop i fs))) l, length_part fs i u f, run_most q fs u f i h), (h, omega arith))

-- ---- rows together

-- whether the row at a place stays
abbrev stays : List ℕ → Table → ℕ → Bool
stays fs t i = not (is_free (get_or t i [])) && eqb (get_or fs i 0) 0

-- what is still to come at a place
abbrev coming : ℕ → List ℕ → Table → ℕ → List Row
coming w fs t i = used_rows (free_flagged w (drop i fs) (drop i t))

module _ (w : ℕ) (fs : List ℕ) (t : Table) where
  later : (i m : ℕ) (b : Bool) → ((j : ℕ) → j < suc m → stays fs t (i + j) ≡ b) → (j : ℕ) → j < m → stays fs t (suc i + j) ≡ b
  later i m b a j h = ap (stays fs t) (let e : suc i + j ≡ i + suc j = omega arith in e) ∙ a (suc j) (omega arith)

  first : (i m : ℕ) (b : Bool) → ((j : ℕ) → j < suc m → stays fs t (i + j) ≡ b) → stays fs t i ≡ b
  first i m b a = ap (stays fs t) (sym (add-zero i)) ∙ a 0 (omega arith)

  coming_run : (m i : ℕ) → i + m ≤ length t → ((j : ℕ) → j < m → stays fs t (i + j) ≡ true) → coming w fs t i ≡ take m (drop i t) ++ coming w fs t (i + m)
  coming_run zero i h a = ap (coming w fs t) (sym (add-zero i))
  coming_run (suc m) i h a =
      freed_next w fs t i (omega arith)
      ∙ ap (λ (b : Bool). cond b (get_or t i [] ∷ coming w fs t (suc i)) (coming w fs t (suc i))) (first i m true a)
      ∙ ap (λ (l : List Row). get_or t i [] ∷ l) (coming_run m (suc i) (omega arith) (later i m true a))
      ∙ ap₂ (λ (x : List Row) (y : ℕ). take (suc m) x ++ coming w fs t y) (sym (drop-cons t i [] (omega arith))) (let e : suc i + m ≡ i + suc m = omega arith in e)

  coming_gone : (m i : ℕ) → i + m ≤ length t → ((j : ℕ) → j < m → stays fs t (i + j) ≡ false) → coming w fs t i ≡ coming w fs t (i + m)
  coming_gone zero i h a = ap (coming w fs t) (sym (add-zero i))
  coming_gone (suc m) i h a =
      freed_next w fs t i (omega arith)
      ∙ ap (λ (b : Bool). cond b (get_or t i [] ∷ coming w fs t (suc i)) (coming w fs t (suc i))) (first i m false a)
      ∙ coming_gone m (suc i) (omega arith) (later i m false a)
      ∙ ap (coming w fs t) (let e : suc i + m ≡ i + suc m = omega arith in e)

module _ (w : ℕ) (fs : List ℕ) (t₀ : Table) where
  rest_later : (i m : ℕ) (t : Table) → drop i t ≡ drop i t₀ → drop (i + m) t ≡ drop (i + m) t₀
  rest_later i m t e = sym (drop-drop m i t) ∙ ap (drop m) e ∙ drop-drop m i t₀

  module _ (i k : ℕ) (t : Table) (g : Gathering w fs t₀ i k t) (m : ℕ) (h : i + m ≤ length t₀) where
    gathering_run : ((j : ℕ) → j < m → stays fs t₀ (i + j) ≡ true) → Gathering w fs t₀ (i + m) (k + m) (moved t i m k)
    gathering_run a =
        let f = g.few in
        let z = g.size in
        let d : i ≡ k + (i - k) = omega arith in
        record {
          size = length_moved t i m k (omega arith) (omega arith) ∙ g.size;
          few = omega arith;
          kept = ap (λ (l : List Row). l ++ coming w fs t₀ (i + m)) (take-moved_all t i m k (omega arith) (omega arith))
              ∙ append_assoc (take k t) (take m (drop i t)) (coming w fs t₀ (i + m))
              ∙ ap (λ (l : Table). take k t ++ (take m l ++ coming w fs t₀ (i + m))) g.rest
              ∙ ap (λ (l : List Row). take k t ++ l) (sym (coming_run w fs t₀ m i h a)) ∙ g.kept;
          rest = ap (λ (x : ℕ). drop x (moved t i m k)) (let e : i + m ≡ k + m + (i - k) = omega arith in e)
              ∙ sym (drop-drop (i - k) (k + m) (moved t i m k)) ∙ ap (drop (i - k)) (drop-moved t i m k (omega arith) (omega arith)) ∙ drop-drop (i - k) (k + m) t
              ∙ ap (λ (x : ℕ). drop x t) (let e : k + m + (i - k) ≡ i + m = omega arith in e) ∙ rest_later i m t g.rest;
        }

    gathering_gone : ((j : ℕ) → j < m → stays fs t₀ (i + j) ≡ false) → Gathering w fs t₀ (i + m) k t
    gathering_gone a =
        let f = g.few in
        record {
          size = g.size;
          few = omega arith;
          kept = ap (λ (l : List Row). take k t ++ l) (sym (coming_gone w fs t₀ m i h a)) ∙ g.kept;
          rest = rest_later i m t g.rest;
        }

-- ---- closing up, run by run

-- the first i rows are brought together, and the row at i goes
pub record Closing (w : ℕ) (fs : List ℕ) (u : ℕ) (t₀ : Table) (i k : ℕ) (t : Table) : Type 0 where
  pub gathering : Gathering w fs t₀ i k t
  pub most : i ≤ u
  pub gap : i < u → eqb (get_or fs i 0) 0 ≡ false

goes : (a b : Bool) → b ≡ false → (a && b) ≡ false
goes true b e = e
goes false b e = refl

set_flag : (b : Bool) → not b ≡ true → b ≡ false
set_flag true e = sym e
set_flag false e = refl

module _ (w : ℕ) (fs : List ℕ) (u : ℕ) (t₀ : Table) (f : u ≤ length fs) (h : u ≤ length t₀) (used : (j : ℕ) → j < u → is_free (get_or t₀ j []) ≡ false) where
  -- the rows from i to the next flagged one stay
  staying : (i j : ℕ) → i ≤ u → i + j < next_flagged fs i u → stays fs t₀ (i + j) ≡ true
  staying i j l k =
      rw (used (i + j) (omega (arith, run_most (λ f. eqb f 0) fs u f i l))) (run_before (λ f. eqb f 0) fs u f i j l k)

  pub closing_start : (i : ℕ) → i ≡ next_flagged fs 0 u → Closing w fs u t₀ i i t₀
  closing_start i e =
      let m : ℕ = leading (λ f. eqb f 0) (slice 0 u fs) in
      let l = run_most (λ f. eqb f 0) fs u f 0 (omega arith) in
      let same : moved t₀ 0 m 0 ≡ t₀ = ap (λ (n : ℕ). take m t₀ ++ drop n t₀) (let z : 0 + m ≡ m = omega arith in z) ∙ take-append-drop m t₀ in
      rw e
      record {
        gathering = subst (λ (t : Table). Gathering w fs t₀ (0 + m) (0 + m) t) same
            (gathering_run w fs t₀ 0 0 t₀ (gathering_none w fs t₀) m (omega arith) (λ j k. staying 0 j (omega arith) (omega arith)));
        most = l;
        gap = run_at (λ f. eqb f 0) fs u f 0;
      }

  module _ (i k : ℕ) (t : Table) (c : Closing w fs u t₀ i k t) (l : i < u) (s e : ℕ) (p : s ≡ next_staying fs (i + 1) u) (r : e ≡ next_flagged fs s u) where
    -- the rows from i to the next that stays go
    going : (j : ℕ) → j < s - i → stays fs t₀ (i + j) ≡ false
    going zero a = ap (stays fs t₀) (add-zero i) ∙ goes (not (is_free (get_or t₀ i []))) (eqb (get_or fs i 0) 0) (c.gap l)
    going (suc j) a =
        ap (stays fs t₀) (let z : i + suc j ≡ i + 1 + j = omega arith in z)
        ∙ goes (not (is_free (get_or t₀ (i + 1 + j) []))) (eqb (get_or fs (i + 1 + j) 0) 0)
        (set_flag (eqb (get_or fs (i + 1 + j) 0) 0) (run_before (λ f. not (eqb f 0)) fs u f (i + 1) j (omega arith) (omega arith)))

    pub closing_turn : (t' : Table) → t' ≡ moved t s (e - s) k → Closing w fs u t₀ e (k + (e - s)) t'
    closing_turn t' q =
        let g = c.gathering in
        let b = g.few in
        let m = run_most (λ f. not (eqb f 0)) fs u f (i + 1) (omega arith) in
        let n = run_most (λ f. eqb f 0) fs u f s (omega arith) in
        let x : i + (s - i) ≡ s = omega arith in
        let y : s + (e - s) ≡ e = omega arith in
        let gone : Gathering w fs t₀ s k t = subst (λ (a : ℕ). Gathering w fs t₀ a k t) x (gathering_gone w fs t₀ i k t g (s - i) (omega arith) going) in
        let run : Gathering w fs t₀ (s + (e - s)) (k + (e - s)) (moved t s (e - s) k) =
        gathering_run w fs t₀ s k t gone (e - s) (omega arith) (λ j a. staying s j (omega arith) (omega arith)) in
        record {
          gathering = subst (λ (a : ℕ). Gathering w fs t₀ a (k + (e - s)) t') y
              (subst (λ (a : Table). Gathering w fs t₀ (s + (e - s)) (k + (e - s)) a) (sym q) run);
          most = omega arith;
          gap = subst (λ (a : ℕ). a < u → eqb (get_or fs a 0) 0 ≡ false) (sym r) (run_at (λ f. eqb f 0) fs u f s);
        }
