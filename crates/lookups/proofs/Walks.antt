-- A walk goes on from where it stands: what is left decides. The row of the last number held is held. Places are noted one by one, and
-- rows looked at are added up lookup by lookup.
use Prim.Native.Nat.{ℕ, zero, suc, ◌+◌, ◌-◌, ◌≤◌, ◌<◌, min}
use mathlib.Core.Path.{◌≡◌, refl, sym, ap, ap₂, ◌∙◌}
use mathlib.Core.Bool.{Bool, true, false, cond}
use mathlib.Core.List.{List, [], ◌∷◌, ◌++◌, append_assoc}
use native.Mathlib.Nat.{not-suc-le-zero, zero-add, add-zero, mul-le-mul_right}
use native.Mathlib.Numerals.{add-one}
use native.Mathlib.Omega.{arith}
use borrow.Author.Tests.{lt-ltb, le-ltb}
use lib.ListN.{length, length-append, length-drop, get_or, drop, set}
use lib.Seq.{drop-cons, set_at}
use Rattle.table.specs.Table.{Table, place_of}
use Rattle.table.specs.Order.{used_rows}
use Rattle.table.specs.Looked.{looked_at}
use Rattle.table.proofs.Walk.{place_holds}
use Rattle.table.proofs.Order.{rows_counted}
use Rattle.table.proofs.Looked.{looked_most}
use Rattle.scheme.specs.Reading.{walk}
use Rattle.scheme.specs.RowsRead.{looked_over}
use Rattle.scheme.proofs.RowsRead.{over_most, over_next}
use Rattle.lookups.specs.Walks.{held_in, last_place, places_of, noted, tallied_by}
use Rattle.lookups.specs.declared.Lookup.{Lookup}
use Rattle.lookups.specs.declared.Lookup.TheVariants.{Search, Walk}

module _ (held : ℕ → Bool) where
  walk_more : (left n : ℕ) → 0 < left → held (n + 1) ≡ true → walk held left n ≡ suc (walk held (left - 1) (n + 1))
  walk_more zero n p e = absurd (not-suc-le-zero p)
  walk_more (suc m) n p e =
      ap (λ (b : Bool). cond b (suc (walk held m (suc n))) zero) (sym (ap held (add-one n)) ∙ e)
      ∙ ap₂ (λ (l j : ℕ). suc (walk held l j)) (let l : m ≡ suc m - 1 = omega arith in l) (sym (add-one n))

  walk_stop : (left n : ℕ) → held (n + 1) ≡ false → walk held left n ≡ 0
  walk_stop zero n e = refl
  walk_stop (suc m) n e = ap (λ (b : Bool). cond b (suc (walk held m (suc n))) zero) (sym (ap held (add-one n)) ∙ e)

  walk_end : (left n : ℕ) → left ≤ 0 → walk held left n ≡ 0
  walk_end zero n p = refl
  walk_end (suc m) n p = absurd (not-suc-le-zero p)

  pub walk-le : (bound i : ℕ) → walk held bound i ≤ bound
  walk-le zero i = omega arith
  walk-le (suc bound) i = go (held (suc i)) (walk-le bound (suc i))
    where
      go : (b : Bool) → walk held bound (suc i) ≤ bound → cond b (suc (walk held bound (suc i))) zero ≤ suc bound
      go true h = omega arith
      go false h = omega arith

  pub walk_held : (bound i k : ℕ) → walk held bound i ≡ suc k → held (i + suc k) ≡ true
  walk_held zero i k e = absurd (omega arith)
  walk_held (suc bound) i k e = go (held (suc i)) refl e (walk_held bound (suc i))
    where
      go : (b : Bool) → held (suc i) ≡ b → cond b (suc (walk held bound (suc i))) zero ≡ suc k
          → ((j : ℕ) → walk held bound (suc i) ≡ suc j → held (suc i + suc j) ≡ true) → held (i + suc k) ≡ true
      go false h w f = absurd (omega arith)
      go true h w f = at k (omega arith)
        where
          at : (j : ℕ) → walk held bound (suc i) ≡ j → held (i + suc j) ≡ true
          at zero z = ap held (let n : i + suc zero ≡ suc i = omega arith in n) ∙ h
          at (suc j) z = ap held (let n : i + suc (suc j) ≡ suc i + suc j = omega arith in n) ∙ f j z

-- k of the numbers after i were held, at most c - k more are to be looked up, and the last row stands at a place
pub record Walked (tag : ℕ → List ℕ) (t : Table) (c i k at : ℕ) : Type 0 where
  pub bound : k ≤ c
  pub total : k + walk (held_in tag t) (c - k) (i + k) ≡ walk (held_in tag t) c i
  pub place : at ≡ last_place tag t i k

module _ (tag : ℕ → List ℕ) (t : Table) (c i : ℕ) where
  pub walked_none : c ≡ length t → Walked tag t c i 0 c
  unfolding last_place
  walked_none e =
      let n : c - 0 ≡ c = omega arith in
      record { bound = omega arith; total = zero-add _ ∙ ap₂ (walk (held_in tag t)) n (add-zero i); place = e }

  module _ (k at : ℕ) (w : Walked tag t c i k at) where
    module _ (j : ℕ) (found : j ≡ place_of (tag (i + k + 1)) t) where
      pub walked_more : k < c → j < length t → Walked tag t c i (k + 1) j
      unfolding last_place
      walked_more p h =
          let s = w.total in
          let e = walk_more (held_in tag t) (c - k) (i + k) (omega arith) (place_holds (tag (i + k + 1)) t ∙ lt-ltb (place_of (tag (i + k + 1)) t) (length t) (omega arith)) in
          let a : walk (held_in tag t) (c - (k + 1)) (i + (k + 1)) ≡ walk (held_in tag t) (c - k - 1) (i + k + 1) =
          ap₂ (walk (held_in tag t)) (let l : c - (k + 1) ≡ c - k - 1 = omega arith in l) (let n : i + (k + 1) ≡ i + k + 1 = omega arith in n) in
          record {
            bound = omega arith;
            total = omega arith;
            place = found ∙ ap (λ (n : ℕ). place_of (tag n) t) (let n : i + k + 1 ≡ i + suc k = omega arith in n) ∙ ap (last_place tag t i) (sym (add-one k));
          }

      pub walked_stop : length t ≤ j → (k ≡ walk (held_in tag t) c i) × (at ≡ last_place tag t i k)
      walked_stop h =
          let s = w.total in
          let e = walk_stop (held_in tag t) (c - k) (i + k) (place_holds (tag (i + k + 1)) t ∙ le-ltb (place_of (tag (i + k + 1)) t) (length t) (omega arith)) in
          (omega arith, w.place)

    pub walked_end : c ≤ k → (c ≡ walk (held_in tag t) c i) × (at ≡ last_place tag t i c)
    walked_end h =
        let s = w.total in
        let b = w.bound in
        let e = walk_end (held_in tag t) (c - k) (i + k) (omega arith) in
        (omega arith, w.place ∙ ap (last_place tag t i) (let n : k ≡ c = omega arith in n))

-- ---- places

module _ (tag : ℕ → List ℕ) (t : Table) where
  places_length : (i k : ℕ) → length (places_of tag t i k) ≡ k
  places_length i zero = refl
  places_length i (suc k) = ap suc (places_length (suc i) k)

  places_next : (i k : ℕ) → places_of tag t i (suc k) ≡ places_of tag t i k ++ (place_of (tag (i + k + 1)) t ∷ [])
  places_next i zero = ap (λ (n : ℕ). place_of (tag n) t ∷ []) (let e : suc i ≡ i + 0 + 1 = omega arith in e)
  places_next i (suc k) =
      ap (λ (l : List ℕ). place_of (tag (suc i)) t ∷ l)
      (places_next (suc i) k ∙ ap (λ (n : ℕ). places_of tag t (suc i) k ++ (place_of (tag n) t ∷ [])) (let e : suc i + k + 1 ≡ i + suc k + 1 = omega arith in e))

  module _ (i k : ℕ) (old list : List ℕ) (e : list ≡ noted tag t i k old) where
    pub noted_length : k ≤ length old → length list ≡ length old
    noted_length h =
        ap length e ∙ length-append (places_of tag t i k) (drop k old) ∙ omega (arith, places_length i k, length-drop k old)

    pub noted_more : k < length old → (j : ℕ) → j ≡ place_of (tag (i + k + 1)) t → set list k j ≡ noted tag t i (k + 1) old
    noted_more h j f =
        ap₂ (λ (l : List ℕ) (x : ℕ). set l k x) (e ∙ ap (λ (l : List ℕ). places_of tag t i k ++ l) (drop-cons old k 0 h)) f
        ∙ set_at (places_of tag t i k) (get_or old k 0) (drop (suc k) old) (place_of (tag (i + k + 1)) t) k (places_length i k)
        ∙ sym (append_assoc (places_of tag t i k) (place_of (tag (i + k + 1)) t ∷ []) (drop (suc k) old))
        ∙ ap (λ (l : List ℕ). l ++ drop (suc k) old) (sym (places_next i k)) ∙ ap (λ (n : ℕ). noted tag t i n old) (sym (add-one k))

-- ---- rows looked at

pub tallied_sum : (by : Lookup) (a b : ℕ) → tallied_by by a + tallied_by by b ≡ tallied_by by (a + b)
tallied_sum Search a b = omega arith
tallied_sum Walk a b = refl

pub tally_none : (by : Lookup) → 0 ≡ tallied_by by 0
tally_none Search = refl
tally_none Walk = refl

pub tallied_most : (by : Lookup) (n : ℕ) → tallied_by by n ≤ n
tallied_most Search n = omega arith
tallied_most Walk n = omega arith

module _ (by : Lookup) (tag : ℕ → List ℕ) (t : Table) (i : ℕ) where
  -- one lookup more
  pub tally_more : (k n more : ℕ) → n ≡ tallied_by by (looked_over tag t i k) → more ≡ tallied_by by (looked_at (tag (i + k + 1)) t) → n + more ≡ tallied_by by (looked_over tag t i (k + 1))
  tally_more k n more e f =
      ap₂ (λ (a b : ℕ). a + b) e (f ∙ ap (λ (j : ℕ). tallied_by by (looked_at (tag j) t)) (let s : i + k + 1 ≡ i + suc k = omega arith in s))
      ∙ tallied_sum by (looked_over tag t i k) (looked_at (tag (i + suc k)) t)
      ∙ ap (tallied_by by) (sym (over_next tag t i k)) ∙ ap (λ (j : ℕ). tallied_by by (looked_over tag t i j)) (sym (add-one k))

  -- the lookup that finds nothing is the last; where all c are held there is none
  pub tally_stop : (k c n : ℕ) → k < c → n ≡ tallied_by by (looked_over tag t i (k + 1)) → n ≡ tallied_by by (looked_over tag t i (min (suc k) c))
  tally_stop k c n h e = e ∙ ap (λ (j : ℕ). tallied_by by (looked_over tag t i j)) (let m : k + 1 ≡ min (suc k) c = omega arith in m)

  pub tally_end : (k c n : ℕ) → k ≡ c → n ≡ tallied_by by (looked_over tag t i k) → n ≡ tallied_by by (looked_over tag t i (min (suc c) c))
  tally_end k c n h e = e ∙ ap (λ (j : ℕ). tallied_by by (looked_over tag t i j)) (let m : k ≡ min (suc c) c = omega arith in m)

  module _ (h : length t ≤ 4096) where
    pub tally_small : (k n : ℕ) → k ≤ 4096 → n ≡ tallied_by by (looked_over tag t i k) → n ≤ 16777216
    tally_small k n l e =
        omega (arith, tallied_most by (looked_over tag t i k), over_most tag t i k, rows_counted t, mul-le-mul_right k (let m : length (used_rows t) ≤ 4096 = omega (arith, rows_counted t) in m))

    pub more_small : (k more : ℕ) → more ≡ tallied_by by (looked_at (tag k) t) → more ≤ 4096
    more_small k more e = omega (arith, tallied_most by (looked_at (tag k) t), looked_most (tag k) t, rows_counted t)
