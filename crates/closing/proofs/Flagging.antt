-- Rows that start with a key are flagged one after the other: no row before the first passes, and none from the first on that fails.
use Prim.Native.Nat.{ℕ, zero, suc, ◌+◌, ◌-◌, ◌≤◌, ◌<◌}
use mathlib.Core.Path.{◌≡◌, refl, sym, ap, ◌∙◌}
use mathlib.Core.Bool.{Bool, true, false, cond, not, ◌&&◌, true≢false}
use mathlib.Core.List.{List, [], ◌∷◌}
use native.Mathlib.Nat.{not-suc-le-zero, le_of_suc-le-suc}
use native.Mathlib.Numerals.{add-one}
use native.Mathlib.Omega.{arith}
use lib.ListN.{length, get_or, take, drop, set, length-drop}
use lib.Seq.{drop-cons, get_or-drop}
use Rattle.table.specs.Lists.{count}
use Rattle.table.specs.Table.{Table, is_free, body, used}
use Rattle.closing.specs.Flags.{flagged}
use Rattle.closing.proofs.Flags.{flagged-length}

module _ (q : List ℕ → Bool) where
  -- no row passes
  flagged_none : (t : Table) (fs : List ℕ) → ((j : ℕ) → j < length t → (not (is_free (get_or t j [])) && q (body (get_or t j []))) ≡ false) → flagged q t fs ≡ fs
  flagged_none [] fs n = refl
  flagged_none (r ∷ rs) [] n = refl
  flagged_none (r ∷ rs) (f ∷ fs) n = rw (n 0 (omega arith)) (ap (λ (l : List ℕ). f ∷ l) (flagged_none rs fs (λ j h. n (suc j) (omega arith))))

  count_none : (t : Table) → ((j : ℕ) → j < length t → (not (is_free (get_or t j [])) && q (body (get_or t j []))) ≡ false) → count q (used t) ≡ 0
  count_none [] n = refl
  count_none (r ∷ rs) n = go (is_free r) (n 0 (omega arith)) (count_none rs (λ j h. n (suc j) (omega arith)))
    where
      go : (b : Bool) → (not b && q (body r)) ≡ false → count q (used rs) ≡ 0 → count q (cond b (used rs) (body r ∷ used rs)) ≡ 0
      go true e k = k
      go false e k = rw e (omega arith)

  -- none of the first i rows passes
  flagged_before : (i : ℕ) (t : Table) (fs : List ℕ) → ((j : ℕ) → j < i → (not (is_free (get_or t j [])) && q (body (get_or t j []))) ≡ false) → flagged q (take i t) fs ≡ fs
  flagged_before zero t fs n = refl
  flagged_before (suc i) [] fs n = refl
  flagged_before (suc i) (r ∷ rs) [] n = refl
  flagged_before (suc i) (r ∷ rs) (f ∷ fs) n = rw (n 0 (omega arith)) (ap (λ (l : List ℕ). f ∷ l) (flagged_before i rs fs (λ j h. n (suc j) (omega arith))))

  count_before : (i : ℕ) (t : Table) → ((j : ℕ) → j < i → (not (is_free (get_or t j [])) && q (body (get_or t j []))) ≡ false) → count q (used (drop i t)) ≡ count q (used t)
  count_before zero t n = refl
  count_before (suc i) [] n = refl
  count_before (suc i) (r ∷ rs) n = go (is_free r) (n 0 (omega arith)) (count_before i rs (λ j h. n (suc j) (omega arith)))
    where
      go : (b : Bool) → (not b && q (body r)) ≡ false → count q (used (drop i rs)) ≡ count q (used rs) → count q (used (drop i rs)) ≡ count q (cond b (used rs) (body r ∷ used rs))
      go true e k = k
      go false e k = rw e (omega arith)

  -- the next row passes
  flagged_next : (i : ℕ) (t : Table) (fs : List ℕ) → i < length t → (not (is_free (get_or t i [])) && q (body (get_or t i []))) ≡ true → set (flagged q (take i t) fs) i 1 ≡ flagged q (take (suc i) t) fs
  flagged_next i [] fs h e = absurd (not-suc-le-zero h)
  flagged_next zero (r ∷ rs) [] h e = refl
  flagged_next zero (r ∷ rs) (f ∷ fs) h e = rw e refl
  flagged_next (suc i) (r ∷ rs) [] h e = refl
  flagged_next (suc i) (r ∷ rs) (f ∷ fs) h e = ap (λ (l : List ℕ). cond (not (is_free r) && q (body r)) 1 f ∷ l) (flagged_next i rs fs (le_of_suc-le-suc h) e)

  count_next : (i : ℕ) (t : Table) → i < length t → (not (is_free (get_or t i [])) && q (body (get_or t i []))) ≡ true → count q (used (drop i t)) ≡ 1 + count q (used (drop (i + 1) t))
  count_next i t h e = rw (add-one i, drop-cons t i [] h) (go (is_free (get_or t i [])) e)
    where
      go : (b : Bool) → (not b && q (body (get_or t i []))) ≡ true → count q (cond b (used (drop (suc i) t)) (body (get_or t i []) ∷ used (drop (suc i) t))) ≡ 1 + count q (used (drop (suc i) t))
      go true e = absurd (true≢false (sym e))
      go false e = rw e refl

  -- no row from i on passes
  flagged_after : (i : ℕ) (t : Table) (fs : List ℕ) → ((j : ℕ) → i ≤ j → j < length t → (not (is_free (get_or t j [])) && q (body (get_or t j []))) ≡ false) → flagged q (take i t) fs ≡ flagged q t fs
  flagged_after zero t fs n = sym (flagged_none t fs (λ j h. n j (omega arith) h))
  flagged_after (suc i) [] fs n = refl
  flagged_after (suc i) (r ∷ rs) [] n = refl
  flagged_after (suc i) (r ∷ rs) (f ∷ fs) n =
      ap (λ (l : List ℕ). cond (not (is_free r) && q (body r)) 1 f ∷ l) (flagged_after i rs fs (λ j h k. n (suc j) (omega arith) (omega arith)))

  count_after : (i : ℕ) (t : Table) → ((j : ℕ) → i ≤ j → j < length t → (not (is_free (get_or t j [])) && q (body (get_or t j []))) ≡ false) → count q (used (drop i t)) ≡ 0
  count_after i t n =
      count_none (drop i t)
      (λ j h. rw (get_or-drop i t j []) (n (i + j) (omega arith) (omega (arith, length-drop i t))))

  -- the rows of t from a place to i are flagged, and no other passed before i
  pub record Flagging (t : Table) (fs₀ : List ℕ) (from i : ℕ) (fs : List ℕ) : Type 0 where
    pub flags : fs ≡ flagged q (take i t) fs₀
    pub counted : i - from + count q (used (drop i t)) ≡ count q (used t)
    pub past : from ≤ i

  module _ (t : Table) (fs₀ : List ℕ) (from : ℕ) where
    pub flagging_none : ((j : ℕ) → j < from → (not (is_free (get_or t j [])) && q (body (get_or t j []))) ≡ false) → Flagging t fs₀ from from fs₀
    flagging_none n =
        record { flags = sym (flagged_before from t fs₀ n); counted = omega (arith, count_before from t n); past = omega arith }

    module _ (i : ℕ) (fs : List ℕ) (g : Flagging t fs₀ from i fs) where
      pub flagging_size : length fs ≡ length fs₀
      flagging_size = ap length g.flags ∙ flagged-length q (take i t) fs₀

      pub flagging_turn : i < length t → (not (is_free (get_or t i [])) && q (body (get_or t i []))) ≡ true → Flagging t fs₀ from (i + 1) (set fs i 1)
      flagging_turn h e =
          let p = g.past in
          let c = g.counted in
          record {
            flags = ap (λ (l : List ℕ). set l i 1) g.flags ∙ flagged_next i t fs₀ h e ∙ ap (λ (j : ℕ). flagged q (take j t) fs₀) (sym (add-one i));
            counted = omega (arith, count_next i t h e);
            past = omega arith;
          }

      pub flagging_end : ((j : ℕ) → i ≤ j → j < length t → (not (is_free (get_or t j [])) && q (body (get_or t j []))) ≡ false) → (i - from ≡ count q (used t)) × (fs ≡ flagged q t fs₀)
      flagging_end n = let c = g.counted in (omega (arith, count_after i t n), g.flags ∙ flagged_after i t fs₀ n)
