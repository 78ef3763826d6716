-- The flags of the texts that first stand before a place, one after the other.
use Prim.Native.Nat.{ℕ, zero, suc, ◌+◌, ◌-◌, ◌≤◌, ◌<◌}
use mathlib.Core.Path.{◌≡◌, refl, sym, ap, ap₂, ◌∙◌}
use mathlib.Core.List.{List, [], ◌∷◌, ◌++◌}
use native.Mathlib.Nat.{not-suc-le-zero, le_of_suc-le-suc}
use native.Mathlib.Numerals.{add-one}
use native.Mathlib.Omega.{arith}
use lib.Dec.{ltb}
use lib.ListN.{length, get_or, take, drop, set, length-set, take-append-drop}
use lib.Seq.{take-suc, take-suc-set, drop-drop, drop-set-lt}
use Rattle.table.specs.Lists.{bit}
use Rattle.firsts.specs.Flags.{flags_under}

-- behind a place lists are equal that are so from an earlier one on
pub drop_past : (a b : List ℕ) (e n : ℕ) → e ≤ n → drop e a ≡ drop e b → drop n a ≡ drop n b
drop_past a b e n h p =
    let z : e + (n - e) ≡ n = omega arith in
    ap (λ (m : ℕ). drop m a) (sym z) ∙ sym (drop-drop (n - e) e a) ∙ ap (drop (n - e)) p ∙ drop-drop (n - e) e b ∙ ap (λ (m : ℕ). drop m b) z

module _ (upto : ℕ) where
  under_append : (a b : List ℕ) → flags_under upto (a ++ b) ≡ flags_under upto a ++ flags_under upto b
  under_append [] b = refl
  under_append (x ∷ xs) b = ap (λ (l : List ℕ). bit (ltb x upto) ∷ l) (under_append xs b)

  pub under_length : (l : List ℕ) → length (flags_under upto l) ≡ length l
  under_length [] = refl
  under_length (x ∷ xs) = ap suc (under_length xs)

  pub under_at : (l : List ℕ) (i : ℕ) → i < length l → get_or (flags_under upto l) i 0 ≡ bit (ltb (get_or l i 0) upto)
  under_at [] i h = absurd (not-suc-le-zero h)
  under_at (x ∷ xs) zero h = refl
  under_at (x ∷ xs) (suc i) h = under_at xs i (le_of_suc-le-suc h)

  module _ (first fs₀ : List ℕ) where
    pub record Marking (i : ℕ) (fs : List ℕ) : Type 0 where
      pub size : length fs ≡ length fs₀
      pub told : take i fs ≡ flags_under upto (take i first)
      pub rest : drop i fs ≡ drop i fs₀

    pub marking_none : Marking 0 fs₀
    marking_none = record { size = refl; told = refl; rest = refl }

    pub marking_turn : (i : ℕ) (fs : List ℕ) → Marking i fs → i < length first → i < length fs₀ → (x : ℕ) → x ≡ bit (ltb (get_or first i 0) upto) → Marking (i + 1) (set fs i x)
    marking_turn i fs m h k x e = record {
      size = length-set fs i x ∙ m.size;
      told = ap (λ (j : ℕ). take j (set fs i x)) (add-one i) ∙ take-suc-set fs i x (omega (arith, m.size))
          ∙ ap₂ (λ (l : List ℕ) (y : ℕ). l ++ (y ∷ [])) m.told e ∙ sym (under_append (take i first) (get_or first i 0 ∷ []))
          ∙ sym (ap (flags_under upto) (ap (λ (j : ℕ). take j first) (add-one i) ∙ take-suc first i 0 h));
      rest = drop-set-lt (i + 1) fs i x (omega arith) ∙ drop_past fs fs₀ i (i + 1) (omega arith) m.rest;
    }

    pub marking_all : (i : ℕ) (fs : List ℕ) → Marking i fs → (n : ℕ) → i ≡ n → fs ≡ flags_under upto (take n first) ++ drop n fs₀
    marking_all i fs m n e =
        sym (take-append-drop i fs) ∙ ap₂ (λ (a b : List ℕ). a ++ b) m.told m.rest ∙ ap (λ (j : ℕ). flags_under upto (take j first) ++ drop j fs₀) e
