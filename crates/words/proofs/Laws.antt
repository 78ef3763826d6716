-- Laws of words: one that is a name or is not, and one read as a decimal from the front.
use Prim.Native.Nat.{ℕ, suc, ◌+◌, ◌≤◌, ◌<◌}
use mathlib.Core.Path.{◌≡◌, refl, sym, ap, ◌∙◌}
use mathlib.Core.Bool.{false, and-false}
use mathlib.Core.List.{List, [], ◌∷◌}
use native.Mathlib.Omega.{arith}
use native.Mathlib.Numerals.{add-one}
use lib.Dec.{eqb}
use lib.ListN.{length, get_or, drop, drop_of_length-le}
use lib.Seq.{drop-cons}
use Rattle.std.specs.Prelude.{Option, Some, None}
use Rattle.octets.specs.Compare.{same}
use Rattle.words.specs.Decimal.{step_of, further, decimal_of}

-- texts of two lengths differ
pub differ : (a b : List ℕ) → (length a ≡ length b → ⊥) → same a b ≡ false
differ [] [] h = absurd (h refl)
differ [] (y ∷ b) h = refl
differ (x ∷ a) [] h = refl
differ (x ∷ a) (y ∷ b) h = rw (differ a b (λ e. h (ap suc e))) (and-false (eqb x y))

-- a word read as a decimal: no digit, the first, one more, one that is none, the end
pub no_digit : (w : List ℕ) → length w < 1 → None ≡ decimal_of w
unfolding decimal_of
no_digit [] h = refl
no_digit (b ∷ bs) h = absurd (omega arith)

pub first_digit : (w : List ℕ) → 1 ≤ length w → further (Some 0) w ≡ decimal_of w
unfolding decimal_of
first_digit [] h = absurd (omega arith)
first_digit (b ∷ bs) h = refl

pub next_digit : (w : List ℕ) (z : Option ℕ) (n m i : ℕ) → i < length w → Some m ≡ step_of n (get_or w i 0) → further (Some n) (drop i w) ≡ z
    → further (Some m) (drop (i + 1) w) ≡ z
unfolding further
next_digit w z n m i h e t =
    rw (add-one, e) (sym (ap (further (Some n)) (drop-cons w i 0 h)) ∙ t)

-- no further digit makes a number of what is none
pub no_number : (bs : List ℕ) → further None bs ≡ None
unfolding further
no_number bs = refl

pub bad_digit : (w : List ℕ) (z : Option ℕ) (n i : ℕ) → i < length w → None ≡ step_of n (get_or w i 0) → further (Some n) (drop i w) ≡ z → None ≡ z
unfolding further
bad_digit w z n i h e t =
    sym (no_number (drop (suc i) w)) ∙ ap (λ (p : Option ℕ). further p (drop (suc i) w)) e ∙ sym (ap (further (Some n)) (drop-cons w i 0 h)) ∙ t

pub no_more : (w : List ℕ) (z : Option ℕ) (n i : ℕ) → length w ≤ i → further (Some n) (drop i w) ≡ z → Some n ≡ z
unfolding further
no_more w z n i h t = sym (ap (further (Some n)) (drop_of_length-le w h)) ∙ t
