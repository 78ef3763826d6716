-- The fewest digits of a number are its decimal text.
use Prim.Native.Nat.{ℕ, zero, suc, ◌+◌, ◌-◌, ◌/◌, ◌%◌, ◌^◌, ◌≤◌, ◌<◌}
use mathlib.Core.Path.{◌≡◌, refl, sym, ap, ap₂, ◌∙◌}
use mathlib.Core.Bool.{Bool, true, false, cond}
use mathlib.Core.List.{List, [], ◌∷◌, ◌++◌}
use native.Mathlib.Nat.{pow-succ'}
use native.Mathlib.Omega.{arith}
use lib.Dec.{ltb}
use lib.Pow.{pow-add}
use borrow.Author.Tests.{lt-ltb, le-ltb, ltb-true, ltb-false}
use Rattle.io.specs.Digits.{last_digits, hex_digit_ascii, IsDigitCount}
use Rattle.buffer.specs.Decimal.{spelled, decimal_text}

glyph_is : (n : ℕ) → hex_digit_ascii (n % 10) ≡ 48 + n % 10
glyph_is n = ap (λ b. cond b (48 + n % 10) (87 + n % 10)) (lt-ltb (n % 10) 10 (omega arith))

below_power : (k : ℕ) → k < 10 ^ k
below_power zero = omega arith
below_power (suc k) = omega (arith, below_power k, pow-succ' 10 k)

-- a number of two digits or more
fewest_from : (r n : ℕ) → IsDigitCount 10 1 n (suc (suc r)) → 10 ^ suc r ≤ n
fewest_from r n f =
    let e : suc (suc r) - 1 ≡ suc r = omega arith in
    rw e at (f.2 (omega arith))

-- r digits, with at most k before the last
fewest_spelled : (r k n : ℕ) → r ≤ suc k → IsDigitCount 10 1 n r → last_digits 10 r n ≡ spelled k (ltb n 10) n
unfolding spelled
fewest_spelled zero k n h f = absurd (omega (arith, f.0))
fewest_spelled (suc zero) zero n h f = ap (λ (d : ℕ). d ∷ []) (glyph_is n)
fewest_spelled (suc zero) (suc k) n h f =
    ap (λ (d : ℕ). d ∷ []) (glyph_is n) ∙ ap (λ (b : Bool). spelled (suc k) b n) (sym (lt-ltb n 10 f.1))
fewest_spelled (suc (suc r)) zero n h f = absurd (omega arith)
fewest_spelled (suc (suc r)) (suc k) n h f =
    let big : 10 ^ suc r ≤ n = fewest_from r n f in
    let some : 10 ≤ n = omega (arith, big, pow-succ' 10 r, below_power r) in
    let fewer : IsDigitCount 10 1 (n / 10) (suc r) = (omega arith, omega (arith, f.1, pow-succ' 10 (suc r)), λ _. let e : suc r - 1 ≡ r = omega arith in omega (arith, big, pow-succ' 10 r, ap (λ (j : ℕ). 10 ^ j) e)) in
    ap₂ (λ (l : List ℕ) (d : ℕ). l ++ (d ∷ [])) (fewest_spelled (suc r) k (n / 10) (omega arith) fewer) (glyph_is n)
    ∙ ap (λ (b : Bool). spelled (suc k) b n) (sym (le-ltb n 10 some))

-- a number has no more digits before the last than its value
pub fewest_text : (r n : ℕ) → IsDigitCount 10 1 n r → last_digits 10 r n ≡ decimal_text n
unfolding decimal_text
fewest_text r n f = fewest_spelled r n n (go r f) f
  where
    go : (r : ℕ) → IsDigitCount 10 1 n r → r ≤ suc n
    go zero f = omega arith
    go (suc zero) f = omega arith
    go (suc (suc r)) f = omega (arith, below_power (suc r), fewest_from r n f)

-- a number of 64 bits has at most 20 digits
pub at_most_20 : (r n : ℕ) → n < 2 ^ 64 → IsDigitCount 10 1 n r → r ≤ 20
at_most_20 r n h f = go (ltb 20 r) refl
  where
    go : (b : Bool) → ltb 20 r ≡ b → r ≤ 20
    go false e = ltb-false 20 r e
    go true e =
        let more = ltb-true 20 r e in
        let k : r - 1 ≡ 20 + (r - 21) = omega arith in
        omega (arith, h, f.2 (omega arith), ap (λ (j : ℕ). 10 ^ j) k, pow-add 10 20 (r - 21), below_power (r - 21))
