-- The plaintext of a row has the two numbers.
use Prim.Native.Nat.{ℕ}
use mathlib.Core.Path.{◌≡◌, ap, ◌∙◌}
use mathlib.Core.List.{List}
use native.Mathlib.Omega.{arith}
use lib.ListN.{length, take, drop, length-drop}
use lib.Seq.{take_all}
use Rattle.octets.specs.Number.{number}
use Rattle.scheme.specs.Suite.{value_of}
use Rattle.scheme.specs.Reading.{Numbers}
use Rattle.format.specs.Rows.{text_in}
use Rattle.numbers.specs.Numbers.{numbers_in}

-- the two numbers of the plaintext
pub numbers_are : (ce b plain : List ℕ) (a n : ℕ) → length plain ≡ 16 → plain ≡ text_in ce b
    → a ≡ number (take 8 plain) → n ≡ number (take 8 (drop 8 plain)) → ◌≡◌ {A = Numbers} (record { a = a; n = n }) (numbers_in ce b)
unfolding numbers_in value_of
numbers_are ce b plain a n l e p q =
    let x = p ∙ ap (λ (m : List ℕ). number (take 8 m)) e in
    let y = q ∙ ap number (take_all 8 (drop 8 plain) (omega (arith, length-drop 8 plain))) ∙ ap (λ (m : List ℕ). number (drop 8 m)) e in
    λ j. record { a = x j; n = y j }
