-- Laws of the text functions: a text written place by place, a word read from the front.
use Prim.Native.Nat.{ℕ, ◌+◌, ◌<◌}
use mathlib.Core.Path.{◌≡◌, refl, sym}
use mathlib.Core.Bool.{Bool, true, false, cond, true≢false}
use mathlib.Core.List.{List}
use native.Mathlib.Numerals.{add-one}
use lib.Dec.{eqb}
use lib.ListN.{length, take, set}
use lib.Seq.{take-suc-set}
use borrow.Author.Tests.{eqb-true}
use Rattle.text.specs.Tabulate.{tabulate}
use Rattle.text.specs.Hex.{all_hex, is_hex_of}

-- one more place is written
pub grown : (f : ℕ → ℕ) (i v : ℕ) (to : List ℕ) → i < length to → v ≡ f i → take i to ≡ tabulate f i
    → take (i + 1) (set to i v) ≡ tabulate f (i + 1)
unfolding tabulate
grown f i v to h e t = rw (add-one, take-suc-set, t, e)

-- a word of n digits is n bytes long
pub hex_length : (n : ℕ) (w : List ℕ) → is_hex_of n w ≡ true → length w ≡ n
hex_length n w e = go (eqb (length w) n) refl e
  where
    go : (b : Bool) → eqb (length w) n ≡ b → cond b (all_hex w) false ≡ true → length w ≡ n
    go true k h = eqb-true (length w) n k
    go false k h = absurd (true≢false (sym h))
