-- A number in decimal digits: at least one, and no zero before others.
use Rattle.std.specs.Prelude.{ℕ, zero, suc, ◌+◌, ◌/◌, ◌%◌, Bool, true, false, List, [], ◌∷◌, ◌++◌, ltb}

-- the digits of n, of which at most k stand before the last; the test says whether none does
unfoldable pub spelled : ℕ → Bool → ℕ → List ℕ
spelled zero is_last n = (48 + n % 10) ∷ []
spelled (suc k) true n = (48 + n % 10) ∷ []
spelled (suc k) false n = spelled k (ltb (n / 10) 10) (n / 10) ++ ((48 + n % 10) ∷ [])

-- no more digits stand before the last than the number counts
unfoldable pub decimal_text : ℕ → List ℕ
decimal_text n = spelled n (ltb n 10) n

-- a number with a text after it
abbrev pub counted : ℕ → List ℕ → List ℕ
counted n text = decimal_text n ++ text
