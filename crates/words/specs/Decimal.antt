-- A word as a decimal: one digit or more, and a value below 1,000,000,000.
use Rattle.std.specs.Prelude.{ℕ, ◌+◌, ◌*◌, ◌-◌, cond, List, [], ◌∷◌, Option, Some, None, ltb}

-- the number that a further digit makes of n; no digit, or one too many, makes none
abbrev pub step_of : ℕ → ℕ → Option ℕ
step_of n b =
    cond (ltb 99999999 n) None
    (cond (ltb b 48) None (cond (ltb 57 b) None (Some (n * 10 + (b - 48)))))

-- what further digits make of it
unfoldable pub further : Option ℕ → List ℕ → Option ℕ
further None bs = None
further (Some n) [] = Some n
further (Some n) (b ∷ bs) = further (step_of n b) bs

-- a word's number
unfoldable pub decimal_of : List ℕ → Option ℕ
decimal_of [] = None
decimal_of (b ∷ bs) = further (Some 0) (b ∷ bs)
