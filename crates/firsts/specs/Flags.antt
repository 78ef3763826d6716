-- A flag for each text that first stands before a place.
use Rattle.std.specs.Prelude.{ℕ, List, [], ◌∷◌, ltb}
use Rattle.table.specs.Lists.{bit}

-- 1 for each number below a bound
abbrev pub flags_under : ℕ → List ℕ → List ℕ
flags_under upto [] = []
flags_under upto (x ∷ xs) = bit (ltb x upto) ∷ flags_under upto xs
