-- The folder's part of a path: the bytes up to its last slash.
use Rattle.std.specs.Prelude.{ℕ, ◌+◌, cond, List, [], ◌∷◌, eqb}

-- how many bytes it has, where n have been found before place i and the list stands from there
unfoldable pub folder_from : ℕ → ℕ → List ℕ → ℕ
folder_from n i [] = n
folder_from n i (b ∷ bs) = folder_from (cond (eqb b 47) (i + 1) n) (i + 1) bs

abbrev pub folder_of : List ℕ → ℕ
folder_of path = folder_from 0 0 path
