-- The ids of a find for which other parts test yes (document 02, "Find by several fields"): each id has a flag, 0 while it stays.
use Rattle.std.specs.Prelude.{ℕ, Bool, cond, List, [], ◌∷◌, ◌++◌, eqb, take}
use Rattle.table.specs.Lists.{count}

-- an id's flag after a test: set where the id stayed and the test says no
unfoldable pub flag_of : (List ℕ → Bool) → List ℕ → ℕ → ℕ
flag_of q x f = cond (eqb f 0) (cond (q x) 0 1) f

-- the flags after a test of each id [02:W4.21]
abbrev pub sifted : (List ℕ → Bool) → List (List ℕ) → List ℕ → List ℕ
sifted q [] fs = fs
sifted q (x ∷ xs) [] = []
sifted q (x ∷ xs) (f ∷ fs) = flag_of q x f ∷ sifted q xs fs

-- after the tests of several parts, one after the other
abbrev pub sifted_by : (List ℕ → List ℕ → Bool) → List (List ℕ) → List (List ℕ) → List ℕ → List ℕ
sifted_by tests xs [] fs = fs
sifted_by tests xs (p ∷ ps) fs = sifted_by tests xs ps (sifted (tests p) xs fs)

-- the ids that stay
unfoldable pub stays : ℕ → List ℕ → List (List ℕ)
stays f x = cond (eqb f 0) (x ∷ []) []

abbrev pub staying : List (List ℕ) → List ℕ → List (List ℕ)
staying [] fs = []
staying (x ∷ xs) [] = []
staying (x ∷ xs) (f ∷ fs) = stays f x ++ staying xs fs

-- how many of the first n flags are 0
unfoldable pub unset : ℕ → List ℕ → ℕ
unset n fs = count (λ f. eqb f 0) (take n fs)
