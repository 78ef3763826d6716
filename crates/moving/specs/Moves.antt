-- What moving gives: a part copied to another place.
use Rattle.std.specs.Prelude.{ℕ, ◌+◌, List, ◌++◌, take, drop}

-- the n elements from a on, copied to the place b; every other element stays
abbrev pub moved : {A : Type 0} → List A → ℕ → ℕ → ℕ → List A
moved l a n b = take b l ++ (take n (drop a l) ++ drop (b + n) l)
