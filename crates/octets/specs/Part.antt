-- A part of a list that was lent from place a on and has come back as ys: what a slice holds after `f(&mut s[a..e])`.
use Rattle.std.specs.Prelude.{ℕ, ◌+◌, ◌-◌, List, ◌++◌, length, take, drop}

-- xs with the elements from a to e given back as ys
abbrev pub back : List ℕ → ℕ → ℕ → List ℕ → List ℕ
back xs a e ys = take a xs ++ (ys ++ drop (e - a) (drop a xs))

-- xs with ys over the elements from a on
abbrev pub written : List ℕ → ℕ → List ℕ → List ℕ
written xs a ys = back xs a (a + length ys) ys
