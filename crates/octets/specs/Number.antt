-- Numbers as bytes, big-endian, of any width: 8 bytes inside a message or plaintext, 2 in a store's header (document 01,
-- "Keyed function and cipher" and "Store"). [01:KF6]
use Rattle.std.specs.Prelude.{ℕ, zero, suc, ◌+◌, ◌*◌, ◌/◌, ◌%◌, List, [], ◌∷◌, ◌++◌}

-- the last n bytes of x, the highest first
unfoldable pub bytes : ℕ → ℕ → List ℕ
bytes zero x = []
bytes (suc n) x = bytes n (x / 256) ++ (x % 256 ∷ [])

-- the number that the bytes of a list continue a with
unfoldable pub continued : ℕ → List ℕ → ℕ
continued a [] = a
continued a (b ∷ bs) = continued (a * 256 + b) bs

-- the number of which a list is the bytes
abbrev pub number : List ℕ → ℕ
number bs = continued 0 bs
