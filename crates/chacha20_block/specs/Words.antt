-- Words of 32 bits and what RFC 8439, 2.1, does with them: sums that drop the carry, XOR, and rotation to the left.
-- A word is a number below 2 ^ 32. [01:KF4 FM5]
use Rattle.std.specs.Prelude.{ℕ, ◌+◌, ◌-◌, ◌*◌, ◌/◌, ◌%◌, ◌^◌, bit_or, bit_xor}

infixl 6 ◌⊞◌
-- the sum, without the carry out of 32 bits
abbrev pub ◌⊞◌ : ℕ → ℕ → ℕ
x ⊞ y = (x + y) % 2 ^ 32

infixl 5 ◌⊕◌
abbrev pub ◌⊕◌ : ℕ → ℕ → ℕ
x ⊕ y = bit_xor x y

-- x rotated by n places to the left
unfoldable pub rotl : ℕ → ℕ → ℕ
rotl x n = bit_or (x * 2 ^ n % 2 ^ 32) (x / 2 ^ (32 - n))
