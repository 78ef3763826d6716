-- The padding of a message (FIPS 180-4, 5.1.1): the bit 1, the least number of bits 0, and the length in bits as 64 bits.
-- A message is a list of bytes, so the bit 1 and seven bits 0 are the byte 128.
use Rattle.std.specs.Prelude.{ℕ, ◌-◌, ◌*◌, ◌%◌, List, ◌∷◌, ◌++◌, replicate}
use Rattle.octets.specs.Number.{bytes}

-- how many bytes 0 follow the byte 128 after n bytes of message: the least number that leaves 8 bytes of a block
unfoldable pub zeros : ℕ → ℕ
zeros n = (119 - n % 64) % 64

-- what follows a message of n bytes
unfoldable pub padding : ℕ → List ℕ
padding n = 128 ∷ replicate (zeros n) 0 ++ bytes 8 (8 * n)
