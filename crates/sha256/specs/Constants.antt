-- The initial hash value (FIPS 180-4, 5.3.3): the first 32 bits of the fractional parts of the square roots of the first eight primes.
use Rattle.std.specs.Prelude.{ℕ, List, [], ◌∷◌}

unfoldable pub H0 : List ℕ
H0 =
    0x6a09_e667 ∷ 0xbb67_ae85 ∷ 0x3c6e_f372 ∷ 0xa54f_f53a ∷ 0x510e_527f ∷ 0x9b05_688c ∷ 0x1f83_d9ab ∷ 0x5be0_cd19 ∷ []
