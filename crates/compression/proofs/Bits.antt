-- The rotations of the functions on words, and shorter forms of Ch and Maj: numbers of one half and one last bit are equal, so by induction on k the forms agree below 2 ^ k.
use Rattle.std.proofs.Common.{◌≡◌, ℕ, zero, suc, ◌+◌, ◌-◌, ◌/◌, ◌%◌, ◌^◌, ◌<◌, refl, arith}
use lib.Bits.{bit_and, bit_xor, and_shr, xor_shr, and_mod, xor_mod}
use Rattle.std.specs.Int.{rotate_right}
use mir.Syntax.{w32}
use Rattle.compression.specs.Words.{inverse, Ch, Maj, Σ0, Σ1, σ0, σ1}

-- ---- the rotations of std are the standard's

pub big_sigma0 : (x a b c : ℕ) → a ≡ rotate_right w32 x 2 → b ≡ rotate_right w32 x 13 → c ≡ rotate_right w32 x 22 → bit_xor (bit_xor a b) c ≡ Σ0 x
unfolding Σ0
big_sigma0 x a b c e f g = rw (e, f, g)

pub big_sigma1 : (x a b c : ℕ) → a ≡ rotate_right w32 x 6 → b ≡ rotate_right w32 x 11 → c ≡ rotate_right w32 x 25 → bit_xor (bit_xor a b) c ≡ Σ1 x
unfolding Σ1
big_sigma1 x a b c e f g = rw (e, f, g)

pub small_sigma0 : (x a b : ℕ) → a ≡ rotate_right w32 x 7 → b ≡ rotate_right w32 x 18 → bit_xor (bit_xor a b) (x / 2 ^ 3) ≡ σ0 x
unfolding σ0
small_sigma0 x a b e f = rw (e, f)

pub small_sigma1 : (x a b : ℕ) → a ≡ rotate_right w32 x 17 → b ≡ rotate_right w32 x 19 → bit_xor (bit_xor a b) (x / 2 ^ 10) ≡ σ1 x
unfolding σ1
small_sigma1 x a b e f = rw (e, f)

-- ---- halves and last bits

data Bit : ℕ → Type 0 where
  off : Bit 0
  on : Bit 1

bit : (x : ℕ) → x < 2 → Bit x
bit zero h = off
bit (suc zero) h = on
bit (suc (suc x)) h = absurd (omega arith)

last : (x : ℕ) → Bit (x % 2)
last x = bit (x % 2) (omega arith)

equal : {a b : ℕ} → a / 2 ≡ b / 2 → a % 2 ≡ b % 2 → a ≡ b
equal h l = omega arith

-- halves and last bits of the operations
and_half : (a b : ℕ) → bit_and a b / 2 ≡ bit_and (a / 2) (b / 2)
and_half a b = and_shr a b 1

xor_half : (a b : ℕ) → bit_xor a b / 2 ≡ bit_xor (a / 2) (b / 2)
xor_half a b = xor_shr a b 1

and_last : (a b : ℕ) → bit_and a b % 2 ≡ bit_and (a % 2) (b % 2)
and_last a b = and_mod a b 1

xor_last : (a b : ℕ) → bit_xor a b % 2 ≡ bit_xor (a % 2) (b % 2)
xor_last a b = xor_mod a b 1

-- ---- Ch, with the complement n of x in k bits

ch_bit : {x y z : ℕ} → Bit x → Bit y → Bit z → bit_xor z (bit_and x (bit_xor y z)) ≡ bit_xor (bit_and x y) (bit_and (1 - x) z)
ch_bit off off off = refl
ch_bit off off on = refl
ch_bit off on off = refl
ch_bit off on on = refl
ch_bit on off off = refl
ch_bit on off on = refl
ch_bit on on off = refl
ch_bit on on on = refl

ch_bits : (k x n y z : ℕ) → x + n + 1 ≡ 2 ^ k → z < 2 ^ k → bit_xor z (bit_and x (bit_xor y z)) ≡ bit_xor (bit_and x y) (bit_and n z)
ch_bits zero x n y z e h =
    let none : (x ≡ 0) × (n ≡ 0) × (z ≡ 0) = omega arith in
    rw (none.0, none.1, none.2)
ch_bits (suc k) x n y z e h =
    let low : n % 2 ≡ 1 - x % 2 = omega arith in
    equal (simp (and_half, xor_half) (ch_bits k (x / 2) (n / 2) (y / 2) (z / 2) (omega arith) (omega arith)))
    (simp (and_last, xor_last, low) (ch_bit (last x) (last y) (last z)))

pub ch_same : (x y z : ℕ) → x < 2 ^ 32 → z < 2 ^ 32 → bit_xor z (bit_and x (bit_xor y z)) ≡ Ch x y z
unfolding Ch
ch_same x y z hx hz = ch_bits 32 x (inverse x) y z (omega arith) hz

-- ---- Maj

maj_bit : {x y z : ℕ} → Bit x → Bit y → Bit z
    → bit_xor y (bit_and (bit_xor x y) (bit_xor y z)) ≡ bit_xor (bit_xor (bit_and x y) (bit_and x z)) (bit_and y z)
maj_bit off off off = refl
maj_bit off off on = refl
maj_bit off on off = refl
maj_bit off on on = refl
maj_bit on off off = refl
maj_bit on off on = refl
maj_bit on on off = refl
maj_bit on on on = refl

maj_bits : (k x y z : ℕ) → x < 2 ^ k → y < 2 ^ k → z < 2 ^ k
    → bit_xor y (bit_and (bit_xor x y) (bit_xor y z)) ≡ bit_xor (bit_xor (bit_and x y) (bit_and x z)) (bit_and y z)
maj_bits zero x y z hx hy hz = maj_bit (bit x (omega arith)) (bit y (omega arith)) (bit z (omega arith))
maj_bits (suc k) x y z hx hy hz =
    equal (simp (and_half, xor_half) (maj_bits k (x / 2) (y / 2) (z / 2) (omega arith) (omega arith) (omega arith)))
    (simp (and_last, xor_last) (maj_bit (last x) (last y) (last z)))

pub maj_same : (x y z : ℕ) → x < 2 ^ 32 → y < 2 ^ 32 → z < 2 ^ 32 → bit_xor y (bit_and (bit_xor x y) (bit_xor y z)) ≡ Maj x y z
unfolding Maj
maj_same = maj_bits 32
