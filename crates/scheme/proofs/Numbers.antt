-- A number of 8 bytes is read back as it was written; the length of number bytes.
use Prim.Native.Nat.{ℕ, ◌<◌}
use mathlib.Core.Path.{◌≡◌}
use lib.ListN.{length}
use Rattle.octets.proofs.Numbers.{length-bytes, read_back}
use Rattle.scheme.specs.Suite.{number8, value_of}

pub number_length : (n : ℕ) → length (number8 n) ≡ 8
unfolding number8
number_length n = length-bytes 8 n

pub number_value : (n : ℕ) → n < 18446744073709551616 → value_of (number8 n) ≡ n
unfolding number8 value_of
number_value n h = read_back 8 n h
