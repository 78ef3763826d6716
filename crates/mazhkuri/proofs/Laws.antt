-- A buffer's front that was filled.
use Prim.Native.Nat.{ℕ, ◌≤◌}
use mathlib.Core.Path.{◌≡◌, sym, ap, ◌∙◌}
use mathlib.Core.List.{List, ◌++◌}
use native.Mathlib.Omega.{arith}
use lib.ListN.{length, take, drop, replicate, length-append, length-replicate}
use lib.Seq.{length-take-le}

-- how long a buffer of zeros is
pub blank_length : (n : ℕ) (buffer : List ℕ) → buffer ≡ replicate n 0 → length buffer ≡ n
blank_length n buffer e = ap length e ∙ length-replicate n 0

-- the first m bytes of a buffer, before and after they are filled
module _ (m : ℕ) (buffer : List ℕ) (h : m ≤ length buffer) where
  pub front_length : m ≡ length (take m buffer)
  front_length = sym (length-take-le m buffer h)

  module _ (filled : List ℕ) (e : length filled ≡ length (take m buffer)) where
    pub filled_room : m ≤ length (filled ++ drop m buffer)
    filled_room = omega (arith, length-append filled (drop m buffer), front_length)

    pub filled_length : m ≡ length (take m (filled ++ drop m buffer))
    filled_length = sym (length-take-le m (filled ++ drop m buffer) filled_room)
