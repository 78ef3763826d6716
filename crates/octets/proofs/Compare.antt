-- A test as a number: what `usize::from` makes of it is 1 where it holds.
use Prim.Native.Nat.{◌≤◌}
use mathlib.Core.Path.{◌≡◌, refl}
use mathlib.Core.Bool.{Bool, true, false}
use native.Mathlib.Omega.{arith}
use Rattle.std.specs.Int.{from_bool}
use Rattle.octets.specs.Compare.{bit}

pub bit_from : (b : Bool) → (from_bool b ≡ bit b) × (from_bool b ≤ 1)
bit_from true = (refl, omega arith)
bit_from false = (refl, omega arith)
