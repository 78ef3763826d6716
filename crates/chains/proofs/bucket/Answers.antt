-- Two halves, each a number, and what is left of their sum.
use Prim.Native.Nat.{ℕ, ◌+◌, ◌*◌, ◌%◌}
use mathlib.Core.Path.{ap₂}
use native.Mathlib.Omega.{arith}
use Rattle.chains.specs.Chains.{bucket_of}
use Rattle.chains.proofs.bucket.Goals as goal

pub returns : goal.returns
unfolding bucket_of
returns c =
    (ap₂ (λ (a b : ℕ). (61 * (a % 4093) + b % 4093) % 4093) c.get-a.ensures c.get-b.ensures, omega arith)
