-- The first bytes are changed.
use Rattle.octets.proofs.Parts.{partly}
use Rattle.std.specs.Int.Bits.{bit_xor}
use Rattle.std.proofs.Common.{◌≡◌, ℕ}
use Rattle.hmac.proofs.padded.Given as goal

abbrev pub invariant-loop-y : goal.invariant-loop-y
invariant-loop-y l = l.y-items ≡ partly (λ (y : ℕ). bit_xor y l.x) l.y-index l.fn.b
