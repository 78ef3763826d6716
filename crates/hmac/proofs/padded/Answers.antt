use Rattle.octets.proofs.Parts.{partly_more}
use Rattle.std.specs.Int.Bits.{bit_xor}
use Rattle.std.proofs.Common.{ℕ, arith}
use Rattle.hmac.proofs.padded.Goals as goal

pub loop-y-preserved : goal.loop-y-preserved
loop-y-preserved c = partly_more (λ (y : ℕ). bit_xor y c.args.x) c.loop-y.y-index c.args.b (omega arith) c.loop-y.y-items c.loop-y.invariant
