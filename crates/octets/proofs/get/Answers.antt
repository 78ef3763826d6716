use Rattle.std.proofs.Common.{arith, ◌∙◌}
use Rattle.octets.proofs.Numbers.{get_byte, one_more, fits_eight}
use Rattle.octets.proofs.get.Goals as goal

pub overflow_mul-x : goal.overflow_mul-x
overflow_mul-x c =
    let l = c.loop-byte in omega (arith, fits_eight l.byte-index l.x 0 (omega arith) l.invariant.0 (omega arith))

pub loop-byte-preserved : goal.loop-byte-preserved
loop-byte-preserved c =
    let l = c.loop-byte in
    (one_more l.byte-index _ _ l.invariant.0 (omega (arith, c.type_inv.from l.byte-index)), rw c.from.ensures (get_byte _ _ _ c.loop-byte-test.true ∙ l.invariant.1))
