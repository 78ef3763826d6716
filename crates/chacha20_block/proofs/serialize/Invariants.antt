-- The first 4 * i bytes are those of the first i words.
use Rattle.std.proofs.Common.{◌≡◌, ◌*◌, length, take}
use Rattle.chacha20_block.specs.Rounds.{words}
use Rattle.chacha20_block.specs.Block.{serialized}
use Rattle.chacha20_block.proofs.serialize.Given as goal

abbrev pub invariant-loop-i : goal.invariant-loop-i
invariant-loop-i l = (length l.out ≡ 64) × (take (4 * l.i) l.out ≡ serialized (take l.i (words l.s)))
