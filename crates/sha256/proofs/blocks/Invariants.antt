-- What is left decides: the blocks of what the iterator still has.
use Rattle.compression.specs.Compression.{words}
use Rattle.sha256.specs.Hash.{blocks}
use Rattle.std.specs.Slice.Iter.{chunks_exact_rest, chunks_exact_size}
use Rattle.std.proofs.Common.{◌≡◌, ◌/◌, length}
use Rattle.sha256.proofs.blocks.Given as goal

abbrev pub invariant-loop-block : goal.invariant-loop-block
invariant-loop-block l = (chunks_exact_size l.block-iterator ≡ 64)
    × (blocks (length (chunks_exact_rest l.block-iterator) / 64) (words l.v) (chunks_exact_rest l.block-iterator) ≡ blocks (length l.m / 64) (words l.initial.v) l.m)
