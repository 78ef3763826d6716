-- The first words are written.
use Rattle.compression.specs.Compression.{words}
use Rattle.sha256.specs.Hash.{digest}
use Rattle.std.proofs.Common.{◌≡◌, ◌*◌, length, take}
use Rattle.sha256.proofs.digest.Given as goal

abbrev pub invariant-loop-i : goal.invariant-loop-i
invariant-loop-i l = (length l.to ≡ 32) × (take (4 * l.i) l.to ≡ digest (take l.i (words l.s)))
