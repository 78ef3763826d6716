-- What is left to read decides; the number read so far has as many bytes.
use Rattle.std.proofs.Common.{◌≡◌, ◌<◌, ◌*◌, ◌^◌, drop}
use Rattle.octets.specs.Number.{continued}
use Rattle.octets.proofs.get.Given as goal

abbrev pub invariant-loop-byte : goal.invariant-loop-byte
invariant-loop-byte l = (l.x < 2 ^ (8 * l.byte-index)) × (continued l.x (drop l.byte-index l.from) ≡ continued 0 l.from)
