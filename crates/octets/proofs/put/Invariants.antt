-- What is left to write decides: the bytes of the rest, then those that stand.
use Rattle.std.proofs.Common.{◌≡◌, ◌++◌, length, drop}
use Rattle.octets.specs.Number.{bytes}
use Rattle.octets.proofs.put.Given as goal

abbrev pub invariant-loop-i : goal.invariant-loop-i
invariant-loop-i l = bytes l.i l.rest ++ drop l.i l.to ≡ bytes (length l.initial.to) l.x
