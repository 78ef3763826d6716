-- The parts up to i are made; the first refused ends it.
use Prim.Native.Nat.{◌/◌}
use lib.ListN.{length}
use Rattle.part_tokens.proofs.Parts.{Going}
use Rattle.part_tokens.proofs.make_parts.Given as goal

abbrev pub invariant-loop-i : goal.invariant-loop-i
invariant-loop-i l = Going l.text l.ends (length l.ends / 3) l.initial.to l.i l.to
