-- One row after the other.
use Rattle.firsts.proofs.Flags.{Marking}
use Rattle.firsts.proofs.flag_before.Given as goal

abbrev pub invariant-loop-i : goal.invariant-loop-i
invariant-loop-i l = Marking l.upto l.first l.initial.flags l.i l.flags
