-- What is left decides; each turn makes a part more.
use Rattle.parts.proofs.Laws.{Going}
use Rattle.parts.proofs.make.Given as goal

abbrev pub invariant-loop-i : goal.invariant-loop-i
invariant-loop-i l = Going l.line l.key l.n l.i l.to
