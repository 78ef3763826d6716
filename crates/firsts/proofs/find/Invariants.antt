-- Each row's first is told from the chains of the rows before it.
use Rattle.table.specs.Table.{rows}
use Rattle.firsts.specs.Firsts.{Chained}
use Rattle.firsts.proofs.Chaining.{Found}
use Rattle.firsts.proofs.find.Given as goal

abbrev pub invariant-loop-i : goal.invariant-loop-i
invariant-loop-i l = Chained (rows 32 l.n l.log) l.i l.heads l.links × Found (rows 32 l.n l.log) l.initial.first l.i l.first
