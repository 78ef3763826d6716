-- The walk goes down the bucket's chain.
use Rattle.table.specs.Table.{rows}
use Rattle.firsts.proofs.Chaining.{Walking}
use Rattle.firsts.proofs.equal_in.Given as goal

abbrev pub invariant-loop-next : goal.invariant-loop-next
invariant-loop-next l = Walking (rows 32 l.n l.log) l.i l.next

abbrev pub decreases-loop-next : goal.decreases-loop-next
decreases-loop-next l = l.next
