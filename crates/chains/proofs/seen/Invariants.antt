-- The walk goes down the bucket's chain.
use Rattle.table.specs.Table.{rows}
use Rattle.scheme.specs.Store.{table_m, width_of}
use Rattle.chains.proofs.Chains.{Walk}
use Rattle.chains.proofs.seen.Given as goal

abbrev pub invariant-loop-j : goal.invariant-loop-j
invariant-loop-j l = Walk l.me (rows (width_of table_m) l.m l.t) l.index l.x l.n l.j

abbrev pub decreases-loop-j : goal.decreases-loop-j
decreases-loop-j l = l.j
