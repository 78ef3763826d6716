-- The first row that is not before the key stands between lo and hi.
use Prim.Native.Nat.{◌-◌, ◌≤◌}
use Rattle.table.specs.Table.{rows}
use Rattle.table.specs.Search.{first_not_before}
use Rattle.search.proofs.lower.Given as goal

abbrev pub invariant-loop-lo : goal.invariant-loop-lo
invariant-loop-lo l = (l.lo ≤ first_not_before l.key (rows l.w l.n l.t)) × (first_not_before l.key (rows l.w l.n l.t) ≤ l.hi) × (l.hi ≤ l.u)

abbrev pub decreases-loop-lo : goal.decreases-loop-lo
decreases-loop-lo l = l.hi - l.lo
