-- The rows that stay are brought together, run by run, and the rows behind them are freed.
use Prim.Native.Nat.{◌-◌, ◌≤◌}
use mathlib.Core.Path.{◌≡◌}
use lib.ListN.{length}
use Rattle.table.specs.Table.{rows}
use Rattle.closing.proofs.Runs.{Closing}
use Rattle.closing.proofs.close.Given as goal

abbrev pub invariant-loop-i : goal.invariant-loop-i
invariant-loop-i l = (length l.t ≡ length l.initial.t) × ((l.to ≤ l.i) × ((l.i ≤ l.u) × Closing l.w l.flags l.u (rows l.w l.n l.initial.t) l.i l.to (rows l.w l.n l.t)))

abbrev pub decreases-loop-i : goal.decreases-loop-i
decreases-loop-i l = l.u - l.i
