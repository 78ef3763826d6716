-- What was counted and what is left make the whole.
use Rattle.std.proofs.Common.{◌≡◌, ◌+◌, ◌≤◌, drop}
use Rattle.table.specs.Table.{rows, free_rows}
use Rattle.table.proofs.count_free.Given as goal

abbrev pub invariant-loop-i : goal.invariant-loop-i
invariant-loop-i l = (l.free ≤ l.i) × (l.free + free_rows (drop l.i (rows l.w l.n l.t)) ≡ free_rows (rows l.w l.n l.t))
