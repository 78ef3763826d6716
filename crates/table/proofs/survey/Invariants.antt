-- What was counted and what is left make the whole.
use Rattle.std.proofs.Common.{◌≡◌, ◌+◌, ◌≤◌, drop}
use mathlib.Core.Bool.{◌||◌}
use Rattle.table.specs.Table.{rows, mark_bad, free_rows}
use Rattle.table.proofs.survey.Given as goal

abbrev pub invariant-loop-i : goal.invariant-loop-i
invariant-loop-i l = (l.free ≤ l.i)
    × ((l.bad || mark_bad l.most (drop l.i (rows l.w l.n l.t))) ≡ mark_bad l.most (rows l.w l.n l.t))
    × (l.free + free_rows (drop l.i (rows l.w l.n l.t)) ≡ free_rows (rows l.w l.n l.t))
