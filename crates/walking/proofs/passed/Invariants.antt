-- Every row so far has a smaller tag, and each was counted.
use Rattle.std.proofs.Common.{◌≡◌, ◌≤◌}
use Rattle.table.specs.Table.{rows}
use Rattle.table.specs.Search.{first_not_before}
use Rattle.walking.proofs.passed.Given as goal

abbrev pub invariant-loop-i : goal.invariant-loop-i
invariant-loop-i l = (l.rows ≡ l.i) × (l.i ≤ first_not_before l.tag (rows l.w l.n l.t))
