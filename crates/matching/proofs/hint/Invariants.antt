-- The rows that are left, from the last down, decide.
use mathlib.Core.Path.{◌≡◌}
use Rattle.table.specs.Table.{rows}
use Rattle.matching.specs.Matching.{hinted}
use Rattle.matching.proofs.hint.Given as goal

abbrev pub invariant-loop-i : goal.invariant-loop-i
invariant-loop-i l = hinted l.i (rows l.w l.n l.t) l.hints ≡ hinted l.u (rows l.w l.n l.t) l.initial.hints
