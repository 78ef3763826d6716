-- The used rows are brought together, and the rows behind them are freed.
use mathlib.Core.List.{[]}
use Rattle.table.specs.Table.{rows}
use Rattle.closing.proofs.Gathering.{Gathering}
use Rattle.closing.proofs.keep_used.Given as goal

abbrev pub invariant-loop-i : goal.invariant-loop-i
invariant-loop-i l = Gathering l.w [] (rows l.w l.n l.initial.t) l.i l.to (rows l.w l.n l.t)
