-- The rows of the first ids are made.
use Prim.Native.Nat.{◌≤◌}
use mathlib.Core.Path.{◌≡◌}
use lib.ListN.{length, take}
use Rattle.table.specs.Table.{rows}
use Rattle.scheme.specs.Store.{table_r, width_of}
use Rattle.scheme.specs.Insert.{label_rows}
use Rattle.suite.specs.Program.{program}
use Rattle.entries.proofs.label.new_rows.Given as goal

abbrev pub invariant-loop-i : goal.invariant-loop-i
invariant-loop-i l = (l.i ≤ l.n) × (length l.labels ≡ length l.initial.labels) × (take l.i (rows (width_of table_r) l.n l.labels) ≡ take l.i (label_rows program l.rl (rows 16 l.n l.ids) l.nonces))
