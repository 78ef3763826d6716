-- The rows of the first ids are made.
use Prim.Native.Nat.{◌≤◌}
use mathlib.Core.Path.{◌≡◌}
use lib.ListN.{length, take}
use Rattle.scheme.specs.Store.{table_m, table_v, width_of}
use Rattle.table.specs.Table.{rows}
use Rattle.scheme.specs.Insert.{entry_rows, reverse_rows}
use Rattle.suite.specs.Program.{program}
use Rattle.entries.proofs.new_rows.Given as goal

abbrev pub invariant-loop-i : goal.invariant-loop-i
invariant-loop-i l = (l.i ≤ l.n) × (length l.entries ≡ length l.initial.entries) × (length l.reverses ≡ length l.initial.reverses)
    × (take l.i (rows (width_of table_m) l.n l.entries) ≡ take l.i (entry_rows program l.mt l.me l.g (rows 16 l.n l.ids) l.nonces))
    × (take l.i (rows (width_of table_v) l.n l.reverses) ≡ take l.i (reverse_rows program l.mt l.g (rows 16 l.n l.ids)))
