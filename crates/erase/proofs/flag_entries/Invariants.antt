-- The id's rows of V stand together from the first that is not before it; what is left of V decides.
use Prim.Native.Nat.{◌≤◌}
use Rattle.table.specs.Table.{rows}
use Rattle.scheme.specs.Store.{table_m, table_v, width_of}
use Rattle.erase.proofs.Laws.{Flagged}
use Rattle.erase.proofs.flag_entries.Given as goal

abbrev pub invariant-loop-i : goal.invariant-loop-i
invariant-loop-i l = (l.i ≤ l.used) × ((l.from ≤ l.i) × Flagged l.id (rows (width_of table_v) l.k l.v) (rows (width_of table_m) l.n l.m) l.initial.flags l.i l.flags)
