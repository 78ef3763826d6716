-- Row by row.
use Prim.Native.Nat.{◌≤◌}
use Rattle.table.specs.Table.{rows}
use Rattle.scheme.specs.Store.{table_s, width_of}
use Rattle.compact.proofs.Logs.{Opening}
use Rattle.compact.proofs.open_log.Given as goal

abbrev pub invariant-loop-i : goal.invariant-loop-i
invariant-loop-i l = (l.i ≤ l.n) × Opening l.ks (rows (width_of table_s) l.s l.t) l.n l.initial.log l.i l.log
