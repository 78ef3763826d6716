-- Row after row; damage ends it.
use Prim.Native.Nat.{◌≤◌}
use mathlib.Core.Path.{◌≡◌}
use lib.ListN.{length}
use Rattle.table.specs.Table.{rows}
use Rattle.scheme.specs.Store.{table_c, width_of}
use Rattle.course.proofs.Steps.{Going}
use Rattle.course.proofs.treat_firsts.Given as goal

abbrev pub invariant-loop-i : goal.invariant-loop-i
invariant-loop-i l = (l.i ≤ l.n) × ((length l.t ≡ length l.initial.t) × Going l.c l.nonces (rows 32 l.n l.log) (rows (width_of table_c) l.c l.initial.t) l.i (rows (width_of table_c) l.c l.t) l.z.totals l.z.stopped l.z.used)
