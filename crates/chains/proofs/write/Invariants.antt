-- The first i ids are written.
use Prim.Native.Nat.{◌≤◌}
use mathlib.Core.Path.{◌≡◌}
use lib.ListN.{length}
use Rattle.table.specs.Table.{rows}
use Rattle.scheme.specs.Store.{table_m, width_of}
use Rattle.chains.proofs.Chains.{Wrote}
use Rattle.chains.proofs.write.Given as goal

abbrev pub invariant-loop-i : goal.invariant-loop-i
invariant-loop-i l = (l.i ≤ l.n) × ((length l.output ≡ length l.initial.output) × Wrote l.me (rows (width_of table_m) l.m l.t) l.index l.initial.output l.i l.output)
