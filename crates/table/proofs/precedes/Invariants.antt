-- Bytes are compared one after the other; those left decide.
use Prim.Native.Nat.{◌≤◌}
use mathlib.Core.Path.{◌≡◌}
use lib.ListN.{length, drop}
use Rattle.table.specs.Order.{precedes}
use Rattle.table.proofs.precedes.Given as goal

abbrev pub invariant-loop-i : goal.invariant-loop-i
invariant-loop-i l = (l.i ≤ length l.b) × (precedes (drop l.i l.a) (drop l.i l.b) ≡ precedes l.a l.b)
