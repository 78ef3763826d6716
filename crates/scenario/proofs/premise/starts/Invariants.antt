-- The starts so far stand at the start of the list.
use Prim.Native.Nat.{◌≤◌}
use mathlib.Core.Path.{◌≡◌}
use lib.ListN.{length}
use Rattle.scenario.proofs.Lists.{starts_over}
use Rattle.scenario.proofs.premise.starts.Given as goal

abbrev pub invariant-loop-i : goal.invariant-loop-i
invariant-loop-i l = (l.i ≤ length l.initial.to) × (length l.to ≡ length l.initial.to) × (l.to ≡ starts_over l.kind l.key l.i l.initial.to)
