-- What is left decides.
use Prim.Native.Nat.{◌≤◌}
use mathlib.Core.Path.{◌≡◌}
use lib.ListN.{length, drop}
use Rattle.scenario.specs.Premise.{occurs_in}
use Rattle.scenario.proofs.premise.occurs.Given as goal

abbrev pub invariant-loop-i : goal.invariant-loop-i
invariant-loop-i l = (l.i ≤ length l.list) × (occurs_in l.x (drop l.i l.list) ≡ occurs_in l.x l.list)
