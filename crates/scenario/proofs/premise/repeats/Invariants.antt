-- What is left decides.
use Prim.Native.Nat.{◌≤◌}
use mathlib.Core.Path.{◌≡◌}
use lib.ListN.{drop}
use Rattle.scenario.specs.Premise.{repeating}
use Rattle.scenario.proofs.premise.repeats.Given as goal

abbrev pub invariant-loop-i : goal.invariant-loop-i
invariant-loop-i l = (l.i ≤ l.n) × (repeating (drop l.i l.list) ≡ repeating l.list)
