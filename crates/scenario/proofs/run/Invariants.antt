-- The records so far were gone through; the number of those left falls.
use Prim.Native.Nat.{◌≤◌}
use mathlib.Core.Path.{◌≡◌}
use lib.ListN.{length}
use Rattle.scenario.specs.Given.{Ran}
use Rattle.scenario.proofs.run.Given as goal

abbrev pub invariant-loop : goal.invariant-loop
invariant-loop l = (length l.room ≡ length l.initial.room) × (l.n ≤ length l.initial.room) × Ran l.initial.room l.n l.room
