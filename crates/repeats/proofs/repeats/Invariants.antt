-- What is left of the tags, after the one before, decides.
use Prim.Native.Nat.{ℕ, ◌+◌, ◌-◌, ◌≤◌}
use mathlib.Core.Path.{◌≡◌}
use mathlib.Core.List.{List, [], map}
use lib.ListN.{get_or, take, drop}
use Rattle.table.specs.Lists.{repeats}
use Rattle.table.specs.Table.{rows, used}
use Rattle.repeats.proofs.Neighbours.{next}
use Rattle.repeats.proofs.repeats.Given as goal

abbrev pub tags : ℕ → ℕ → List ℕ → List (List ℕ)
tags w n t = map (take 32) (used (rows w n t))

abbrev pub invariant-loop-i : goal.invariant-loop-i
invariant-loop-i l = (l.r ≤ l.i) × (l.r + next (get_or (tags l.w l.n l.t) (l.i - 1) []) (drop l.i (tags l.w l.n l.t)) ≡ repeats (tags l.w l.n l.t))
