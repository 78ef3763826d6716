-- The walk through both tables, by the laws of two lists that ascend.
use Prim.Native.Nat.{ℕ, ◌+◌, ◌-◌}
use mathlib.Core.List.{List, map}
use lib.ListN.{take}
use Rattle.table.specs.Table.{rows, used}
use Rattle.lacking.proofs.Walks.{Walking}
use Rattle.lacking.proofs.lacking_ids.Given as goal

abbrev pub ids : ℕ → ℕ → List ℕ → List (List ℕ)
ids w n t = map (take 16) (used (rows w n t))

abbrev pub invariant-loop-k : goal.invariant-loop-k
invariant-loop-k l = Walking (ids l.w l.n l.t) (ids l.width l.m l.v) l.k l.j l.r

abbrev pub decreases-loop-k : goal.decreases-loop-k
decreases-loop-k l = l.u - l.k + (l.used - l.j)
