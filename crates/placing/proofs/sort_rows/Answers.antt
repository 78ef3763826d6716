-- Room for 64 rows is enough.
use Prim.Native.Nat.{ℕ, ◌*◌, ◌≤◌}
use mathlib.Core.Path.{sym}
use native.Mathlib.Nat.{mul-le-mul_left}
use native.Mathlib.Omega.{arith}
use lib.ListN.{length, length-replicate, replicate}
use lib.Seq.{length-take-le}
use Rattle.scheme.specs.Store.{table_m, width_of}
use Rattle.placing.proofs.sort_rows.Goals as goal
use Rattle.placing.proofs.sort_rows.Goals.{Start}

roomy : (s : Start) → s.args.w * s.args.n ≤ length (replicate {A = ℕ} (64 * width_of table_m) 0)
roomy s = omega (arith, mul-le-mul_left s.args.w s.requires.1.0, s.requires.1.1, length-replicate {A = ℕ} (64 * width_of table_m) 0)

pub slice_bounds-room-end : goal.slice_bounds-room-end
slice_bounds-room-end c = roomy (goal.at.slice_bounds-room-end c).Start

pub slice_bounds-sort-end : goal.slice_bounds-sort-end
slice_bounds-sort-end c = sym (length-take-le _ _ (roomy (goal.at.slice_bounds-sort-end c).Start))

pub sort-requires : goal.sort-requires
sort-requires c = (c.requires.0, length-take-le _ _ (roomy (goal.at.sort-requires c).Start))
