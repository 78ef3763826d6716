-- The tags that are left decide, of the count and of the flags.
use Prim.Native.Nat.{◌-◌}
use mathlib.Core.List.{map}
use lib.ListN.{drop}
use Rattle.table.specs.Table.{rows, used}
use Rattle.matching.proofs.Flags.{Reaching}
use Rattle.matching.proofs.reach.Given as goal

abbrev pub invariant-loop-j : goal.invariant-loop-j
invariant-loop-j l = Reaching (rows l.w l.n l.t) (map (drop (l.width - 33)) (used (rows l.width l.m l.v))) l.initial.flags l.j l.lost l.flags
