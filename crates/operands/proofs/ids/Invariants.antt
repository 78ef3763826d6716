-- The ids so far stand at the start.
use Prim.Native.Nat.{◌*◌}
use mathlib.Core.Path.{◌≡◌}
use lib.ListN.{take}
use Rattle.operands.specs.Ids.{ids_of}
use Rattle.operands.proofs.ids.Given as goal

abbrev pub invariant-loop-i : goal.invariant-loop-i
invariant-loop-i l = take (16 * l.i) l.to ≡ ids_of l.first l.i l.line
