-- The ids so far are written.
use Prim.Native.Nat.{◌*◌}
use mathlib.Core.Path.{◌≡◌}
use Rattle.buffer.specs.Put.{Put}
use Rattle.lines.specs.Ids.{id_lines}
use Rattle.lines.proofs.ids.Given as goal

abbrev pub invariant-loop-i : goal.invariant-loop-i
invariant-loop-i l = (l.at ≡ 33 * l.i) × Put l.initial.to 0 (id_lines l.i l.found) l.to l.at
