-- The first i pieces are moved.
use Rattle.std.proofs.Common.{◌≡◌, ◌+◌, ◌*◌}
use Rattle.moving.specs.Moves.{moved}
use Rattle.moving.proofs.down.Given as goal

abbrev pub invariant-loop-i : goal.invariant-loop-i
invariant-loop-i l = l.t ≡ moved l.initial.t (l.to + l.d) (64 * l.i) l.to
