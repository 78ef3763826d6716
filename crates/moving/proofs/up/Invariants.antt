-- The last bytes are moved: i pieces and the rest are left.
use Rattle.std.proofs.Common.{◌≡◌, ◌+◌, ◌-◌, ◌*◌, ◌/◌}
use Rattle.moving.specs.Moves.{moved}
use Rattle.moving.proofs.up.Given as goal

abbrev pub invariant-loop-i : goal.invariant-loop-i
invariant-loop-i l = l.t ≡ moved l.initial.t (l.at + l.rest + 64 * l.i) (64 * (l.n / 64 - l.i)) (l.at + l.rest + 64 * l.i + l.d)
