-- What is left decides: the groups from group i on, of the words due there.
use Rattle.compression.specs.Compression.{words}
use Rattle.compression.specs.Groups.{due, groups}
use Rattle.std.proofs.Common.{◌≡◌, ◌-◌, ◌*◌}
use Rattle.compression.proofs.rounds.Given as goal

abbrev pub invariant-loop-i : goal.invariant-loop-i
invariant-loop-i l =
    groups (4 - l.i) (16 * l.i) l.k (due (16 * l.i) l.w) (words l.v) ≡ groups 4 0 l.k l.initial.w (words l.initial.v)
