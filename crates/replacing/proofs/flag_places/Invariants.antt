-- One place after the other.
use Rattle.std.proofs.Common.{◌≡◌, take}
use Rattle.closing.specs.Flags.{flagged_at}
use Rattle.replacing.proofs.flag_places.Given as goal

abbrev pub invariant-loop-place : goal.invariant-loop-place
invariant-loop-place l = l.flags ≡ flagged_at (take l.place-index l.place-items) l.initial.flags
