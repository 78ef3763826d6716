-- All but the last six bytes stay.
use Rattle.std.proofs.Common.{◌≡◌, ◌-◌, length, take}
use Rattle.files.proofs.temporary.create.Given as goal

abbrev pub invariant-loop-turn : goal.invariant-loop-turn
invariant-loop-turn l = take (length l.name - 6) l.name ≡ take (length l.initial.name - 6) l.initial.name
