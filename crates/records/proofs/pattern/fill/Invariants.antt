-- The first bytes are the pattern's, and what remains of it follows from the present state.
use Rattle.std.proofs.Common.{◌≡◌, ◌-◌, ◌<◌, ◌^◌, ◌++◌, length, take}
use Rattle.records.specs.Pattern.{pattern}
use Rattle.records.proofs.pattern.fill.Given as goal

abbrev pub invariant-loop-byte : goal.invariant-loop-byte
invariant-loop-byte l = (length l.to ≡ length l.initial.to) × (l.x < 2 ^ 32)
    × (take l.byte-index l.to ++ pattern (length l.initial.to - l.byte-index) l.x ≡ pattern (length l.initial.to) l.seed)
