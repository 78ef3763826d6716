-- The words left to pass decide.
use Prim.Native.Nat.{◌-◌}
use mathlib.Core.Path.{◌≡◌}
use Rattle.words.specs.Line.{from_word}
use Rattle.words.proofs.line.from.Given as goal

abbrev pub invariant-loop-passed : goal.invariant-loop-passed
invariant-loop-passed l = from_word (l.i - l._passed) l.rest ≡ from_word l.i l.line
