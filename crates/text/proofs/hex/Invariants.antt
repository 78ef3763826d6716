-- The places written so far are right.
use mathlib.Core.Path.{◌≡◌}
use lib.ListN.{take}
use Rattle.text.specs.Tabulate.{tabulate}
use Rattle.text.specs.Hex.{digit_at}
use Rattle.text.proofs.hex.Given as goal

abbrev pub invariant-loop-j : goal.invariant-loop-j
invariant-loop-j l = take l.j l.to ≡ tabulate (digit_at l.bytes) l.j
