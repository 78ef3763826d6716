-- The places written so far are right.
use mathlib.Core.Path.{◌≡◌}
use lib.ListN.{take}
use Rattle.text.specs.Tabulate.{tabulate}
use Rattle.text.specs.Hex.{pair_at}
use Rattle.text.proofs.unhex.Given as goal

abbrev pub invariant-loop-i : goal.invariant-loop-i
invariant-loop-i l = take l.i l.to ≡ tabulate (pair_at l.word) l.i
