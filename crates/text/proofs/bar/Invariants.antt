-- The places written so far are right.
use mathlib.Core.Path.{◌≡◌}
use lib.ListN.{length, take}
use Rattle.text.specs.Tabulate.{tabulate}
use Rattle.text.specs.Bar.{bar_at}
use Rattle.text.proofs.bar.Given as goal

abbrev pub invariant-loop-i : goal.invariant-loop-i
invariant-loop-i l = take l.i l.to ≡ tabulate (bar_at l.used l.total (length l.initial.to)) l.i
