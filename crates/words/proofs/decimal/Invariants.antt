-- What is left of the word decides.
use mathlib.Core.Path.{◌≡◌}
use lib.ListN.{drop}
use Rattle.std.specs.Prelude.{Some}
use Rattle.words.specs.Decimal.{further, decimal_of}
use Rattle.words.proofs.decimal.Given as goal

abbrev pub invariant-loop-b : goal.invariant-loop-b
invariant-loop-b l = further (Some l.n) (drop l.b-index l.word) ≡ decimal_of l.word
