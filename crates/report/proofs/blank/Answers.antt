-- The array is a repeat.
use mathlib.Core.Path.{refl}
use Rattle.report.specs.Run.{lent}
use Rattle.report.proofs.blank.Goals as goal

pub returns : goal.returns
unfolding lent
returns c = refl
