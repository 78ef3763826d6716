-- The call's own contract, with the sum as its answer and its numbers where they were asked for.
use mathlib.Core.Path.{ap}
use Rattle.encoding.specs.Encoding.{summed}
use Rattle.encoding.proofs.Signed.{fits_as}
use Rattle.exports.proofs.Bounds.{check_fits}
use Rattle.exports.proofs.mazhkuri_check.Goals as goal

pub inspected-requires : goal.inspected-requires
inspected-requires c = let a = c.args in fits_as (ap summed c.check.ensures) (check_fits a.store.now)
