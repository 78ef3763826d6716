-- The call's own contract, with its answer as a number.
use Rattle.encoding.proofs.Signed.{fits_as}
use Rattle.exports.proofs.Bounds.{erase_fits}
use Rattle.exports.proofs.mazhkuri_erase.Goals as goal

pub counted-requires : goal.counted-requires
counted-requires c = let a = c.args in fits_as c.erase.ensures.result_value (erase_fits a.store.now a.id.now)
