-- The call's own contract, with its answer as a number.
use native.Mathlib.Omega.{arith}
use Rattle.encoding.proofs.Signed.{fits_as}
use Rattle.exports.proofs.Bounds.{insert_fits}
use Rattle.exports.proofs.mazhkuri_insert.Goals as goal

pub counted-requires : goal.counted-requires
counted-requires c = let a = c.args in fits_as c.insert.ensures.result_value (insert_fits a.store.now a.ids.now a.nonces.now a.token.now (omega arith))
