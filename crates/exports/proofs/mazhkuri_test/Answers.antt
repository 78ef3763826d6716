-- The call's own contract, with its answer as a number.
use Rattle.encoding.proofs.Signed.{fits_as}
use Rattle.exports.proofs.Bounds.{test_fits}
use Rattle.exports.proofs.mazhkuri_test.Goals as goal

pub counted-requires : goal.counted-requires
counted-requires c = let a = c.args in fits_as c.test.ensures (test_fits a.store.now a.id.now a.token.now)
