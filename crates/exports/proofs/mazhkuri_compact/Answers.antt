-- The call's own contract, with its answer as a number.
use Rattle.encoding.proofs.Signed.{fits_as}
use Rattle.exports.proofs.Bounds.{compact_fits}
use Rattle.exports.proofs.mazhkuri_compact.Goals as goal

pub compacted-requires : goal.compacted-requires
compacted-requires c = let a = c.args in fits_as c.compact.ensures.result_value (compact_fits a.store.now a.nonces.now a.token.now)
