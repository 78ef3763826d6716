-- The call's own contract, with its answer as a number.
use Rattle.encoding.proofs.Signed.{fits_as}
use Rattle.exports.proofs.Bounds.{hash_fits}
use Rattle.exports.proofs.mazhkuri_sha256.Goals as goal

pub completed-requires : goal.completed-requires
completed-requires c = let a = c.args in fits_as c.hash.ensures.result_value (hash_fits a.message.now)
