-- The call's own contract, with its answer as a number.
use Rattle.encoding.proofs.Signed.{fits_as}
use Rattle.exports.proofs.Bounds.{mac_fits}
use Rattle.exports.proofs.mazhkuri_hmac.Goals as goal

pub completed-requires : goal.completed-requires
completed-requires c = let a = c.args in fits_as c.mac.ensures.result_value (mac_fits a.key.now a.message.now)
