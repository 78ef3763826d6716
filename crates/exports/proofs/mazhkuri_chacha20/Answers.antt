-- The call's own contract, with its answer as a number.
use Rattle.encoding.proofs.Signed.{fits_as}
use Rattle.exports.proofs.Bounds.{cipher_fits}
use Rattle.exports.proofs.mazhkuri_chacha20.Goals as goal

pub completed-requires : goal.completed-requires
completed-requires c = let a = c.args in fits_as c.apply.ensures.result_value (cipher_fits a.key.now a.nonce.now a.text.now)
