-- The call's own contract, with its answer as a number.
use Rattle.encoding.proofs.Signed.{fits_as}
use Rattle.exports.proofs.Bounds.{order_fits}
use Rattle.exports.proofs.mazhkuri_order.Goals as goal

pub counted-requires : goal.counted-requires
counted-requires c = let a = c.args in fits_as c.order.ensures.result_value (order_fits a.store.now)
