-- The call's own contract, with its answer as a number.
use Rattle.encoding.proofs.Signed.{fits_as}
use Rattle.exports.proofs.Bounds.{make_fits}
use Rattle.exports.proofs.mazhkuri_make.Goals as goal

pub completed-requires : goal.completed-requires
completed-requires c = let a = c.args in fits_as c.make.ensures.result_value (make_fits (record { p = a.p; m = a.m; c = a.c; s = a.s; r = a.r }) a.store.now)
