-- The call's own contract, with its answer as a number.
use Rattle.encoding.proofs.Signed.{fits_as}
use Rattle.exports.proofs.Bounds.{joint_find_fits}
use Rattle.exports.proofs.mazhkuri_joint_find.Goals as goal

pub counted-requires : goal.counted-requires
counted-requires c = let a = c.args in fits_as c.joint_find.ensures.result_value (joint_find_fits a.store.now a.parts.now a.output.now)
