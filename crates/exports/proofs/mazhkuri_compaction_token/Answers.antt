-- The call's own contract, with its answer as a number.
use native.Mathlib.Omega.{arith}
use Rattle.encoding.proofs.Signed.{fits_as}
use Rattle.exports.proofs.Bounds.{key_token_fits}
use Rattle.exports.proofs.mazhkuri_compaction_token.Goals as goal

pub made-requires : goal.made-requires
made-requires c = let a = c.args in (fits_as c.compaction_token.ensures.result_value (key_token_fits a.key.now), omega arith)
