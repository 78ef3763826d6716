-- The call's own contract, with its answer as a number.
use native.Mathlib.Omega.{arith}
use Rattle.client.specs.Making.{field_of}
use Rattle.encoding.proofs.Signed.{fits_as}
use Rattle.exports.proofs.Bounds.{field_token_fits}
use Rattle.exports.proofs.mazhkuri_count_token.Goals as goal

pub made-requires : goal.made-requires
made-requires c = let a = c.args in (fits_as c.count_token.ensures.result_value (field_token_fits a.key.now (field_of a.name.now a.value.now)), omega arith)
