-- The call's own contract, with its answer as a number and its rows where they were asked for.
use mathlib.Core.Path.{ap}
use Rattle.answer.specs.Answer.{without_rows}
use Rattle.encoding.proofs.Signed.{fits_as}
use Rattle.exports.proofs.Bounds.{count-answer_fits}
use Rattle.exports.proofs.mazhkuri_count_tallied.Goals as goal

pub tallied-requires : goal.tallied-requires
tallied-requires c = let a = c.args in fits_as (ap without_rows c.count.ensures.result_value) (count-answer_fits a.store.now a.token.now)
