-- The lemmas that functions' attributes name.
use Rattle.form.proofs.Laws.{rising-ascending}
use Rattle.table.proofs.Rows.{rows-length}
use lib.Seq.{get_or-take, length-take-le}

pub ruleset ascend_rules = (rows-length, rising-ascending, get_or-take, length-take-le)
