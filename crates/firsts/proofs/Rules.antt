-- The lemmas that functions' attributes name.
use Rattle.table.proofs.Rows.{rows-length}

pub ruleset find_rules = (rows-length)

pub ruleset equal_in_rules = (rows-length)
