-- The lemmas that functions' attributes name.
use Rattle.table.proofs.Rows.{rows-length}
use borrow.Author.Tests.{le-ltb, lt-ltb}

pub ruleset numbers_or_rules = (rows-length, lt-ltb, le-ltb)
