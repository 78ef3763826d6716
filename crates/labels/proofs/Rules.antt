-- The lemmas that functions' attributes name.
use Rattle.labels.proofs.Laws.{length-sevens}
use borrow.Author.Tests.{le-ltb, lt-ltb}

pub ruleset label_rules = (length-sevens)

pub ruleset outside_rules = (lt-ltb, le-ltb)
