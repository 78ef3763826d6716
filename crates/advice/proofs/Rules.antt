-- The lemmas that functions' attributes name.
use borrow.Author.Tests.{le-ltb, lt-ltb}

pub ruleset length_rules = (lt-ltb, le-ltb)
