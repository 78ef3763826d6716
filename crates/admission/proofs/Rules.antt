-- The lemmas that functions' attributes name.
use borrow.Author.Tests.{eq-eqb, le-ltb, lt-ltb, ne_eqb}

pub ruleset input_rules = (eq-eqb, ne_eqb)

pub ruleset room_rules = (lt-ltb, le-ltb)
