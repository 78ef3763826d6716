-- The lemmas that functions' attributes name.
use borrow.Author.Tests.{eq-eqb, ne_eqb}

pub ruleset put_plural_rules = (eq-eqb, ne_eqb)
