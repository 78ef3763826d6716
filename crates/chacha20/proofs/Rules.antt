-- The lemmas that functions' attributes name.
use borrow.Author.Tests.{eq-eqb, le-ltb, lt-ltb, ne_eqb}
use lib.ListN.{length-set}
use native.Mathlib.Nat.{sub-zero}

pub ruleset apply_rules = (eq-eqb, ne_eqb, le-ltb, lt-ltb)

pub ruleset xor_bytes_rules = (length-set)

pub ruleset apply_checked_rules = (sub-zero)
