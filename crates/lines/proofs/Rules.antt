-- The lemmas that functions' attributes name.
use lib.Seq.{length-take-le}

pub ruleset put_hex_rules = (length-take-le)
