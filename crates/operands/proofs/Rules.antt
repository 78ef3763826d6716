-- The lemmas that functions' attributes name.
use lib.Seq.{take_all}

pub ruleset token_bytes_rules = (take_all)
