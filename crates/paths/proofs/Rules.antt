-- The lemmas that functions' attributes name.
use lib.Seq.{length-take-le}

pub ruleset folder_rules = (length-take-le)
