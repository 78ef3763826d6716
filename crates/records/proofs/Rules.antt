-- The lemmas that functions' attributes name.
use lib.ListN.{length-set}
use lib.Seq.{take-suc-set, take_all}
use mathlib.Core.List.{append-nil, append_assoc}
use native.Mathlib.Numerals.{add-one}

pub ruleset pattern_fill_rules = (take-suc-set, take_all, length-set, append_assoc, append-nil, add-one)
