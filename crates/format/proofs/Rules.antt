-- The lemmas that functions' attributes name.
use Rattle.format.proofs.Tags.{numbered_is, prepared}
use mathlib.Core.List.{append-nil}

pub ruleset keys_of_rules = (prepared, numbered_is)

pub ruleset message_rules = (append-nil)
