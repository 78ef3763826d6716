-- The lemmas that functions' attributes name.
use Rattle.format.proofs.Tags.{numbered_is, prepared}

pub ruleset field_keys_rules = (prepared, numbered_is)
