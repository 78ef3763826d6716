-- The lemmas that functions' attributes name.
use Rattle.labels.proofs.Laws.{label_short}
use Rattle.octets.proofs.Parts.{front_is, front_le}
use lib.Seq.{length-take-le}

pub ruleset parts_rules = (front_le, front_is, label_short, length-take-le)
