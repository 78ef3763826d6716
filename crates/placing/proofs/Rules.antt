-- The lemmas that functions' attributes name.
use Rattle.octets.proofs.Parts.{front_is, front_le, length_part}
use Rattle.placing.proofs.Stores.{all_inserted, sorted_is_ascending, with_sorted}
use Rattle.store.proofs.Stores.{still_in_order}
use lib.ListN.{length-drop, length-replicate}
use lib.Seq.{length-take-le, take_all}

pub ruleset write_rules = (front_le, front_is, length_part, still_in_order, sorted_is_ascending, all_inserted, length-drop, length-replicate, take_all, length-take-le)

pub ruleset write_labels_rules = (front_le, front_is, sorted_is_ascending, with_sorted, length-replicate, length-take-le)
