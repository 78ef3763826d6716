-- The lemmas that functions' attributes name.
use Rattle.insert.proofs.Answers.{accepted, lengths, reading_is, reading_sums, refused-damage, refused_room, refused_shares, roomy}
use Rattle.octets.proofs.Parts.{length_part}
use Rattle.store.proofs.Laws.{fits, free_le, part_searchable}
use lib.ListN.{length-drop}
use lib.Seq.{length-take-le}
use native.Mathlib.Nat.{add-sub_cancel_left}

pub ruleset insert_checked_rules = (fits, free_le, part_searchable, lengths, reading_is, refused_shares, refused-damage, length-drop, length-take-le)

pub ruleset insert_read_rules = (length_part, lengths, roomy, reading_sums, refused_room, accepted, add-sub_cancel_left)
