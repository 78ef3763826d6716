-- The lemmas that functions' attributes name.
use Rattle.store.proofs.Laws.{bad_forms, checked_header, checked_marks, good_header, in_range, length_shares, make-done, make-length, make_range, part_formed, sizes_read}
use lib.ListN.{length-drop}
use lib.Seq.{length-take-le}

pub ruleset formed_rules = (length-drop, length-take-le)

pub ruleset make_rules = (in_range, length_shares, make_range, make-length, make-done)

pub ruleset survey_all_rules = (length_shares)

pub ruleset marked_rules = (good_header, sizes_read, checked_header, checked_marks)

pub ruleset bad_form_rules = (part_formed, bad_forms)
