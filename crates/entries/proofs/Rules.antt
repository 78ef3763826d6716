-- The lemmas that functions' attributes name.
use Rattle.entries.proofs.Laws.{length_entries, length_labels, length_reverses, made_entry, made_label, made_reverse, piece_long, take_done, take_more}
use Rattle.table.proofs.Rows.{rows-length}

pub ruleset label_new_rows_rules = (piece_long, take_more, take_done, length_labels, made_label, rows-length)

pub ruleset new_rows_rules = (piece_long, take_more, take_done, length_entries, length_reverses, made_entry, made_reverse, rows-length)
