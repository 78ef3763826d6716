-- The lemmas that functions' attributes name.
use Rattle.counter.proofs.Readings.{anchor_numbers_are, anchors_are, counted, counter_numbers_are, counters_are, damaged_anchor, damaged_counter, places_are, places_kept, rows_are, rows_counter, rows_damage}
use Rattle.lookups.proofs.Walks.{tally_small}
use Rattle.table.proofs.Counting.{neither}
use Rattle.table.proofs.Rows.{rows-length}
use borrow.Author.Tests.{ltb-false}

pub ruleset read_by_rules = (neither, anchors_are, anchor_numbers_are, counters_are, counter_numbers_are, damaged_anchor, damaged_counter, counted, places_kept, places_are, rows_damage, rows_counter, rows_are, tally_small, rows-length, ltb-false)
