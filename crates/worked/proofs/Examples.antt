-- The worked examples hold: the checker runs the lists of calls, on the store in the suite that computes.
use mathlib.Core.Path.{refl}
use Rattle.table.specs.Lists.{All, repeats, lacking}
use Rattle.table.specs.Table.{lookup, holds, place_of}
use Rattle.scheme.specs.Suite.{number8, value_of}
use Rattle.scheme.specs.Labels.{same_field, field_lengths_bad, sevens, label}
use Rattle.scheme.specs.Keys.{KM, KC, KS, field_mt, field_me, field_cl, share, MT, ME, CL, CT, CE, insert_token, find_token, count_token, compaction_token, RL, mark_token, part_token, token_p, token_mt, token_me, token_cl, token_log, token_rl, find_mt, find_me, find_cl, part_find, part_rl}
use Rattle.scheme.specs.Store.{sizes_bad, length_for, header_of, sizes_of, cut, joined, header_bad, marks_bad, form_bad, mark_tests, state_tests, fresh, entry_tag, entry_row, reverse_row, counter_tag, anchor_tag, counted_row, counter_row, anchor_row, id_in, plain_in, cl_in, log_row, reverse_id, reverse_tag, r_mark, label_row, label_id, label_nonce, label_mark}
use Rattle.scheme.specs.Reading.{numbers_at, anchors_held, anchor_numbers, start_of, counters_held, counter_numbers, is_damage, reading}
use Rattle.scheme.specs.Refusals.{insert_token_tests, field_token_tests, key_tests, insert_input_tests, id_tests, compaction_input_tests, token_tests, part_tests}
use Rattle.scheme.specs.Insert
use Rattle.scheme.specs.Insert.{insert_reading, new_count, insert_state_tests, insert_verdict, new_entries, new_reverses, new_counter, new_log, counter_nonce, label_nonces, new_labels, inserted_store}
use Rattle.scheme.specs.Erase.{erase_verdict, is_reverse, erased_tags, is_erased, is_label, erased_store, erase}
use Rattle.scheme.specs.Find.{share_reading, ids_of_share, ids_held, ids_found, find_verdict, find}
use Rattle.scheme.specs.Count
use Rattle.scheme.specs.Count.{count_verdict, sum_of_counts}
use Rattle.scheme.specs.Test
use Rattle.scheme.specs.Test.{carries, test_verdict}
use Rattle.scheme.specs.JointFind
use Rattle.scheme.specs.JointFind.{part_damaged, part_sum, part_ids, part_test, chosen_at, chosen_part, ids_kept, joint_verdict}
use Rattle.scheme.specs.Compaction
use Rattle.scheme.specs.Compaction.{freed_counters, next_anchor, anchored_table, log_of, free_log, compact_verdict, logged, compacted_store, treated}
use Rattle.scheme.specs.Order
use Rattle.scheme.specs.Order.{used_in_all, order_verdict, ordered_store}
use Rattle.scheme.specs.Check
use Rattle.scheme.specs.Check.{repeated_entries, repeated_counters, reverses_without_entry, entries_without_reverse, reverses_without_label, labels_without_reverse, labels_in_excess, faults, check_verdict}
use Rattle.table.specs.Order.{in_form, arranged, reordered, with_rows, closed}
use Rattle.scheme.specs.Ledger.{same_pair, empty, H, removed, with_pair, ledger_insert_verdict, appended, after_insert, after_erase, ledger_lists, ledger_ids, ledger_sum, ledger_find_verdict, ledger_has, ledger_joint_verdict, ledger_compact_verdict, after_compaction, ledger_step}
use Rattle.scheme.specs.Example.{Holds}
use Rattle.scheme.specs.Examples.{examples}
use Rattle.octets.specs.Number.{bytes, continued}
use Rattle.scheme.specs.Run.{insert_call, find_call, count_call, compact_call, test_call, joint_call}
use Rattle.scheme.proofs.Examples.{small}

pub examples_hold : All Holds (examples small)
unfolding bytes continued lookup holds place_of number8 value_of same_field field_lengths_bad sevens label KM KC KS field_mt field_me field_cl share MT ME CL CT CE insert_token find_token count_token compaction_token token_p token_mt token_me token_cl token_log find_mt find_me find_cl sizes_bad length_for header_of sizes_of cut joined header_bad marks_bad state_tests fresh entry_tag entry_row reverse_row counter_tag anchor_tag counted_row counter_row anchor_row id_in plain_in cl_in log_row reverse_id reverse_tag numbers_at anchors_held anchor_numbers start_of counters_held counter_numbers is_damage reading insert_token_tests field_token_tests key_tests insert_input_tests id_tests compaction_input_tests token_tests insert_reading new_count insert_state_tests insert_verdict new_entries new_reverses new_counter new_log inserted_store erase_verdict is_reverse erased_tags is_erased erased_store erase share_reading ids_of_share ids_held ids_found find_verdict find count_verdict sum_of_counts Count.count log_of free_log compact_verdict freed_counters next_anchor logged compacted_store same_pair empty H removed with_pair ledger_insert_verdict appended after_insert after_erase ledger_lists ledger_ids ledger_sum ledger_find_verdict ledger_compact_verdict after_compaction ledger_step Insert.insert Compaction.compact treated anchored_table in_form arranged reordered with_rows closed form_bad mark_tests used_in_all order_verdict ordered_store Order.order RL mark_token part_token token_rl part_find part_rl r_mark label_row label_id label_nonce label_mark part_tests counter_nonce label_nonces new_labels is_label carries Test.tests test_verdict Test.test part_damaged part_sum part_ids part_test chosen_at chosen_part ids_kept joint_verdict JointFind.joint_find ledger_has ledger_joint_verdict repeats lacking repeated_entries repeated_counters reverses_without_entry entries_without_reverse reverses_without_label labels_without_reverse labels_in_excess faults check_verdict Check.check insert_call find_call count_call compact_call test_call joint_call
examples_hold = (refl, (refl, (refl, (refl, (refl, (refl, (refl, (refl, (refl, (refl, (refl, (refl, (refl, (refl, (refl, (refl, (refl, tt)))))))))))))))))
