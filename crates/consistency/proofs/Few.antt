-- Each number of a check is at most the rows of a table, so their sum is small.
use Prim.Native.Nat.{ℕ, ◌*◌, ◌≤◌}
use mathlib.Core.Path.{◌≡◌}
use mathlib.Core.Bool.{false, not}
use mathlib.Core.List.{List, [], ◌∷◌, map}
use native.Mathlib.Omega.{arith}
use lib.ListN.{length, take, drop, length-map}
use Rattle.table.specs.Lists.{same, any_of, sum, repeats_after, repeats, lacking}
use Rattle.table.specs.Table.{used}
use Rattle.table.proofs.Counting.{count-le}
use Rattle.table.proofs.Rows.{rows-length, free_used}
use Rattle.scheme.specs.Store.{Which, table_m, table_v, table_c, table_r, width_of, rows_of, start_of, cut, sizes_of, header_bad, reverse_id, reverse_tag, label_id}
use Rattle.scheme.specs.Check.{tags_in, reverse_tags, reverse_ids, label_ids, repeated_entries, repeated_counters, reverses_without_entry, entries_without_reverse, reverses_without_label, labels_without_reverse, labels_in_excess, faults}
use Rattle.repeats.proofs.Keys.{bit_le}
use Rattle.store.proofs.Laws.{good_header}

after_most : (seen xs : List (List ℕ)) → repeats_after seen xs ≤ length xs
after_most seen [] = omega arith
after_most seen (x ∷ xs) = omega (arith, bit_le (any_of (same x) seen), after_most (x ∷ seen) xs)

module _ (before : List ℕ) where
  used_most : (k : Which) → length (used ((cut before).table k)) ≤ rows_of (sizes_of before) k
  unfolding cut
  used_most k =
      let z = sizes_of before in
      omega (arith, free_used ((cut before).table k), rows-length (width_of k) (rows_of z k) (drop (start_of z k) before))

  repeats_most : (k : Which) (f : List ℕ → List ℕ) → repeats (map f (used ((cut before).table k))) ≤ rows_of (sizes_of before) k
  unfolding repeats
  repeats_most k f =
      let l = used ((cut before).table k) in
      omega (arith, after_most [] (map f l), length-map l f, used_most k)

  lacking_most : (k : Which) (f : List ℕ → List ℕ) (ys : List (List ℕ)) → lacking (map f (used ((cut before).table k))) ys ≤ rows_of (sizes_of before) k
  unfolding lacking
  lacking_most k f ys =
      let l = used ((cut before).table k) in
      omega (arith, count-le (λ (x : List ℕ). not (any_of (same x) ys)) (map f l), length-map l f, used_most k)

  pub faults_few : header_bad before ≡ false → sum (faults (cut before)) ≤ 7 * 4096
  unfolding repeated_entries repeated_counters reverses_without_entry entries_without_reverse reverses_without_label labels_without_reverse labels_in_excess faults
  faults_few h =
      let z = (good_header before h).range in
      let t = (cut before).table in
      omega (arith, z.m_most, z.c_most, z.r_most, repeats_most table_m (take 32), repeats_most table_c (take 32), lacking_most table_v reverse_tag (tags_in (t table_m)), lacking_most table_m (take 32) (reverse_tags (t table_v)), lacking_most table_v reverse_id (label_ids (t table_r)), lacking_most table_r label_id (reverse_ids (t table_v)), used_most table_r)
