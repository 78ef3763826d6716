-- A check tells seven zeros, as the ledger does: the rows of M and V are the images of one list of items, those of V and R have the same
-- ids, and no tag stands twice in M or C.
use Prim.Native.Nat.{ℕ, ◌-◌, ◌≤◌}
use mathlib.Core.Path.{◌≡◌, refl, sym, ap, ◌∙◌}
use mathlib.Core.Option.{none}
use mathlib.Core.List.{List, [], map, append-nil}
use native.Mathlib.Omega.{arith}
use lib.ListN.{length, take, replicate}
use Rattle.table.specs.Lists.{same, count, All, Same}
use Rattle.answer.specs.Answer.{done}
use Rattle.answer.specs.Verdict.{verdict}
use Rattle.table.specs.Table.{Table, used, has_tag}
use Rattle.table.proofs.Counting.{same_sym, count_map, count_ext, count_agree, all_map, Same-sym, Same-trans}
use Rattle.table.proofs.Repeats.{once_all, repeats_none, lacking_same}
use Rattle.scheme.specs.Store.{Which, table_m, table_v, table_c, table_r, state_tests, reverse_id, reverse_tag, label_id}
use Rattle.scheme.specs.Check
use Rattle.scheme.specs.Check.{tags_in, reverse_tags, reverse_ids, label_ids, repeated_entries, repeated_counters, reverses_without_entry, entries_without_reverse, reverses_without_label, labels_without_reverse, labels_in_excess, faults, check_verdict}
use Rattle.scheme.specs.Call.{Call}
use Rattle.scheme.specs.Ledger.{Ledger, listed, ledger_step}
use Rattle.scheme.specs.Run.{told_by}
use Rattle.scheme.proofs.Setting.{Setting, mtag}
use Rattle.scheme.proofs.Entries.{Item, Good, at, item_m, item_v, item_m_tag, item_v_tag, item_v-id, tag_agrees}
use Rattle.scheme.proofs.Marks
use Rattle.scheme.proofs.Marks.{item_r, item_r-id}
use Rattle.scheme.proofs.Simulation.{Sim, used_v, used_r, later}
use Rattle.scheme.proofs.Queries.{After, cut_is, states_pass}

-- a part of each row, where the rows are the images of items
parts_same : {A : Type 0} (P : A → Type 0) (rows : List (List ℕ)) (G : List A) (image own : A → List ℕ) (part : List ℕ → List ℕ)
    → Same rows (map image G) → ((g : A) → P g → part (image g) ≡ own g) → All P G → Same (map part rows) (map own G)
parts_same P rows G image own part s e a = record {
  counts = λ p.
      count_map part p rows
      ∙ s.counts (λ b. p (part b))
      ∙ count_map image (λ b. p (part b)) G
      ∙ count_agree P (λ g. p (part (image g))) (λ g. p (own g)) (λ g h. ap p (e g h)) G a
      ∙ sym (count_map own p G);
}

module _ (x : Setting) (i : ℕ) (before : List ℕ) (l : Ledger) (hi : i ≤ length x.calls) (s : Sim x i before l) where
  open x use {suite, K, z, calls}

  abbrev rows_in : Which → Table
  rows_in k = s.st.table k

  abbrev G : List Item
  G = s.entries.G

  abbrev itag : Item → List ℕ
  itag g = mtag x g.pair g.address

  entry_tags : Same (tags_in (rows_in table_m)) (map itag G)
  entry_tags = parts_same (Good x) (used (rows_in table_m)) G (item_m x) itag (take 32) s.entries.rows_m (λ g h. item_m_tag x g) s.entries.good

  reverse_tags_lem : Same (reverse_tags (rows_in table_v)) (map itag G)
  reverse_tags_lem = parts_same (Good x) (used (rows_in table_v)) G (item_v x) itag reverse_tag s.entries.rows_v (item_v_tag x) s.entries.good

  reverse_ids_lem : Same (reverse_ids (rows_in table_v)) (listed l.entries)
  reverse_ids_lem =
      Same-trans _ _ _ (parts_same (Good x) (used (rows_in table_v)) G (item_v x) (λ (g : Item). g.id) reverse_id s.entries.rows_v (item_v-id x) s.entries.good)
      (Same-sym _ _ s.entries.listing)

  label_ids_lem : Same (label_ids (rows_in table_r)) (listed l.entries)
  label_ids_lem =
      Same-trans _ _ _ (parts_same (Marks.Good x) (used (rows_in table_r)) s.marks.G (item_r x) (λ (g : Marks.Item). g.id) label_id s.marks.rows_r (item_r-id x) s.marks.good)
      (Same-sym _ _ s.marks.listing)

  -- a tag of M is one item's
  item_once : (g : Item) → Good x g → count (λ h. same (itag g) (itag h)) G ≤ 1
  item_once g k =
      let e = count_agree (Good x) (λ h. same (itag g) (itag h)) (at g.pair g.address)
      (λ h good. same_sym (itag g) (itag h) ∙ ap (λ (t : List ℕ). same t (itag g)) (sym (item_m_tag x h)) ∙ tag_agrees x g.pair g.address k.ok k.low k.high h good) G s.entries.good in
      let o = s.entries.once g.pair g.address k.ok in
      omega arith

  entries_once : repeated_entries s.st ≡ 0
  unfolding repeated_entries
  entries_once = repeats_none (tags_in (rows_in table_m)) (λ y.
      let e = entry_tags.counts (same y) ∙ count_map itag (same y) G in
      let o = once_all itag G (all_map item_once G s.entries.good) y in
      omega arith)

  counters_once : repeated_counters s.st ≡ 0
  unfolding repeated_counters
  counters_once = repeats_none (tags_in (rows_in table_c)) (λ y.
      let e = count_map (take 32) (same y) (used (rows_in table_c)) ∙ count_ext (λ b. same y (take 32 b)) (has_tag y) (λ b. same_sym y (take 32 b)) (used (rows_in table_c)) in
      let o = s.counters.once y in
      omega arith)

  faults_none : faults s.st ≡ replicate 7 0
  unfolding faults reverses_without_entry entries_without_reverse reverses_without_label labels_without_reverse labels_in_excess
  faults_none =
      let tags : Same (reverse_tags (rows_in table_v)) (tags_in (rows_in table_m)) = Same-trans _ _ _ reverse_tags_lem (Same-sym _ _ entry_tags) in
      let ids : Same (reverse_ids (rows_in table_v)) (label_ids (rows_in table_r)) = Same-trans _ _ _ reverse_ids_lem (Same-sym _ _ label_ids_lem) in
      let excess : length (used (rows_in table_r)) - length (used (rows_in table_v)) ≡ 0 = omega (arith, used_v x i before l s, used_r x i before l s) in
      rw (
        entries_once,
        counters_once,
        lacking_same _ _ tags,
        lacking_same _ _ (Same-sym _ _ tags),
        lacking_same _ _ ids,
        lacking_same _ _ (Same-sym _ _ ids),
        excess,
      ) refl

  check_verdict_lem : check_verdict before ≡ none
  unfolding check_verdict
  check_verdict_lem = ap verdict (sym (append-nil (state_tests before))) ∙ states_pass x i before l hi s []

  -- a check is not refused, and all its numbers are 0
  pub check_none : (Check.check before).answer ≡ done (replicate 7 0)
  unfolding Check.check
  check_none = rw (check_verdict_lem, cut_is x i before l hi s, faults_none) refl

  pub check_step : After x i Call.check l (told_by Call.check (Check.check before)) (Check.check before).store
  unfolding ledger_step Check.check
  check_step = record { told_is = rw check_none refl; sim = later x i before l hi s }
