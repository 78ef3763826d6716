-- The request "Check": what can be seen of a store without a key. Seven numbers of rows that do not go together.
use Rattle.std.specs.Prelude.{ℕ, ◌-◌, List, [], ◌∷◌, map, length, take}
use Rattle.std.proofs.Math.Option.{Option}
use Rattle.table.specs.Lists.{repeats, lacking}
use Rattle.table.specs.Table.{Table, used}
use Rattle.answer.specs.Answer.{Answer, done}
use Rattle.answer.specs.Verdict.{verdict, answer_or}
use Rattle.scheme.specs.Store.{Store, table_m, table_v, table_c, table_r, cut, state_tests, reverse_id, reverse_tag, label_id}
use Rattle.scheme.specs.Refusals.{Result}

-- the tags of M or C; the tags and the ids in V; the ids in R: those of the used rows, in order of index
abbrev pub tags_in : Table → List (List ℕ)
tags_in t = map (take 32) (used t)

abbrev pub reverse_tags : Table → List (List ℕ)
reverse_tags t = map reverse_tag (used t)

abbrev pub reverse_ids : Table → List (List ℕ)
reverse_ids t = map reverse_id (used t)

abbrev pub label_ids : Table → List (List ℕ)
label_ids t = map label_id (used t)

module _ (st : Store) where
  -- rows of M whose tag a row of M before them has [check:2]
  unfoldable pub repeated_entries : ℕ
  repeated_entries = repeats (tags_in (st.table table_m))

  -- rows of C whose tag a row of C before them has [check:3]
  unfoldable pub repeated_counters : ℕ
  repeated_counters = repeats (tags_in (st.table table_c))

  -- rows of V whose tag no row of M has [check:4]
  unfoldable pub reverses_without_entry : ℕ
  reverses_without_entry = lacking (reverse_tags (st.table table_v)) (tags_in (st.table table_m))

  -- rows of M whose tag no row of V has [check:5]
  unfoldable pub entries_without_reverse : ℕ
  entries_without_reverse = lacking (tags_in (st.table table_m)) (reverse_tags (st.table table_v))

  -- rows of V whose id no row of R has [check:6]
  unfoldable pub reverses_without_label : ℕ
  reverses_without_label = lacking (reverse_ids (st.table table_v)) (label_ids (st.table table_r))

  -- rows of R whose id no row of V has [check:7]
  unfoldable pub labels_without_reverse : ℕ
  labels_without_reverse = lacking (label_ids (st.table table_r)) (reverse_ids (st.table table_v))

  -- the used rows of R less those of V, where there are more [check:8]
  unfoldable pub labels_in_excess : ℕ
  labels_in_excess = length (used (st.table table_r)) - length (used (st.table table_v))

  unfoldable pub faults : List ℕ
  faults =
      repeated_entries
      ∷ repeated_counters
      ∷ reverses_without_entry
      ∷ entries_without_reverse
      ∷ reverses_without_label
      ∷ labels_without_reverse
      ∷ labels_in_excess
      ∷ []

module _ (before : List ℕ) where
  -- 10, 11, then 20 [check:1]
  unfoldable pub check_verdict : Option Answer
  check_verdict = verdict (state_tests before)

  -- the seven numbers; nothing changes [check:1]
  unfoldable pub check : Result
  check = record { answer = answer_or check_verdict (done (faults (cut before))); store = before; output = [] }
