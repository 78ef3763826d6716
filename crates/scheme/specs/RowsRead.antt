-- Document 02, "Stop early, and say the rows read": the rows looked at by a count's reading of a share.
use Rattle.std.specs.Prelude.{ℕ, zero, suc, ◌+◌, min, List}
use Rattle.table.specs.Table.{Table}
use Rattle.table.specs.Looked.{looked_at}
use Rattle.scheme.specs.Suite.{Suite}
use Rattle.scheme.specs.Store.{counter_tag, anchor_tag}
use Rattle.scheme.specs.Reading.{anchors_held, start_of, counters_held}

-- over the lookups of the n numbers after i, once each [02:W3.6]
abbrev pub looked_over : (ℕ → List ℕ) → Table → ℕ → ℕ → ℕ
looked_over tag t i zero = zero
looked_over tag t i (suc n) = looked_at (tag (suc i)) t + looked_over tag t (suc i) n

module _ (suite : Suite) (c : ℕ) (cl : List ℕ) (t : Table) where
  -- anchors 1 to B + 1, never more than c [02:W3.4 W3.7]
  unfoldable pub anchor_rows : ℕ
  anchor_rows = looked_over (anchor_tag suite cl) t 0 (min (suc (anchors_held suite c cl t)) c)

  -- counters Start + 1 to Start + k + 1, never more than c [02:W3.5 W3.7]
  unfoldable pub counter_rows : ℕ
  counter_rows = looked_over (counter_tag suite cl) t (start_of suite c cl t) (min (suc (counters_held suite c cl t)) c)

  -- of both kinds [02:W3.8]
  unfoldable pub reading_rows : ℕ
  reading_rows = anchor_rows + counter_rows
