-- What a compaction has done, as a line.
use Rattle.std.specs.Prelude.{ℕ, List, ◌++◌}
use Rattle.text.specs.Ascii.{ascii}
use Rattle.answer.specs.declared.Tally.{Tally}
use Rattle.buffer.specs.Decimal.{counted}

-- anchors written and counters freed
unfoldable pub tally_line : Tally → List ℕ
tally_line t = counted t.anchors (ascii " ") ++ counted t.counters (ascii "\n")
