-- What standard output gets of a command's outcome.
use Rattle.std.specs.Prelude.{ℕ, List, [], ◌++◌}
use Rattle.answer.specs.Answer.{number_of}
use Rattle.text.specs.Ascii.{ascii}
use Rattle.outcome.specs.declared.Outcome.{Outcome}
use Rattle.outcome.specs.declared.Outcome.TheVariants.{Number, Counted, Inspected, Compacted, Damaged, WrongKey, Refused, Done, BadWords}
use Rattle.buffer.specs.Decimal.{counted}
use Rattle.tally.specs.Line.{tally_line}

-- scripts go by the first word
unfoldable pub refused_line : ℕ → List ℕ
refused_line n = ascii "refused " ++ counted n (ascii "\n")

-- a count's line is the count alone; a check's lines are not here (crates/diagnosis)
unfoldable pub answer_line : Outcome → List ℕ
answer_line (Number n) = counted n (ascii "\n")
answer_line (Counted n rows) = counted n (ascii "\n")
answer_line (Inspected f) = []
answer_line (Compacted t) = tally_line t
answer_line (Damaged t) = refused_line 13
answer_line (WrongKey t) = ascii "refused\n"
answer_line (Refused r room) = refused_line (number_of r)
answer_line Done = []
answer_line BadWords = ascii "misused\n"

-- a count and the rows looked at, where they are asked for [02:W3.8]
unfoldable pub count_lines : ℕ → ℕ → List ℕ
count_lines n rows = counted n (ascii "\n") ++ (ascii "rows looked at: " ++ counted rows (ascii "\n"))
