-- Lines that the definitions give, read off.
use mathlib.Core.Path.{◌≡◌, refl}
use mathlib.Core.Bool.{false}
use Rattle.answer.specs.declared.Refusal.TheVariants.{EntryRows}
use Rattle.text.specs.Ascii.{ascii}
use Rattle.outcome.specs.declared.Outcome.TheVariants.{Number, Counted, Compacted, Refused}
use Rattle.buffer.specs.Decimal.{spelled, decimal_text}
use Rattle.tally.specs.Line.{tally_line}
use Rattle.lines.specs.Answer.{refused_line, answer_line, count_lines}

number : answer_line (Number 4294967295) ≡ ascii "4294967295\n"
unfolding spelled decimal_text tally_line refused_line answer_line
number = refl

none : answer_line (Number 0) ≡ ascii "0\n"
unfolding spelled decimal_text tally_line refused_line answer_line
none = refl

alone : answer_line (Counted 3 17) ≡ ascii "3\n"
unfolding spelled decimal_text tally_line refused_line answer_line
alone = refl

with_rows : count_lines 3 17 ≡ ascii "3\nrows looked at: 17\n"
unfolding spelled decimal_text count_lines
with_rows = refl

compacted : answer_line (Compacted (record { anchors = 2; counters = 10 })) ≡ ascii "2 10\n"
unfolding spelled decimal_text tally_line refused_line answer_line
compacted = refl

refused : answer_line (Refused EntryRows (record { p = 1; entries = 1; labels = 3; logged = 0; old = false })) ≡ ascii "refused 15\n"
unfolding spelled decimal_text tally_line refused_line answer_line
refused = refl
