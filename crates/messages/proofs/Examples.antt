-- Messages that the definitions give, read off.
use mathlib.Core.Path.{◌≡◌, refl}
use mathlib.Core.Bool.{true, false}
use Rattle.answer.specs.declared.Refusal.TheVariants.{Header, EntryRows, LabelRows}
use Rattle.text.specs.Ascii.{ascii}
use Rattle.outcome.specs.declared.Outcome.TheVariants.{Refused}
use Rattle.buffer.specs.Decimal.{spelled, decimal_text}
use Rattle.messages.specs.Message.{plural, room_sentence, sentence_of, message_line}

full : message_line (Refused EntryRows (record { p = 1; entries = 1; labels = 3; logged = 0; old = false })) 2
    ≡ ascii "15: the store has room for 1 more entry, 2 were given: compact does not help, erase ids or make a larger store\n"
unfolding spelled decimal_text plural room_sentence sentence_of message_line
full = refl

labelled : message_line (Refused LabelRows (record { p = 1; entries = 3; labels = 0; logged = 0; old = false })) 1
    ≡ ascii "21: the store has room for 0 more labels, 1 was given: compact does not help, erase ids or make a larger store\n"
unfolding spelled decimal_text plural room_sentence sentence_of message_line
labelled = refl

old : message_line (Refused Header (record { p = 0; entries = 0; labels = 0; logged = 0; old = true })) 0
    ≡ ascii "10: this is a store of version 1, which an earlier mazhkuri made: make a new one with mazhkuri new, and insert the ids again\n"
unfolding spelled decimal_text sentence_of message_line
old = refl
