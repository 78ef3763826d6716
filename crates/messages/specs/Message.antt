-- What standard error gets of a command's outcome: of a refusal, its number and what to do.
use Rattle.std.specs.Prelude.{ℕ, cond, List, [], ◌++◌, eqb}
use Rattle.answer.specs.Answer.{number_of}
use Rattle.text.specs.Ascii.{ascii}
use Rattle.advice.specs.Advise.{advice_of}
use denote.Enum.Declared.{tag_of}
use Rattle.advice.specs.contracts.Advice.{the_type}
use Rattle.advice.specs.declared.Advice.{Advice}
use Rattle.advice.specs.declared.Advice.TheVariants.{Key, Field, Share, Shares, Ids, Token, Sizes, NoStore, Old, Marks, Order, TokenShares, Damage, Count, Entries, Compact, Larger, Log, Labels, Output, Fault}
use Rattle.outcome.specs.declared.Outcome.{Outcome}
use Rattle.outcome.specs.declared.Outcome.TheVariants.{Number, Counted, Inspected, Compacted, Damaged, WrongKey, Refused, Done, BadWords}
use Rattle.buffer.specs.Decimal.{counted}
use Rattle.tally.specs.Line.{tally_line}

-- a number with the words for one, or for another number
unfoldable pub plural : ℕ → List ℕ → List ℕ → List ℕ
plural n one many = counted n (cond (eqb n 1) one many)

-- room for n more, in words for one and for others, where so many were given
unfoldable pub room_sentence : ℕ → ℕ → List ℕ → List ℕ → List ℕ
room_sentence n given one many =
    ascii "the store has room for "
    ++ (plural n one many
    ++ (plural given (ascii " was given") (ascii " were given")
    ++ ascii ": compact does not help, erase ids or make a larger store\n"))

-- an advice's place among all of them
abbrev pub place_of : Advice → ℕ
place_of a = tag_of the_type a

-- what is wrong, and what to do
unfoldable pub sentence_of : Advice → ℕ → List ℕ
sentence_of Key given = ascii "the key file must hold 32 bytes: make one with mazhkuri key KEYFILE\n"
sentence_of Field given = ascii "FIELD must be 1 to 255 bytes long and VALUE at most 1024: shorten them\n"
sentence_of (Share p) given = ascii "SHARE must be 0 to " ++ counted p (ascii ", which is P: give one of these\n")
sentence_of Shares given = ascii "P must be 0 to 15, and SHARE 0 to P: give others\n"
sentence_of Ids given = ascii "an insert takes 1 to 64 ids: give more or fewer\n"
sentence_of Token given = ascii "this is no token for this command: make one with mazhkuri token\n"
sentence_of Sizes given = ascii "P must be 0 to 15, and M, C, S and R 1 to 4096 each: choose other sizes\n"
sentence_of NoStore given =
    ascii "the file is no store, or not whole: its header or its length is wrong: check the name, or take a copy that is whole\n"
sentence_of Old given = ascii "this is a store of version 1, which an earlier mazhkuri made: make a new one with mazhkuri new, and insert the ids again\n"
sentence_of Marks given = ascii "a row of the file is marked neither free nor used: it was damaged: take a copy that is whole\n"
sentence_of Order given = ascii "a table of the store is not in byte order: something else wrote it, or it was changed: copy it, then run mazhkuri order STORE\n"
sentence_of (TokenShares p) given = ascii "the token was made for another P than the store's, which is " ++ counted p (ascii ": make one for this P\n")
sentence_of Damage given = ascii "a counter in the file does not hold what was written: it was damaged: take a copy that is whole\n"
sentence_of Count given = ascii "the count of this share would pass 4294967295: use another share\n"
sentence_of (Entries n) given = room_sentence n given (ascii " more entry, ") (ascii " more entries, ")
sentence_of Compact given = ascii "no counter row is free: compact the store, then insert again\n"
sentence_of Larger given = ascii "no counter row is free: compact does not help, make a larger store\n"
sentence_of Log given = ascii "no log row is free: compact the store, then insert again\n"
sentence_of (Labels n) given = room_sentence n given (ascii " more label, ") (ascii " more labels, ")
sentence_of (Output n) given = counted n (ascii " ids were found, more than a store of this form holds: it was made by something else\n")
sentence_of Fault given = ascii "the tool made a wrong call: please report this\n"

-- the ids given stand in what 15 and 21 say; a compaction that met damage says what it had done
unfoldable pub message_line : Outcome → ℕ → List ℕ
message_line (Number n) given = []
message_line (Counted n rows) given = []
message_line (Inspected f) given = []
message_line (Compacted t) given = []
message_line (Damaged t) given =
    ascii "13: a counter in the file does not hold what was written: it was damaged; anchors written and counters freed before it: "
    ++ tally_line t
message_line (WrongKey t) given =
    ascii "none of the logged counters was found: this key is not the one that the store was filled with, or the file was damaged: nothing was changed\n"
message_line (Refused r room) given =
    counted (number_of r) (ascii ": ") ++ sentence_of (advice_of r room) given
message_line Done given = []
message_line BadWords given = []
