-- A run of the tool on bytes: what it makes of a command line, a store, a key and random bytes, and what it prints.
use Rattle.std.specs.Prelude.{ℕ, ◌*◌, ◌+◌, ◌≤◌, ◌≡◌, Bool, true, false, List, [], ◌++◌, take, drop, replicate}
use Rattle.scheme.specs.Labels.{Field}
use Rattle.scheme.specs.Call.{Call}
use Rattle.scheme.specs.Run.{perform}
use Rattle.scheme.specs.Store.{make}
use Rattle.scheme.specs.Keys.{insert_token_length, find_token_length, count_token_length, compaction_token_length, insert_token, find_token, count_token, compaction_token}
use Rattle.scheme.specs.Refusals.{insert_token_tests, field_token_tests, key_tests}
use Rattle.scheme.specs.Insert
use Rattle.scheme.specs.Find
use Rattle.scheme.specs.Count
use Rattle.scheme.specs.Compaction
use Rattle.suite.specs.Program.{program}
use Rattle.client.specs.Making.{field_of, making_answer}
use Rattle.store.specs.Check.{checked_of}
use Rattle.std.specs.Prelude.{Result}
use Rattle.answer.specs.declared.Refusal.{Refusal}
use Rattle.store.specs.declared.Shape.{Shape}
use Rattle.std.specs.Prelude.{Ok, Err}
use Rattle.text.specs.Ascii.{ascii}
use Rattle.words.specs.Line.{word_at}
use Rattle.operands.specs.Ids.{id_of, ids_of}
use Rattle.operands.specs.Token.{token_of, token_text}
use Rattle.request.specs.declared.Request.{Request}
use Rattle.request.specs.declared.Request.TheVariants.{Help, Misused, NotNumber, NotId, New, Key, Insert, Find, Count, Erase, Compact, Order, Show, Check, InsertToken, FindToken, CountToken, CompactionToken, InsertBy, FindBy, CountBy, CompactBy}
use Rattle.advice.specs.Advise.{no_room, room_for, room_of}
use Rattle.advice.specs.declared.Room.{Room}
use Rattle.outcome.specs.Told.{told, with_room, Roomed}
use Rattle.parts.specs.Parts.{parts_of}
use Rattle.commands.specs.Insert.{insert_result}
use Rattle.outcome.specs.declared.Outcome.{Outcome}
use Rattle.outcome.specs.declared.Outcome.TheVariants.{Number, Counted, Inspected, Compacted, Damaged, WrongKey, Refused, Done, BadWords}
use Rattle.buffer.specs.Put.{Put}
use Rattle.lines.specs.Answer.{answer_line, count_lines}
use Rattle.lines.specs.Ids.{hex_line, id_lines}
use Rattle.messages.specs.Message.{message_line}
use Rattle.show.specs.Show.{shape_lines}
use Rattle.diagnosis.specs.Diagnosis.{total_of, fault_lines}
use Rattle.usage.specs.Usage.{usage_line, help_text}
use Rattle.report.specs.declared.Ran.{Ran}

-- FIELD and VALUE
abbrev pub field_in : List ℕ → Field
field_in line = field_of (word_at 3 line) (word_at 4 line)

-- the line's token for a call that takes one of n bytes, where its file holds these bytes
abbrev pub token_in : ℕ → List ℕ → List ℕ → List ℕ
token_in n line held = token_of n (token_text line held)

-- the output that a find is lent: room for every row of M
unfoldable pub lent : List ℕ
lent = replicate 65536 0

-- whether a file is a store
abbrev pub show_by : Result Shape Refusal → Room → Outcome
show_by (Ok x) room = Done
show_by (Err r) room = Refused r room

abbrev pub show_of : List ℕ → Outcome
show_of before = show_by (checked_of before) (room_of before)

module _ (line before key random : List ℕ) where
  -- the outcome of a request, and the store after it: that of the call with the line's words. An insert takes the token's nonce
  -- first, then its others; a compaction takes all. With a token in place of a key, what stands for the key is the token's file
  abbrev pub Performed : Request → Outcome → List ℕ → Type 0
  Performed (Help c) o after = (o ≡ Done) × (after ≡ before)
  Performed (Misused c) o after = (o ≡ BadWords) × (after ≡ before)
  Performed (NotNumber i) o after = (o ≡ BadWords) × (after ≡ before)
  Performed (NotId i) o after = (o ≡ BadWords) × (after ≡ before)
  Performed (New p m c s r) o after =
      (told o ≡ (make (record { p = p; m = m; c = c; s = s; r = r }) before).answer)
      × ((o ≡ with_room no_room o) × (after ≡ (make (record { p = p; m = m; c = c; s = s; r = r }) before).store))
  Performed Key o after = (o ≡ Done) × (after ≡ before)
  Performed (Insert u n) o after =
      (told o ≡ (insert_result (checked_of before) before key (field_in line) u (take 12 random) (ids_of 6 n line) (drop 12 random)).answer)
      × ((after ≡ (insert_result (checked_of before) before key (field_in line) u (take 12 random) (ids_of 6 n line) (drop 12 random)).store)
      × Roomed before o)
  Performed (Find n) o after =
      (told o ≡ (perform program (Call.joint_find (parts_of line key n) lent) before).answer) × ((after ≡ before) × Roomed before o)
  Performed (Count rows) o after =
      (told o ≡ (perform program (Call.count key (field_in line)) before).answer) × ((after ≡ before) × Roomed before o)
  Performed Erase o after =
      (told o ≡ (perform program (Call.erase (id_of (word_at 2 line))) before).answer)
      × ((after ≡ (perform program (Call.erase (id_of (word_at 2 line))) before).store) × Roomed before o)
  Performed Compact o after =
      (told o ≡ (perform program (Call.compact key random) before).answer)
      × ((after ≡ (perform program (Call.compact key random) before).store) × Roomed before o)
  Performed Order o after =
      (told o ≡ (perform program Call.order before).answer) × ((after ≡ (perform program Call.order before).store) × Roomed before o)
  Performed Show o after = (o ≡ show_of before) × (after ≡ before)
  Performed Check o after = (told o ≡ (perform program Call.check before).answer) × ((after ≡ before) × Roomed before o)
  Performed (InsertToken p u) o after =
      (told o ≡ making_answer (insert_token_tests key (field_in line) p u random)) × ((o ≡ with_room (room_for p) o) × (after ≡ before))
  Performed FindToken o after =
      (told o ≡ making_answer (field_token_tests key (field_in line))) × ((o ≡ with_room no_room o) × (after ≡ before))
  Performed CountToken o after =
      (told o ≡ making_answer (field_token_tests key (field_in line))) × ((o ≡ with_room no_room o) × (after ≡ before))
  Performed CompactionToken o after = (told o ≡ making_answer (key_tests key)) × ((o ≡ with_room no_room o) × (after ≡ before))
  Performed (InsertBy n) o after =
      (told o ≡ (Insert.insert program before (ids_of 4 n line) random (token_in insert_token_length line key)).answer)
      × ((after ≡ (Insert.insert program before (ids_of 4 n line) random (token_in insert_token_length line key)).store) × Roomed before o)
  Performed FindBy o after =
      (told o ≡ (Find.find program before (token_in find_token_length line key) lent).answer) × ((after ≡ before) × Roomed before o)
  Performed (CountBy rows) o after =
      (told o ≡ (Count.count program before (token_in count_token_length line key)).answer) × ((after ≡ before) × Roomed before o)
  Performed CompactBy o after =
      (told o ≡ (Compaction.compact program before random (token_in compaction_token_length line key)).answer)
      × ((after ≡ (Compaction.compact program before random (token_in compaction_token_length line key)).store) × Roomed before o)

-- a find's ids, each on a line; or its refusal
abbrev pub found_text : Outcome → List ℕ → List ℕ
found_text (Number n) ids = id_lines n ids
found_text (Counted n rows) ids = answer_line (Counted n rows)
found_text (Inspected f) ids = answer_line (Inspected f)
found_text (Compacted t) ids = answer_line (Compacted t)
found_text (Damaged t) ids = answer_line (Damaged t)
found_text (WrongKey t) ids = answer_line (WrongKey t)
found_text (Refused r room) ids = answer_line (Refused r room)
found_text Done ids = answer_line Done
found_text BadWords ids = answer_line BadWords

-- a count, and on another line the rows looked at; or its refusal [02:W3.8]
abbrev pub rows_text : Outcome → List ℕ
rows_text (Number n) = answer_line (Number n)
rows_text (Counted n rows) = count_lines n rows
rows_text (Inspected f) = answer_line (Inspected f)
rows_text (Compacted t) = answer_line (Compacted t)
rows_text (Damaged t) = answer_line (Damaged t)
rows_text (WrongKey t) = answer_line (WrongKey t)
rows_text (Refused r room) = answer_line (Refused r room)
rows_text Done = answer_line Done
rows_text BadWords = answer_line BadWords

-- the rows are told where they are asked for
abbrev pub count_text : Bool → Outcome → List ℕ
count_text true o = rows_text o
count_text false o = answer_line o

-- so many bytes hold a find's ids
abbrev pub Holds : Outcome → ℕ → Type 0
Holds (Number n) room = 16 * n ≤ room
Holds (Counted n rows) room = Unit {0}
Holds (Inspected f) room = Unit {0}
Holds (Compacted t) room = Unit {0}
Holds (Damaged t) room = Unit {0}
Holds (WrongKey t) room = Unit {0}
Holds (Refused r x) room = Unit {0}
Holds Done room = Unit {0}
Holds BadWords room = Unit {0}

-- a token's digits on a line; or the refusal of its making
abbrev pub made_text : Outcome → List ℕ → List ℕ
made_text (Number n) token = answer_line (Number n)
made_text (Counted n rows) token = answer_line (Counted n rows)
made_text (Inspected f) token = answer_line (Inspected f)
made_text (Compacted t) token = answer_line (Compacted t)
made_text (Damaged t) token = answer_line (Damaged t)
made_text (WrongKey t) token = answer_line (WrongKey t)
made_text (Refused r room) token = answer_line (Refused r room)
made_text Done token = hex_line token
made_text BadWords token = answer_line BadWords

-- how full a store is; or the refusal of what is none
abbrev pub shown_text : Result Shape Refusal → Outcome → List ℕ
shown_text (Ok x) o = shape_lines x
shown_text (Err r) o = answer_line o

-- the lines of what a check counted; or its refusal [check:12]
abbrev pub check_text : Outcome → List ℕ
check_text (Number n) = answer_line (Number n)
check_text (Counted n rows) = answer_line (Counted n rows)
check_text (Inspected f) = fault_lines f
check_text (Compacted t) = answer_line (Compacted t)
check_text (Damaged t) = answer_line (Damaged t)
check_text (WrongKey t) = answer_line (WrongKey t)
check_text (Refused r room) = answer_line (Refused r room)
check_text Done = answer_line Done
check_text BadWords = answer_line BadWords

-- each of a check's seven numbers is at most the rows of a table
abbrev pub Few : Outcome → Type 0
Few (Number n) = Unit {0}
Few (Counted n rows) = Unit {0}
Few (Inspected f) = total_of f ≤ 28672
Few (Compacted t) = Unit {0}
Few (Damaged t) = Unit {0}
Few (WrongKey t) = Unit {0}
Few (Refused r room) = Unit {0}
Few Done = Unit {0}
Few BadWords = Unit {0}

-- what standard output gets
abbrev pub out_text : Request → List ℕ → List ℕ → List ℕ → List ℕ → Outcome → List ℕ
out_text (Help c) line before key random o = help_text c
out_text (Misused c) line before key random o = answer_line o
out_text (NotNumber i) line before key random o = answer_line o
out_text (NotId i) line before key random o = answer_line o
out_text (New p m c s r) line before key random o = answer_line o
out_text Key line before key random o = answer_line o
out_text (Insert u n) line before key random o = answer_line o
out_text (Find n) line before key random o = found_text o (perform program (Call.joint_find (parts_of line key n) lent) before).output
out_text (Count rows) line before key random o = count_text rows o
out_text Erase line before key random o = answer_line o
out_text Compact line before key random o = answer_line o
out_text Order line before key random o = answer_line o
out_text Show line before key random o = shown_text (checked_of before) o
out_text Check line before key random o = check_text o
out_text (InsertToken p u) line before key random o = made_text o (insert_token program key (field_in line) p u random)
out_text FindToken line before key random o = made_text o (find_token program key (field_in line))
out_text CountToken line before key random o = made_text o (count_token program key (field_in line))
out_text CompactionToken line before key random o = made_text o (compaction_token program key)
out_text (InsertBy n) line before key random o = answer_line o
out_text FindBy line before key random o = found_text o (Find.find program before (token_in find_token_length line key) lent).output
out_text (CountBy rows) line before key random o = count_text rows o
out_text CompactBy line before key random o = answer_line o

-- a word, and what it is not
abbrev pub bad_word : List ℕ → List ℕ → List ℕ
bad_word what word = what ++ (word ++ ascii "\n")

-- what standard error gets
abbrev pub err_text : Request → List ℕ → Outcome → List ℕ
err_text (Help c) line o = []
err_text (Misused c) line o = ascii "expected: " ++ usage_line c
err_text (NotNumber i) line o = bad_word (ascii "not a number below 1000000000: ") (word_at i line)
err_text (NotId i) line o = bad_word (ascii "not an id, which is 32 hex digits: ") (word_at i line)
err_text (New p m c s r) line o = message_line o 0
err_text Key line o = message_line o 0
err_text (Insert u n) line o = message_line o n
err_text (Find n) line o = message_line o 0
err_text (Count rows) line o = message_line o 0
err_text Erase line o = message_line o 0
err_text Compact line o = message_line o 0
err_text Order line o = message_line o 0
err_text Show line o = message_line o 0
err_text Check line o = message_line o 0
err_text (InsertToken p u) line o = message_line o 0
err_text FindToken line o = message_line o 0
err_text CountToken line o = message_line o 0
err_text CompactionToken line o = message_line o 0
err_text (InsertBy n) line o = message_line o n
err_text FindBy line o = message_line o 0
err_text (CountBy rows) line o = message_line o 0
err_text CompactBy line o = message_line o 0

-- what a run of a request gives: its outcome, the store after it and the texts at the start of two lent slices
pub record Ends (q : Request) (line before key random out err : List ℕ) (r : Ran) (after out_after err_after : List ℕ) : Type 0 where
  pub performed : Performed line before key random q r.outcome after
  pub output : Put out 0 (out_text q line before key random r.outcome) out_after r.out
  pub errors : Put err 0 (err_text q line r.outcome) err_after r.err
