-- The rules' view of what the tool tells of a command.
use Rattle.std.specs.Prelude.{ℕ, ◌≡◌, Bool, true, false, cond, List, [], ◌∷◌, ltb}
use Rattle.answer.specs.Answer.{Answer, done, refused, refusal, faults_of}
use Rattle.advice.specs.Advise.{room_of}
use Rattle.answer.specs.declared.Tally.{Tally}
use Rattle.advice.specs.declared.Room.{Room}
use Rattle.outcome.specs.declared.Outcome.{Outcome}
use Rattle.outcome.specs.declared.Outcome.TheVariants.{Number, Counted, Inspected, Compacted, Damaged, WrongKey, Refused, Done, BadWords}

-- the answer that an outcome tells; words that ask for nothing have no answer of a call, and 0 is no rule's number
abbrev pub told : Outcome → Answer
told (Number n) = done (n ∷ [])
told (Counted n rows) = done (n ∷ rows ∷ [])
told (Inspected f) = done (faults_of f)
told (Compacted t) = done (t.anchors ∷ t.counters ∷ [])
told (WrongKey t) = done (t.anchors ∷ t.counters ∷ [])
told (Damaged t) = refused 13 (t.anchors ∷ t.counters ∷ [])
told (Refused r room) = refusal r
told Done = done []
told BadWords = refused 0 []

abbrev pub pick_outcome : Bool → Outcome → Outcome → Outcome
pick_outcome true a b = a
pick_outcome false a b = b

-- rows of S are used, and no anchor was written for them
abbrev pub is_wrong_key : ℕ → ℕ → Bool
is_wrong_key logged anchors = cond (ltb logged 1) false (ltb anchors 1)

-- a compaction that was done, where so many rows of S were used before it
abbrev pub compacted : ℕ → Tally → Outcome
compacted logged t = pick_outcome (is_wrong_key logged t.anchors) (WrongKey t) (Compacted t)

-- an outcome as a store with this room tells it: its refusal has the room, and its compaction goes by the rows of S that were used
abbrev pub with_room : Room → Outcome → Outcome
with_room x (Number n) = Number n
with_room x (Counted n rows) = Counted n rows
with_room x (Inspected f) = Inspected f
with_room x (Compacted t) = compacted x.logged t
with_room x (WrongKey t) = compacted x.logged t
with_room x (Damaged t) = Damaged t
with_room x (Refused r room) = Refused r x
with_room x Done = Done
with_room x BadWords = BadWords

-- what is said of a refusal goes by the room that the store had before the call
abbrev pub Roomed : List ℕ → Outcome → Type 0
Roomed before o = o ≡ with_room (room_of before) o
