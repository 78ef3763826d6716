-- What a request needs of the system, and when the store's file is written.
use Rattle.std.specs.Prelude.{ℕ, ◌+◌, ◌*◌, Bool, true, false, List}
use Rattle.advice.specs.Advise.{length_of, room_of}
use Rattle.request.specs.declared.Request.{Request}
use Rattle.request.specs.declared.Request.TheVariants.{Help, Misused, NotNumber, NotId, New, Key, Insert, Find, Count, Erase, Compact, Order, Show, Check, InsertToken, FindToken, CountToken, CompactionToken, InsertBy, FindBy, CountBy, CompactBy}
use Rattle.outcome.specs.declared.Outcome.{Outcome}
use Rattle.outcome.specs.declared.Outcome.TheVariants.{Number, Counted, Inspected, Compacted, Damaged, WrongKey, Refused, Done, BadWords}
use Rattle.demand.specs.declared.Needs.{Needs}
use Rattle.demand.specs.declared.Needs.TheVariants.{Words, KeyFile, KeyAlone, Store, Lock, NewStore}

abbrev pub needs_of : Request → Needs
needs_of (Help c) = Words
needs_of (Misused c) = Words
needs_of (NotNumber i) = Words
needs_of (NotId i) = Words
needs_of (New p m c s r) = NewStore (length_of m c s r)
needs_of Key = KeyFile
needs_of (Insert u n) = Lock
needs_of (Find n) = Store
needs_of (Count rows) = Store
needs_of Erase = Lock
needs_of Compact = Lock
needs_of Order = Lock
needs_of Show = Store
needs_of Check = Store
needs_of (InsertToken p u) = KeyAlone
needs_of FindToken = KeyAlone
needs_of CountToken = KeyAlone
needs_of CompactionToken = KeyAlone
needs_of (InsertBy n) = Lock
needs_of FindBy = Store
needs_of (CountBy rows) = Store
needs_of CompactBy = Lock

abbrev pub takes_key : Request → Bool
takes_key (Help c) = false
takes_key (Misused c) = false
takes_key (NotNumber i) = false
takes_key (NotId i) = false
takes_key (New p m c s r) = false
takes_key Key = false
takes_key (Insert u n) = true
takes_key (Find n) = true
takes_key (Count rows) = true
takes_key Erase = false
takes_key Compact = true
takes_key Order = false
takes_key Show = false
takes_key Check = false
takes_key (InsertToken p u) = true
takes_key FindToken = true
takes_key CountToken = true
takes_key CompactionToken = true
takes_key (InsertBy n) = false
takes_key FindBy = false
takes_key (CountBy rows) = false
takes_key CompactBy = false

-- whether a token stands in the line, or in the file that its word 3 names
abbrev pub takes_token : Request → Bool
takes_token (Help c) = false
takes_token (Misused c) = false
takes_token (NotNumber i) = false
takes_token (NotId i) = false
takes_token (New p m c s r) = false
takes_token Key = false
takes_token (Insert u n) = false
takes_token (Find n) = false
takes_token (Count rows) = false
takes_token Erase = false
takes_token Compact = false
takes_token Order = false
takes_token Show = false
takes_token Check = false
takes_token (InsertToken p u) = false
takes_token FindToken = false
takes_token CountToken = false
takes_token CompactionToken = false
takes_token (InsertBy n) = true
takes_token FindBy = true
takes_token (CountBy rows) = true
takes_token CompactBy = true

-- random bytes: a nonce for an insert's token, where it is made, one for each id, one for the counter and one more for each id [02:W4.11];
-- for a compaction, one for each used row of S
abbrev pub random_of : Request → List ℕ → ℕ
random_of (Help c) before = 0
random_of (Misused c) before = 0
random_of (NotNumber i) before = 0
random_of (NotId i) before = 0
random_of (New p m c s r) before = 0
random_of Key before = 0
random_of (Insert u n) before = 12 * (2 * n + 2)
random_of (Find n) before = 0
random_of (Count rows) before = 0
random_of Erase before = 0
random_of Compact before = 12 * (room_of before).logged
random_of Order before = 0
random_of Show before = 0
random_of Check before = 0
random_of (InsertToken p u) before = 12
random_of FindToken before = 0
random_of CountToken before = 0
random_of CompactionToken before = 0
random_of (InsertBy n) before = 12 * (2 * n + 1)
random_of FindBy before = 0
random_of (CountBy rows) before = 0
random_of CompactBy before = 12 * (room_of before).logged

-- a refusal changes nothing, and a compaction with another key is not kept
abbrev pub made : Outcome → Bool
made (Number n) = true
made (Counted n rows) = true
made (Inspected f) = true
made (Compacted t) = true
made (Damaged t) = true
made (WrongKey t) = false
made (Refused r room) = false
made Done = true
made BadWords = false

-- whether the store's file gets the bytes after a run
abbrev pub changes : Request → Outcome → Bool
changes (Help c) o = false
changes (Misused c) o = false
changes (NotNumber i) o = false
changes (NotId i) o = false
changes (New p m c s r) o = made o
changes Key o = false
changes (Insert u n) o = made o
changes (Find n) o = false
changes (Count rows) o = false
changes Erase o = made o
changes Compact o = made o
changes Order o = made o
changes Show o = false
changes Check o = false
changes (InsertToken p u) o = false
changes FindToken o = false
changes CountToken o = false
changes CompactionToken o = false
changes (InsertBy n) o = made o
changes FindBy o = false
changes (CountBy rows) o = false
changes CompactBy o = made o
