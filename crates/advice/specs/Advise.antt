-- What the tool tells of a store and of a refusal.
use Rattle.std.specs.Prelude.{ℕ, ◌-◌, min, Bool, true, false, cond, List, ltb, eqb, get_or}
use Rattle.scheme.specs.Store.{length_for}
use Rattle.answer.specs.declared.Refusal.{Refusal}
use Rattle.answer.specs.declared.Refusal.TheVariants.{KeyLength, FieldLength, ShareRange, NonceLength, IdLength, TokenLength, SizeRange, SliceLength, TextLength, Header, Mark, TokenShares, Damage, CountRange, EntryRows, CounterRows, LogRows, OutputLength, NonceCount, Form, LabelRows}
use Rattle.store.specs.Check.{checked_of}
use Rattle.std.specs.Prelude.{Result}
use Rattle.store.specs.declared.Shape.{Shape}
use Rattle.std.specs.Prelude.{Ok, Err}
use Rattle.advice.specs.declared.Room.{Room}
use Rattle.advice.specs.declared.Advice.{Advice}
use Rattle.advice.specs.declared.Advice.TheVariants.{Key, Field, Share, Shares, Ids, Token, Sizes, NoStore, Old, Marks, Order, Count, Entries, Compact, Larger, Log, Labels, Output, Fault}
use Rattle.advice.specs.declared.Advice.TheVariants.{Damage as Damage₀, TokenShares as TokenShares₀}

-- of no store, where p is given
abbrev pub room_for : ℕ → Room
room_for p = record { p = p; entries = 0; labels = 0; logged = 0; old = false }

abbrev pub no_room : Room
no_room = room_for 0

-- version 1 is the first byte of a store of that version [02:W4.6]
abbrev pub is_old : List ℕ → Bool
is_old before = eqb (get_or before 0 0) 1

-- entries take a row of M and one of V, and a row of R; a row of S is used for each insert since the last compaction. What is no store
-- may be one of version 1
abbrev pub room_by : Result Shape Refusal → Bool → Room
room_by (Ok x) old = record { p = x.p; entries = min x.m.free x.v.free; labels = x.r.free; logged = x.s.rows - x.s.free; old = false }
room_by (Err r) old = record { p = 0; entries = 0; labels = 0; logged = 0; old = old }

abbrev pub room_of : List ℕ → Room
room_of before = room_by (checked_of before) (is_old before)

abbrev pub pick_advice : Bool → Advice → Advice → Advice
pick_advice true a b = a
pick_advice false a b = b

-- by the refusal and the room of the store (in a token's making, p is the one given); Fault where the tool's own doing (nonces,
-- lengths) is refused
abbrev pub advice_of : Refusal → Room → Advice
advice_of KeyLength x = Key
advice_of FieldLength x = Field
advice_of ShareRange x = pick_advice (ltb 15 x.p) Shares (Share x.p)
advice_of NonceLength x = Fault
advice_of IdLength x = Ids
advice_of TokenLength x = Token
advice_of SizeRange x = Sizes
advice_of SliceLength x = Fault
advice_of TextLength x = Fault
advice_of Header x = pick_advice x.old Old NoStore
advice_of Mark x = Marks
advice_of TokenShares x = TokenShares₀ x.p
advice_of Damage x = Damage₀
advice_of CountRange x = Count
advice_of EntryRows x = Entries x.entries
advice_of CounterRows x = pick_advice (ltb 0 x.logged) Compact Larger
advice_of LogRows x = Log
advice_of (OutputLength n) x = Output n
advice_of NonceCount x = Fault
advice_of Form x = Order
advice_of LabelRows x = Labels x.labels

-- the length that the rules give a store of these sizes; 0 where one is above 4,096
abbrev pub length_of : ℕ → ℕ → ℕ → ℕ → ℕ
length_of m c s r =
    cond (ltb 4096 m) 0 (cond (ltb 4096 c) 0 (cond (ltb 4096 s) 0 (cond (ltb 4096 r) 0 (length_for (record { p = 0; m = m; c = c; s = s; r = r })))))
