-- What the program's functions give back: the outcome of a call on arguments that were read. Nothing tells what is read, so it
-- stands as fields.
use Rattle.std.specs.Prelude.{ℕ, ◌+◌, ◌≤◌, ◌≡◌, Bool, false, cond, List, [], ◌∷◌, ◌++◌, eqb, ltb, length, take, drop}
use Rattle.octets.specs.Part.{written}
use Rattle.table.specs.Lists.{any_of}
use Rattle.scheme.specs.Call.{Call}
use Rattle.scheme.specs.Run.{perform}
use Rattle.scheme.specs.Store.{Sizes, make}
use Rattle.scheme.specs.Insert.{insert}
use Rattle.scheme.specs.Compaction.{compact}
use Rattle.suite.specs.Program.{program}
use Rattle.client.specs.Making.{field_of}

-- a call on its raw arguments: an insert, an erase, a compaction
pub record Inserted (before after : List ℕ) : Type 0 where
  pub key : List ℕ
  pub name : List ℕ
  pub value : List ℕ
  pub p : ℕ
  pub u : ℕ
  pub nonce : List ℕ
  pub ids : List ℕ
  pub nonces : List ℕ
  pub made : after ≡ (perform program (Call.insert key (field_of name value) p u nonce ids nonces) before).store

pub record Erased (before after : List ℕ) : Type 0 where
  pub id : List ℕ
  pub made : after ≡ (perform program (Call.erase id) before).store

pub record Compacted (before after : List ℕ) : Type 0 where
  pub key : List ℕ
  pub nonces : List ℕ
  pub made : after ≡ (perform program (Call.compact key nonces) before).store

-- the same with a token ready made
pub record InsertedBy (before after : List ℕ) : Type 0 where
  pub token : List ℕ
  pub ids : List ℕ
  pub nonces : List ℕ
  pub made : after ≡ (insert program before ids nonces token).store

pub record CompactedBy (before after : List ℕ) : Type 0 where
  pub token : List ℕ
  pub nonces : List ℕ
  pub made : after ≡ (compact program before nonces token).store

-- a call on the store, by the kind of its record; every other kind leaves the store
abbrev pub changes : ℕ → Bool
changes kind = any_of (eqb kind) (4 ∷ 5 ∷ 8 ∷ 9 ∷ 12 ∷ 19 ∷ [])

pub data Called (before : List ℕ) : ℕ → List ℕ → Type 0 where
  inserted : {after : List ℕ} → Inserted before after → Called before 4 after
  erased : {after : List ℕ} → Erased before after → Called before 5 after
  compacted : {after : List ℕ} → Compacted before after → Called before 8 after
  inserted_by : {after : List ℕ} → InsertedBy before after → Called before 9 after
  compacted_by : {after : List ℕ} → CompactedBy before after → Called before 12 after
  ordered : {after : List ℕ} → after ≡ (perform program Call.order before).store → Called before 19 after
  kept : {kind : ℕ} → changes kind ≡ false → Called before kind before

-- a length that was read; 0 where the room is shorter
abbrev pub length_in : ℕ → ℕ → ℕ
length_in room n = cond (ltb room n) 0 n

pub record Resized (room r : ℕ) : Type 0 where
  pub n : ℕ
  pub told : r ≡ length_in room n

-- a store made in as much of the room
pub record MadeIn (before : List ℕ) (r : ℕ) (after : List ℕ) : Type 0 where
  pub sizes : Sizes
  pub n : ℕ
  pub told : r ≡ length_in (length before) n
  pub made : after ≡ cond (ltb (length before) n) before ((make sizes (take n before)).store ++ drop n before)

-- at most 4,096 bytes written over the room, where it has room for them
pub record Overwritten (before after : List ℕ) : Type 0 where
  pub at : ℕ
  pub bytes : List ℕ
  pub few : length bytes ≤ 4096
  pub made : after ≡ cond (ltb (length before) (at + length bytes)) before (written before at bytes)

-- one record: the store's length before it and after it, in the room
pub data Recorded (n : ℕ) (before : List ℕ) : ℕ → List ℕ → Type 0 where
  made : {r : ℕ} {after : List ℕ} → MadeIn before r after → Recorded n before r after
  overwritten : {after : List ℕ} → Overwritten before after → Recorded n before n after
  resized : {r : ℕ} → Resized (length before) r → Recorded n before r before
  called : {kind : ℕ} {after : List ℕ} → Called (take n before) kind after → Recorded n before n (after ++ drop n before)
  told : Recorded n before n before

-- record after record
pub data Ran (before : List ℕ) : ℕ → List ℕ → Type 0 where
  begun : Ran before 0 before
  went : {n r : ℕ} {between after : List ℕ} → Ran before n between → Recorded n between r after → Ran before r after

pub record RanAll (before after : List ℕ) : Type 0 where
  pub n : ℕ
  pub ran : Ran before n after
