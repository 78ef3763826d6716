-- What the last arm of a match has of the requests that no other arm names.
use Prim.Native.Nat.{ℕ}
use mathlib.Core.Path.{◌≡◌, refl}
use mathlib.Core.Bool.{false}
use mathlib.Core.List.{List, [], ◌∷◌}
use denote.Enum.Declared.{tag_of}
use types.Run.{OneOf, miss}
use Rattle.request.specs.contracts.Request.{the_type}
use Rattle.request.specs.declared.Request.{Request}
use Rattle.request.specs.declared.Request.TheVariants.{Help, Misused, NotNumber, NotId, New, Key, Insert, Find, Count, Erase, Compact, Order, Show, Check, InsertToken, FindToken, CountToken, CompactionToken, InsertBy, FindBy, CountBy, CompactBy}
use Rattle.outcome.specs.declared.Outcome.{Outcome}
use Rattle.demand.specs.Needs.{takes_key, takes_token, random_of, changes}

-- no key file
abbrev keyless·keys : List ℕ
keyless·keys = 0 ∷ 1 ∷ 2 ∷ 3 ∷ 4 ∷ 5 ∷ 9 ∷ 11 ∷ 12 ∷ 13 ∷ 18 ∷ 19 ∷ 20 ∷ 21 ∷ []

pub keyless : (q : Request) → OneOf keyless·keys (tag_of the_type q) → takes_key q ≡ false
keyless (Help c) h = refl
keyless (Misused c) h = refl
keyless (NotNumber i) h = refl
keyless (NotId i) h = refl
keyless (New p m c s r) h = refl
keyless Key h = refl
keyless (Insert u n) h = absurd (miss keyless·keys 6 tt h)
keyless (Find n) h = absurd (miss keyless·keys 7 tt h)
keyless (Count rows) h = absurd (miss keyless·keys 8 tt h)
keyless Erase h = refl
keyless Compact h = absurd (miss keyless·keys 10 tt h)
keyless Order h = refl
keyless Show h = refl
keyless Check h = refl
keyless (InsertToken p u) h = absurd (miss keyless·keys 14 tt h)
keyless FindToken h = absurd (miss keyless·keys 15 tt h)
keyless CountToken h = absurd (miss keyless·keys 16 tt h)
keyless CompactionToken h = absurd (miss keyless·keys 17 tt h)
keyless (InsertBy n) h = refl
keyless FindBy h = refl
keyless (CountBy rows) h = refl
keyless CompactBy h = refl

-- no token
abbrev tokenless·keys : List ℕ
tokenless·keys = 0 ∷ 1 ∷ 2 ∷ 3 ∷ 4 ∷ 5 ∷ 6 ∷ 7 ∷ 8 ∷ 9 ∷ 10 ∷ 11 ∷ 12 ∷ 13 ∷ 14 ∷ 15 ∷ 16 ∷ 17 ∷ []

pub tokenless : (q : Request) → OneOf tokenless·keys (tag_of the_type q) → takes_token q ≡ false
tokenless (Help c) h = refl
tokenless (Misused c) h = refl
tokenless (NotNumber i) h = refl
tokenless (NotId i) h = refl
tokenless (New p m c s r) h = refl
tokenless Key h = refl
tokenless (Insert u n) h = refl
tokenless (Find n) h = refl
tokenless (Count rows) h = refl
tokenless Erase h = refl
tokenless Compact h = refl
tokenless Order h = refl
tokenless Show h = refl
tokenless Check h = refl
tokenless (InsertToken p u) h = refl
tokenless FindToken h = refl
tokenless CountToken h = refl
tokenless CompactionToken h = refl
tokenless (InsertBy n) h = absurd (miss tokenless·keys 18 tt h)
tokenless FindBy h = absurd (miss tokenless·keys 19 tt h)
tokenless (CountBy rows) h = absurd (miss tokenless·keys 20 tt h)
tokenless CompactBy h = absurd (miss tokenless·keys 21 tt h)

-- no random bytes
abbrev drawless·keys : List ℕ
drawless·keys = 0 ∷ 1 ∷ 2 ∷ 3 ∷ 4 ∷ 5 ∷ 7 ∷ 8 ∷ 9 ∷ 11 ∷ 12 ∷ 13 ∷ 15 ∷ 16 ∷ 17 ∷ 19 ∷ 20 ∷ []

pub drawless : (x : List ℕ) (q : Request) → OneOf drawless·keys (tag_of the_type q) → random_of q x ≡ 0
drawless x (Help c) h = refl
drawless x (Misused c) h = refl
drawless x (NotNumber i) h = refl
drawless x (NotId i) h = refl
drawless x (New p m c s r) h = refl
drawless x Key h = refl
drawless x (Insert u n) h = absurd (miss drawless·keys 6 tt h)
drawless x (Find n) h = refl
drawless x (Count rows) h = refl
drawless x Erase h = refl
drawless x Compact h = absurd (miss drawless·keys 10 tt h)
drawless x Order h = refl
drawless x Show h = refl
drawless x Check h = refl
drawless x (InsertToken p u) h = absurd (miss drawless·keys 14 tt h)
drawless x FindToken h = refl
drawless x CountToken h = refl
drawless x CompactionToken h = refl
drawless x (InsertBy n) h = absurd (miss drawless·keys 18 tt h)
drawless x FindBy h = refl
drawless x (CountBy rows) h = refl
drawless x CompactBy h = absurd (miss drawless·keys 21 tt h)

-- no change of the store
abbrev changeless·keys : List ℕ
changeless·keys = 0 ∷ 1 ∷ 2 ∷ 3 ∷ 5 ∷ 7 ∷ 8 ∷ 12 ∷ 13 ∷ 14 ∷ 15 ∷ 16 ∷ 17 ∷ 19 ∷ 20 ∷ []

pub changeless : (x : Outcome) (q : Request) → OneOf changeless·keys (tag_of the_type q) → changes q x ≡ false
changeless x (Help c) h = refl
changeless x (Misused c) h = refl
changeless x (NotNumber i) h = refl
changeless x (NotId i) h = refl
changeless x (New p m c s r) h = absurd (miss changeless·keys 4 tt h)
changeless x Key h = refl
changeless x (Insert u n) h = absurd (miss changeless·keys 6 tt h)
changeless x (Find n) h = refl
changeless x (Count rows) h = refl
changeless x Erase h = absurd (miss changeless·keys 9 tt h)
changeless x Compact h = absurd (miss changeless·keys 10 tt h)
changeless x Order h = absurd (miss changeless·keys 11 tt h)
changeless x Show h = refl
changeless x Check h = refl
changeless x (InsertToken p u) h = refl
changeless x FindToken h = refl
changeless x CountToken h = refl
changeless x CompactionToken h = refl
changeless x (InsertBy n) h = absurd (miss changeless·keys 18 tt h)
changeless x FindBy h = refl
changeless x (CountBy rows) h = refl
changeless x CompactBy h = absurd (miss changeless·keys 21 tt h)
