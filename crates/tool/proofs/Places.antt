-- What the last arm of a match knows of its request: its place among the others.
use Prim.Native.Nat.{ℕ, ◌<◌}
use mathlib.Core.Path.{◌≡◌, refl}
use mathlib.Core.Bool.{Bool}
use native.Mathlib.Omega.{arith}
use Rattle.words.specs.declared.Command.{Command}
use Rattle.request.specs.declared.Request.{Request}
use Rattle.request.specs.declared.Request.TheVariants.{Help, Misused, NotNumber, NotId, New, Key, Insert, Find, Count, Erase, Compact, Order, Show, Check, InsertToken, FindToken, CountToken, CompactionToken, InsertBy, FindBy, CountBy, CompactBy}
use Rattle.tool.specs.Place.{place_of}

-- a request that is not of words alone
pub past_words : (q : Request) → ((c : Command) → q ≡ Help c → ⊥) → ((c : Command) → q ≡ Misused c → ⊥) → ((x : ℕ) → q ≡ NotNumber x → ⊥)
    → ((x : ℕ) → q ≡ NotId x → ⊥) → ((p m c s r : ℕ) → q ≡ New p m c s r → ⊥) → (q ≡ Key → ⊥) → 5 < place_of q
past_words (Help c) h₁ h₂ h₃ h₄ h₅ h₆ = absurd (h₁ c refl)
past_words (Misused c) h₁ h₂ h₃ h₄ h₅ h₆ = absurd (h₂ c refl)
past_words (NotNumber x) h₁ h₂ h₃ h₄ h₅ h₆ = absurd (h₃ x refl)
past_words (NotId x) h₁ h₂ h₃ h₄ h₅ h₆ = absurd (h₄ x refl)
past_words (New p m c s r) h₁ h₂ h₃ h₄ h₅ h₆ = absurd (h₅ p m c s r refl)
past_words Key h₁ h₂ h₃ h₄ h₅ h₆ = absurd (h₆ refl)
past_words (Insert u n) h₁ h₂ h₃ h₄ h₅ h₆ = omega arith
past_words (Find n) h₁ h₂ h₃ h₄ h₅ h₆ = omega arith
past_words (Count rows) h₁ h₂ h₃ h₄ h₅ h₆ = omega arith
past_words Erase h₁ h₂ h₃ h₄ h₅ h₆ = omega arith
past_words Compact h₁ h₂ h₃ h₄ h₅ h₆ = omega arith
past_words Order h₁ h₂ h₃ h₄ h₅ h₆ = omega arith
past_words Show h₁ h₂ h₃ h₄ h₅ h₆ = omega arith
past_words Check h₁ h₂ h₃ h₄ h₅ h₆ = omega arith
past_words (InsertToken p u) h₁ h₂ h₃ h₄ h₅ h₆ = omega arith
past_words FindToken h₁ h₂ h₃ h₄ h₅ h₆ = omega arith
past_words CountToken h₁ h₂ h₃ h₄ h₅ h₆ = omega arith
past_words CompactionToken h₁ h₂ h₃ h₄ h₅ h₆ = omega arith
past_words (InsertBy n) h₁ h₂ h₃ h₄ h₅ h₆ = omega arith
past_words FindBy h₁ h₂ h₃ h₄ h₅ h₆ = omega arith
past_words (CountBy rows) h₁ h₂ h₃ h₄ h₅ h₆ = omega arith
past_words CompactBy h₁ h₂ h₃ h₄ h₅ h₆ = omega arith

-- nor of a store with its key
pub past_store : (q : Request) → ((u n : ℕ) → q ≡ Insert u n → ⊥) → ((n : ℕ) → q ≡ Find n → ⊥) → ((rows : Bool) → q ≡ Count rows → ⊥)
    → (q ≡ Erase → ⊥) → (q ≡ Compact → ⊥) → (q ≡ Order → ⊥) → (q ≡ Show → ⊥)
    → (q ≡ Check → ⊥) → 5 < place_of q → 13 < place_of q
past_store (Help c) h₁ h₂ h₃ h₄ h₅ h₆ h₇ h₈ l = omega arith
past_store (Misused c) h₁ h₂ h₃ h₄ h₅ h₆ h₇ h₈ l = omega arith
past_store (NotNumber x) h₁ h₂ h₃ h₄ h₅ h₆ h₇ h₈ l = omega arith
past_store (NotId x) h₁ h₂ h₃ h₄ h₅ h₆ h₇ h₈ l = omega arith
past_store (New p m c s r) h₁ h₂ h₃ h₄ h₅ h₆ h₇ h₈ l = omega arith
past_store Key h₁ h₂ h₃ h₄ h₅ h₆ h₇ h₈ l = omega arith
past_store (Insert u n) h₁ h₂ h₃ h₄ h₅ h₆ h₇ h₈ l = absurd (h₁ u n refl)
past_store (Find n) h₁ h₂ h₃ h₄ h₅ h₆ h₇ h₈ l = absurd (h₂ n refl)
past_store (Count rows) h₁ h₂ h₃ h₄ h₅ h₆ h₇ h₈ l = absurd (h₃ rows refl)
past_store Erase h₁ h₂ h₃ h₄ h₅ h₆ h₇ h₈ l = absurd (h₄ refl)
past_store Compact h₁ h₂ h₃ h₄ h₅ h₆ h₇ h₈ l = absurd (h₅ refl)
past_store Order h₁ h₂ h₃ h₄ h₅ h₆ h₇ h₈ l = absurd (h₆ refl)
past_store Show h₁ h₂ h₃ h₄ h₅ h₆ h₇ h₈ l = absurd (h₇ refl)
past_store Check h₁ h₂ h₃ h₄ h₅ h₆ h₇ h₈ l = absurd (h₈ refl)
past_store (InsertToken p u) h₁ h₂ h₃ h₄ h₅ h₆ h₇ h₈ l = omega arith
past_store FindToken h₁ h₂ h₃ h₄ h₅ h₆ h₇ h₈ l = omega arith
past_store CountToken h₁ h₂ h₃ h₄ h₅ h₆ h₇ h₈ l = omega arith
past_store CompactionToken h₁ h₂ h₃ h₄ h₅ h₆ h₇ h₈ l = omega arith
past_store (InsertBy n) h₁ h₂ h₃ h₄ h₅ h₆ h₇ h₈ l = omega arith
past_store FindBy h₁ h₂ h₃ h₄ h₅ h₆ h₇ h₈ l = omega arith
past_store (CountBy rows) h₁ h₂ h₃ h₄ h₅ h₆ h₇ h₈ l = omega arith
past_store CompactBy h₁ h₂ h₃ h₄ h₅ h₆ h₇ h₈ l = omega arith

-- a request behind those that is of no token either: there is none
pub none_before : (q : Request) → ((p u : ℕ) → q ≡ InsertToken p u → ⊥) → (q ≡ FindToken → ⊥) → (q ≡ CountToken → ⊥)
    → (q ≡ CompactionToken → ⊥) → ((n : ℕ) → q ≡ InsertBy n → ⊥) → (q ≡ FindBy → ⊥) → ((rows : Bool) → q ≡ CountBy rows → ⊥)
    → (q ≡ CompactBy → ⊥) → 13 < place_of q → ⊥
none_before (Help c) h₁ h₂ h₃ h₄ h₅ h₆ h₇ h₈ l = omega arith
none_before (Misused c) h₁ h₂ h₃ h₄ h₅ h₆ h₇ h₈ l = omega arith
none_before (NotNumber x) h₁ h₂ h₃ h₄ h₅ h₆ h₇ h₈ l = omega arith
none_before (NotId x) h₁ h₂ h₃ h₄ h₅ h₆ h₇ h₈ l = omega arith
none_before (New p m c s r) h₁ h₂ h₃ h₄ h₅ h₆ h₇ h₈ l = omega arith
none_before Key h₁ h₂ h₃ h₄ h₅ h₆ h₇ h₈ l = omega arith
none_before (Insert u n) h₁ h₂ h₃ h₄ h₅ h₆ h₇ h₈ l = omega arith
none_before (Find n) h₁ h₂ h₃ h₄ h₅ h₆ h₇ h₈ l = omega arith
none_before (Count rows) h₁ h₂ h₃ h₄ h₅ h₆ h₇ h₈ l = omega arith
none_before Erase h₁ h₂ h₃ h₄ h₅ h₆ h₇ h₈ l = omega arith
none_before Compact h₁ h₂ h₃ h₄ h₅ h₆ h₇ h₈ l = omega arith
none_before Order h₁ h₂ h₃ h₄ h₅ h₆ h₇ h₈ l = omega arith
none_before Show h₁ h₂ h₃ h₄ h₅ h₆ h₇ h₈ l = omega arith
none_before Check h₁ h₂ h₃ h₄ h₅ h₆ h₇ h₈ l = omega arith
none_before (InsertToken p u) h₁ h₂ h₃ h₄ h₅ h₆ h₇ h₈ l = absurd (h₁ p u refl)
none_before FindToken h₁ h₂ h₃ h₄ h₅ h₆ h₇ h₈ l = absurd (h₂ refl)
none_before CountToken h₁ h₂ h₃ h₄ h₅ h₆ h₇ h₈ l = absurd (h₃ refl)
none_before CompactionToken h₁ h₂ h₃ h₄ h₅ h₆ h₇ h₈ l = absurd (h₄ refl)
none_before (InsertBy n) h₁ h₂ h₃ h₄ h₅ h₆ h₇ h₈ l = absurd (h₅ n refl)
none_before FindBy h₁ h₂ h₃ h₄ h₅ h₆ h₇ h₈ l = absurd (h₆ refl)
none_before (CountBy rows) h₁ h₂ h₃ h₄ h₅ h₆ h₇ h₈ l = absurd (h₇ rows refl)
none_before CompactBy h₁ h₂ h₃ h₄ h₅ h₆ h₇ h₈ l = absurd (h₈ refl)
