-- The premise of the claim: the tags that a list of calls can meet differ (document 01, "The ledger", last paragraph).
use Rattle.std.specs.Prelude.{ℕ, ◌+◌, ◌*◌, ◌≤◌, ◌≡◌, ◌⊎◌, false, length, take, drop}
use mathlib.Core.List.{List, [], ◌∷◌, map, Memᴰ}
use Rattle.table.specs.Lists.{flat, All}
use Rattle.scheme.specs.Suite.{Suite}
use Rattle.scheme.specs.Labels.{Field, field_lengths_bad}
use Rattle.scheme.specs.Keys.{MT, CL, RL}
use Rattle.scheme.specs.Store.{entry_tag, counter_tag, anchor_tag, r_mark}
use Rattle.scheme.specs.Refusals.{ids_in}
use Rattle.scheme.specs.Insert.{label_nonces}
use Rattle.scheme.specs.Call.{Call, Part}

-- the fields that a call names
abbrev pub fields_of : Call → List Field
fields_of (Call.insert key f p u nonce ids nonces) = f ∷ []
fields_of (Call.erase id) = []
fields_of (Call.find key f output) = f ∷ []
fields_of (Call.count key f) = f ∷ []
fields_of (Call.compact key nonces) = []
fields_of Call.order = []
fields_of Call.check = []
fields_of (Call.test key f id) = f ∷ []
fields_of (Call.joint_find parts output) = map (λ (q : Part). q.field) parts

-- an id, and the nonce that an insert brings for its row of R
pub record Labelling : Type 0 where
  pub nonce : List ℕ
  pub id : List ℕ

abbrev pub labellings : List (List ℕ) → List ℕ → List Labelling
labellings [] nonces = []
labellings (id ∷ ids) nonces = record { nonce = take 12 nonces; id = id } ∷ labellings ids (drop 12 nonces)

-- those of a call
abbrev pub labellings_of : Call → List Labelling
labellings_of (Call.insert key f p u nonce ids nonces) = labellings (ids_in ids) (label_nonces ids nonces)
labellings_of (Call.erase id) = []
labellings_of (Call.find key f output) = []
labellings_of (Call.count key f) = []
labellings_of (Call.compact key nonces) = []
labellings_of Call.order = []
labellings_of Call.check = []
labellings_of (Call.test key f id) = []
labellings_of (Call.joint_find parts output) = []

-- a field of valid lengths named in the list, with a share up to the store's p [01:LG13]
pub record Named (p : ℕ) (calls : List Call) (f : Field) (u : ℕ) : Type 0 where
  pub named : Memᴰ f (flat (map fields_of calls))
  pub valid : field_lengths_bad f ≡ false
  pub shared : u ≤ p

-- 1 to n
pub record From1 (n a : ℕ) : Type 0 where
  pub low : 1 ≤ a
  pub high : a ≤ n

-- a row of C is a counter or an anchor
pub data Kind : Type 0 where
  counter anchor : Kind

abbrev pub tag_of : Suite → List ℕ → Kind → ℕ → List ℕ
tag_of suite cl counter i = counter_tag suite cl i
tag_of suite cl anchor i = anchor_tag suite cl i

-- for a list of n calls: M addresses 1 to 64 × n, counter positions and anchor numbers 1 to n + 1 [01:LG13]; and R marks of different
-- labels named differ for each nonce with its id in the list [02:W4.27]
pub record Premise (suite : Suite) (K : List ℕ) (p : ℕ) (calls : List Call) : Type 0 where
  pub entries : (f g : Field) (u v a b : ℕ) → Named p calls f u → Named p calls g v → From1 (64 * length calls) a → From1 (64 * length calls) b
      → entry_tag suite (MT suite K f u) a ≡ entry_tag suite (MT suite K g v) b → (f ≡ g) × (u ≡ v) × (a ≡ b)
  pub counters : (f g : Field) (u v : ℕ) (h k : Kind) (i j : ℕ) → Named p calls f u → Named p calls g v → From1 (length calls + 1) i → From1 (length calls + 1) j
      → tag_of suite (CL suite K f u) h i ≡ tag_of suite (CL suite K g v) k j → (f ≡ g) × (u ≡ v) × (h ≡ k) × (i ≡ j)
  pub marks : (f g : Field) (x : Labelling) → Named p calls f 0 → Named p calls g 0 → Memᴰ x (flat (map labellings_of calls))
      → r_mark suite (RL suite K f) x.nonce x.id ≡ r_mark suite (RL suite K g) x.nonce x.id → f ≡ g

-- every key in the list is K or has a length that 1 refuses [01:LG17]
abbrev pub PartFits : List ℕ → Part → Type 0
PartFits K q = (q.key ≡ K) ⊎ (length q.key ≡ 32 → ⊥)

abbrev pub KeyFits : List ℕ → Call → Type 0
KeyFits K (Call.insert key f p u nonce ids nonces) = (key ≡ K) ⊎ (length key ≡ 32 → ⊥)
KeyFits K (Call.erase id) = Unit {0}
KeyFits K (Call.find key f output) = (key ≡ K) ⊎ (length key ≡ 32 → ⊥)
KeyFits K (Call.count key f) = (key ≡ K) ⊎ (length key ≡ 32 → ⊥)
KeyFits K (Call.compact key nonces) = (key ≡ K) ⊎ (length key ≡ 32 → ⊥)
KeyFits K Call.order = Unit {0}
KeyFits K Call.check = Unit {0}
KeyFits K (Call.test key f id) = (key ≡ K) ⊎ (length key ≡ 32 → ⊥)
KeyFits K (Call.joint_find parts output) = All (PartFits K) parts
