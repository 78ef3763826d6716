-- What the two walks of a reading find (document 01, "Reading a counter"): how many are held, by the scheme's walk, and the
-- place of the last one's row.
use Rattle.std.specs.Prelude.{ℕ, zero, suc, ◌+◌, Bool, List, [], ◌∷◌, ◌++◌, length, drop}
use Rattle.table.specs.Table.{Table, holds, place_of}
use Rattle.hmac.specs.declared.Keyed.{Keyed}
use Rattle.format.specs.Tags.{counter_tag_by, anchor_tag_by}
use Rattle.lookups.specs.declared.Lookup.{Lookup}
use Rattle.lookups.specs.declared.Lookup.TheVariants.{Search, Walk}

-- the tags by number
abbrev pub counter_tags : Keyed → ℕ → List ℕ
counter_tags ct a = counter_tag_by ct (record { 0 = a })

abbrev pub anchor_tags : Keyed → ℕ → List ℕ
anchor_tags ct b = anchor_tag_by ct (record { 0 = b })

-- whether the table holds the row of a number
abbrev pub held_in : (ℕ → List ℕ) → Table → ℕ → Bool
held_in tag t = λ i. holds (tag i) t

-- the place of the last of the k rows after number i; where k is 0, the end of the table
unfoldable pub last_place : (ℕ → List ℕ) → Table → ℕ → ℕ → ℕ
last_place tag t i zero = length t
last_place tag t i (suc k) = place_of (tag (i + suc k)) t

-- the places of the rows of the k numbers after i
abbrev pub places_of : (ℕ → List ℕ) → Table → ℕ → ℕ → List ℕ
places_of tag t i zero = []
places_of tag t i (suc k) = place_of (tag (suc i)) t ∷ places_of tag t (suc i) k

-- a list of places with those over its start
abbrev pub noted : (ℕ → List ℕ) → Table → ℕ → ℕ → List ℕ → List ℕ
noted tag t i k old = places_of tag t i k ++ drop k old

-- rows are tallied in a walk alone [02:W3.9]
abbrev pub tallied_by : Lookup → ℕ → ℕ
tallied_by Search n = 0
tallied_by Walk n = n
