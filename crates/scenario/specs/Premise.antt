-- The tags of the premise by their first 8 bytes, and whether one stands twice (document 01, "The ledger").
use Rattle.std.specs.Prelude.{ℕ, zero, suc, ◌+◌, ◌≡◌, Bool, false, ◌||◌, List, [], ◌∷◌, ◌++◌, eqb, take, replicate}
use Rattle.octets.specs.Number.{number}
use Rattle.table.specs.Lists.{any_of}
use Rattle.hmac.specs.declared.Keyed.{Keyed}
use Rattle.scheme.specs.Keys.{share, CT, find_mt, find_cl, find_token}
use Rattle.scheme.specs.Refusals.{field_token_tests}
use Rattle.suite.specs.Program.{program}
use Rattle.client.specs.Making.{making_token, field_of}
use Rattle.format.specs.Tags.{Prepared, entry_tag_by, counter_tag_by, anchor_tag_by}
use Rattle.scenario.specs.declared.premise.PairKeys.{PairKeys}
use Rattle.scenario.specs.declared.premise.Kind.{Kind}
use Rattle.scenario.specs.declared.premise.Kind.TheVariants.{Entry, Counter, Anchor}

-- the tag of a number, by its kind
abbrev pub tag_of : Kind → Keyed → ℕ → List ℕ
tag_of Entry key n = entry_tag_by key (record { 0 = n })
tag_of Counter key n = counter_tag_by key (record { 0 = n })
tag_of Anchor key n = anchor_tag_by key (record { 0 = n })

-- the starts of n tags, of the numbers after i
abbrev pub starts_of : Kind → Keyed → ℕ → ℕ → List ℕ
starts_of kind key i zero = []
starts_of kind key i (suc n) = number (take 8 (tag_of kind key (i + 1))) ∷ starts_of kind key (i + 1) n

abbrev pub occurs_in : ℕ → List ℕ → Bool
occurs_in x l = any_of (λ y. eqb y x) l

abbrev pub repeating : List ℕ → Bool
repeating [] = false
repeating (x ∷ xs) = occurs_in x xs || repeating xs

-- the find token of a field that was read, over zeros where its making is refused
abbrev pub token_of : List ℕ → List ℕ → List ℕ → List ℕ
token_of key name value = making_token (field_token_tests key (field_of name value)) (find_token program key (field_of name value)) (replicate 96 0)

-- the starts of the tags of a field and a share that were read: w of M; of C, half of counters and half of anchors [01:LG13]
pub record PairTags (key : List ℕ) (w half : ℕ) (m c : List ℕ) : Type 0 where
  pub name : List ℕ
  pub value : List ℕ
  pub u : ℕ
  pub keys : PairKeys
  pub mt : Prepared keys.mt (share program (find_mt (token_of key name value)) u)
  pub ct : Prepared keys.ct (CT program (share program (find_cl (token_of key name value)) u))
  pub entries : m ≡ starts_of Entry keys.mt 0 w
  pub counters : c ≡ starts_of Counter keys.ct 0 half ++ starts_of Anchor keys.ct 0 half

-- two such lists of M and of C, one after the other
pub record Twice (P : List ℕ → List ℕ → Type 0) (m c : List ℕ) : Type 0 where
  pub m₁ : List ℕ
  pub m₂ : List ℕ
  pub c₁ : List ℕ
  pub c₂ : List ℕ
  pub first : P m₁ c₁
  pub second : P m₂ c₂
  pub entries : m ≡ m₁ ++ m₂
  pub counters : c ≡ c₁ ++ c₂
