-- F of a number and tags under a prepared key (document 01, "Keys and tokens" and "Store"), and the keys of one CL. The laws in proofs/Tags.antt
-- say that these are the scheme's.
use Rattle.std.specs.Prelude.{ℕ, ◌≡◌, List, ◌∷◌, ◌++◌}
use Rattle.compression.specs.Compression.{words}
use Rattle.hmac.specs.declared.Keyed.{Keyed}
use Rattle.hmac.specs.Hmac.{inner_hash, outer_hash, tag}
use Rattle.scheme.specs.Suite.{number8}
use Rattle.scheme.specs.Keys.{CT, CE}
use Rattle.suite.specs.Program.{program}
use Rattle.format.specs.declared.Address.{Address}
use Rattle.format.specs.declared.Position.{Position}
use Rattle.format.specs.declared.AnchorNumber.{AnchorNumber}
use Rattle.format.specs.declared.Keys.{Keys}

-- the tag of a message
abbrev pub tag_by : Keyed → List ℕ → List ℕ
tag_by key m = tag (words key.inner) (words key.outer) m

-- F of a number [01:KF6]
unfoldable pub numbered_by : Keyed → ℕ → List ℕ
numbered_by key n = tag_by key (number8 n)

-- the M row at an address [01:ST6], the counter row at a position [01:ST10], the anchor row of a number [01:ST11]
unfoldable pub entry_tag_by : Keyed → Address → List ℕ
entry_tag_by mt a = numbered_by mt a.0

unfoldable pub counter_tag_by : Keyed → Position → List ℕ
counter_tag_by ct a = tag_by ct (1 ∷ number8 a.0)

unfoldable pub anchor_tag_by : Keyed → AnchorNumber → List ℕ
anchor_tag_by ct b = tag_by ct (2 ∷ number8 b.0)

-- the R mark of an id under a nonce [02:W4.3]
unfoldable pub r_mark_by : Keyed → List ℕ → List ℕ → List ℕ
r_mark_by rl nonce id = tag_by rl (nonce ++ id)

-- the two hash values of a key
pub record Prepared (k : Keyed) (key : List ℕ) : Type 0 where
  pub inner : words k.inner ≡ inner_hash key
  pub outer : words k.outer ≡ outer_hash key

-- CT, prepared, and CE of a CL [01:KT6]
pub record KeysOf (k : Keys) (cl : List ℕ) : Type 0 where
  pub ct : Prepared k.ct (CT program cl)
  pub ce : k.ce ≡ CE program cl
