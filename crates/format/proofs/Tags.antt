-- Tags under a prepared key are the scheme's tags at the program's suite.
use Prim.Native.Nat.{ℕ}
use mathlib.Core.Path.{◌≡◌}
use mathlib.Core.List.{List, ◌∷◌, ◌++◌}
use Rattle.hmac.specs.declared.Keyed.{Keyed}
use Rattle.compression.specs.Compression.{words}
use Rattle.hmac.specs.Hmac.{F, inner_hash, outer_hash}
use Rattle.hmac.proofs.Laws.{from_prepared}
use Rattle.scheme.specs.Suite.{number8}
use Rattle.scheme.specs.Keys.{CT, share}
use Rattle.scheme.specs.Store.{entry_tag, counter_tag, anchor_tag, r_mark}
use Rattle.suite.specs.Program.{program}
use Rattle.format.specs.declared.Address.{Address}
use Rattle.format.specs.declared.Position.{Position}
use Rattle.format.specs.declared.AnchorNumber.{AnchorNumber}
use Rattle.format.specs.Tags.{tag_by, numbered_by, entry_tag_by, counter_tag_by, anchor_tag_by, r_mark_by, Prepared}

-- what the preparing of a key tells
pub prepared : (k : Keyed) (key : List ℕ) → (words k.inner ≡ inner_hash key) × (words k.outer ≡ outer_hash key) → Prepared k key
prepared k key e = record { inner = e.0; outer = e.1 }

pub tag_by_lem : (k : Keyed) (key m : List ℕ) → Prepared k key → tag_by k m ≡ F key m
tag_by_lem k key m p = from_prepared (words k.inner) (words k.outer) key m p.inner p.outer

pub numbered_is : (k : Keyed) (key : List ℕ) (n : ℕ) → Prepared k key → numbered_by k n ≡ F key (number8 n)
unfolding numbered_by
numbered_is k key n p = tag_by_lem k key (number8 n) p

-- [01:ST6 ST10 ST11]
pub entry_tag_is : (k : Keyed) (mt : List ℕ) (a : Address) → Prepared k mt → entry_tag_by k a ≡ entry_tag program mt a.0
unfolding entry_tag_by entry_tag program
entry_tag_is k mt a p = numbered_is k mt a.0 p

pub counter_tag_is : (k : Keyed) (cl : List ℕ) (a : Position) → Prepared k (CT program cl) → counter_tag_by k a ≡ counter_tag program cl a.0
unfolding counter_tag_by counter_tag program
counter_tag_is k cl a p = tag_by_lem k (CT program cl) (1 ∷ number8 a.0) p

pub anchor_tag_is : (k : Keyed) (cl : List ℕ) (b : AnchorNumber) → Prepared k (CT program cl) → anchor_tag_by k b ≡ anchor_tag program cl b.0
unfolding anchor_tag_by anchor_tag program
anchor_tag_is k cl b p = tag_by_lem k (CT program cl) (2 ∷ number8 b.0) p

-- [01:KT5 KT6]
pub share_is : (k : Keyed) (key : List ℕ) (u : ℕ) → Prepared k key → numbered_by k u ≡ share program key u
unfolding share program
share_is k key u p = numbered_is k key u p

-- [02:W4.3]
pub r_mark_is : (k : Keyed) (rl nonce id : List ℕ) → Prepared k rl → r_mark_by k nonce id ≡ r_mark program rl nonce id
unfolding r_mark_by r_mark program
r_mark_is k rl nonce id p = tag_by_lem k rl (nonce ++ id) p
