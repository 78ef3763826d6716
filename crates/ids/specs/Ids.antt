-- The ids at addresses, of shares (document 01, "Operations": find), and what is kept of them when each is noted where it is met
-- (document 02, "Each document once in a find"). The laws in proofs/ say that the ids are the scheme's, and those kept the distinct.
use Rattle.std.specs.Prelude.{ℕ, zero, suc, ◌+◌, ◌*◌, ◌≡◌, cond, List, [], ◌++◌, get_or}
use Rattle.table.specs.Table.{Table, lookup, holds, place_of}
use Rattle.hmac.specs.declared.Keyed.{Keyed}
use Rattle.scheme.specs.Store.{entry_tag}
use Rattle.scheme.specs.Find.{id_of}
use Rattle.suite.specs.Program.{program}
use Rattle.format.specs.Tags.{entry_tag_by, numbered_by}
use Rattle.chains.specs.Chains.{Kept, noted}
use Rattle.ids.specs.declared.EntryKeys.{EntryKeys}
use Rattle.ids.specs.declared.Share.{Share}

-- the tags by address
abbrev pub entry_tags : Keyed → ℕ → List ℕ
entry_tags mt a = entry_tag_by mt (record { 0 = a })

-- a share's keys
pub record ShareOf (keys : EntryKeys) (u : ℕ) (s : Share) : Type 0 where
  pub number : s.u ≡ u
  pub tags : entry_tags s.mt ≡ entry_tag program (numbered_by keys.mt u)
  pub me : s.me ≡ numbered_by keys.me u

module _ (keys : EntryKeys) (t : Table) where
  -- the tag at an address of share u
  abbrev pub tag_of : ℕ → ℕ → List ℕ
  tag_of u a = entry_tag program (numbered_by keys.mt u) a

  -- at one address: a missing one is skipped, a held one gives its id [01:OP6]
  unfoldable pub id_at : ℕ → ℕ → List (List ℕ)
  id_at u a = id_of program (numbered_by keys.me u) (lookup (tag_of u a) t)

  -- at addresses 1 to n
  unfoldable pub ids_to : ℕ → ℕ → List (List ℕ)
  ids_to u zero = []
  ids_to u (suc n) = ids_to u n ++ id_at u (suc n)

  -- of the shares below n, by their counts
  unfoldable pub ids_in : List ℕ → ℕ → List (List ℕ)
  ids_in of zero = []
  ids_in of (suc n) = ids_in of n ++ ids_to n (get_or of n 0)

  -- what is kept, with the id at one address, at addresses 1 to n, of the shares below n [02:W1.1 W1.2]
  unfoldable pub noted_at : ℕ → ℕ → Kept → Kept
  noted_at u a k = cond (holds (tag_of u a) t) (noted keys.me t (4096 * u + place_of (tag_of u a) t) k) k

  unfoldable pub noted_to : ℕ → ℕ → Kept → Kept
  noted_to u zero k = k
  noted_to u (suc n) k = noted_at u (suc n) (noted_to u n k)

  unfoldable pub noted_in : List ℕ → ℕ → Kept → Kept
  noted_in of zero k = k
  noted_in of (suc n) k = noted_to n (get_or of n 0) (noted_in of n k)
