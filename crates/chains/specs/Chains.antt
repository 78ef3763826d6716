-- The different ids met so far in a find (document 02, "Each document once in a find"): kept by the rows that hold them, in a hash
-- table with separate chaining.
use Rattle.std.specs.Prelude.{ℕ, zero, suc, ◌+◌, ◌*◌, ◌/◌, ◌%◌, ◌≤◌, ◌<◌, ◌≡◌, Bool, cond, List, [], ◌∷◌, ◌++◌, eqb, ltb, length, get_or, set, take, drop}
use Rattle.octets.specs.Number.{number}
use Rattle.octets.specs.Part.{written}
use Rattle.table.specs.Lists.{same, any_of}
use Rattle.table.specs.Table.{Table, body}
use Rattle.hmac.specs.declared.Keyed.{Keyed}
use Rattle.format.specs.Tags.{numbered_by}
use Rattle.format.specs.Rows.{text_in}

-- a row of M as share u reads it has the number 4096 * u + its place: the id in it, under that share's ME [01:ST6]
unfoldable pub id_by : Keyed → Table → ℕ → List ℕ
id_by me t r = text_in (numbered_by me (r / 4096)) (body (get_or t (r % 4096) []))

-- what is kept: a head for each of 4,096 buckets, then for each id the number of its row and a link in one number; the first 4,096
-- ids; how many
pub record Kept : Type 0 where
  pub index : List ℕ
  pub ids : List ℕ
  pub n : ℕ

abbrev pub kept : List ℕ → List ℕ → ℕ → Kept
kept index ids n = record { index = index; ids = ids; n = n }

abbrev pub row_at : List ℕ → ℕ → ℕ
row_at index i = get_or index (4096 + i) 0 / 65536

abbrev pub link_at : List ℕ → ℕ → ℕ
link_at index i = get_or index (4096 + i) 0 % 65536

-- the ids that are kept, in the order in which they came
unfoldable pub kept_ids : Keyed → Table → List ℕ → ℕ → List (List ℕ)
kept_ids me t index zero = []
kept_ids me t index (suc n) = kept_ids me t index n ++ (id_by me t (row_at index n) ∷ [])

-- whether an id is among them
abbrev pub met : Keyed → Table → Kept → List ℕ → Bool
met me t k x = any_of (λ y. same y x) (kept_ids me t k.index k.n)

-- the bucket of an id: all its bytes count
unfoldable pub bucket_of : List ℕ → ℕ
bucket_of x = (61 * (number (take 8 x) % 4093) + number (take 8 (drop 8 x)) % 4093) % 4093

-- the index with one id more: the link goes to the one before it in its bucket, the bucket's head to it
unfoldable pub linked : List ℕ → ℕ → ℕ → ℕ → List ℕ
linked index n r b = set (set index (4096 + n) (65536 * r + get_or index b 0)) b (n + 1)

-- the bytes of the first ids
unfoldable pub first_ids : List ℕ → ℕ → List ℕ → List ℕ
first_ids ids n x = cond (ltb n 4096) (written ids (16 * n) x) ids

unfoldable pub added : ℕ → List ℕ → Kept → Kept
added r x k = kept (linked k.index k.n r (bucket_of x)) (first_ids k.ids k.n x) (k.n + 1)

-- a row's id is kept, unless it was met before [02:W1.1 W1.2]
unfoldable pub noted : Keyed → Table → ℕ → Kept → Kept
noted me t r k = cond (met me t k (id_by me t r)) k (added r (id_by me t r) k)

-- the last of the first n ids that is in a bucket, counted from 1; else 0
abbrev pub last_in : ℕ → (ℕ → List ℕ) → ℕ → ℕ
last_in b f zero = 0
last_in b f (suc n) = cond (eqb (bucket_of (f n)) b) (suc n) (last_in b f n)

-- an id that can be read: its row is one of M's, and the bytes are there if it is among the first 4,096
pub record Readable (me : Keyed) (t : Table) (index ids : List ℕ) (i : ℕ) : Type 0 where
  pub listed : 4096 + i + 1 ≤ length index
  pub inside : row_at index i % 4096 < length t
  pub room : length ids ≡ 65536
  pub bytes : i < 4096 → take 16 (drop (16 * i) ids) ≡ id_by me t (row_at index i)

-- heads and links lead to the ids that are kept, each link to an earlier one
pub record Chained (me : Keyed) (t : Table) (k : Kept) : Type 0 where
  pub buckets : 4096 + k.n ≤ length k.index
  pub most : length k.index ≤ 69632
  pub room : length k.ids ≡ 65536
  pub readable : (i : ℕ) → i < k.n → Readable me t k.index k.ids i
  pub heads : (b : ℕ) → b < 4096 → get_or k.index b 0 ≡ last_in b (λ i. id_by me t (row_at k.index i)) k.n
  pub links : (i : ℕ) → i < k.n → link_at k.index i ≡ last_in (bucket_of (id_by me t (row_at k.index i))) (λ i. id_by me t (row_at k.index i)) i
