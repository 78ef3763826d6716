-- Where each row of a list first stands (document 01, "Operations": compaction, distinct CL in order of first row), and the chains
-- by which it is found: of each bucket the rows that stand first, the last one first.
use Rattle.std.specs.Prelude.{ℕ, zero, suc, ◌+◌, ◌*◌, ◌/◌, ◌<◌, ◌≡◌, Bool, cond, ◌&&◌, List, [], map, eqb, length, get_or, set}
use Rattle.table.specs.Lists.{same}
use Rattle.table.specs.Table.{Table, index_of}

-- the index of the first row that is equal to a text
unfoldable pub first_in : Table → List ℕ → ℕ
first_in l x = index_of (λ r. same r x) l

-- for each row the index of the first one equal to it [01:OP10]
unfoldable pub firsts : Table → List ℕ
firsts l = map (first_in l) l

-- the bucket of a text: its first twelve bits
unfoldable pub bucket_of : List ℕ → ℕ
bucket_of x = 16 * get_or x 0 0 + get_or x 1 0 / 16

-- row j is the first of its kind, in a bucket
abbrev pub in_chain : Table → ℕ → ℕ → Bool
in_chain l b j = eqb (first_in l (get_or l j [])) j && eqb (bucket_of (get_or l j [])) b

-- the last such row of the first n, counted from 1; else 0
abbrev pub last_in : Table → ℕ → ℕ → ℕ
last_in l b zero = 0
last_in l b (suc n) = cond (in_chain l b n) (suc n) (last_in l b n)

-- heads and links after i rows
pub record Chained (l : Table) (i : ℕ) (heads links : List ℕ) : Type 0 where
  pub buckets : length heads ≡ 4096
  pub room : length links ≡ 4096
  pub head : (b : ℕ) → b < 4096 → get_or heads b 0 ≡ last_in l b i
  pub link : (j : ℕ) → j < i → first_in l (get_or l j []) ≡ j → get_or links j 0 ≡ last_in l (bucket_of (get_or l j [])) j

-- a row that is the first of its kind goes to the head of its chain
abbrev pub heads_after : List ℕ → ℕ → ℕ → Bool → List ℕ
heads_after heads b i leads = cond leads (set heads b (i + 1)) heads

abbrev pub links_after : List ℕ → List ℕ → ℕ → ℕ → Bool → List ℕ
links_after heads links b i leads = cond leads (set links i (get_or heads b 0)) links
