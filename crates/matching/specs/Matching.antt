-- What the functions of this crate leave on the way: the hints by which a tag is searched, and the flags of the rows that were found.
use Rattle.std.specs.Prelude.{ℕ, zero, suc, ◌+◌, ◌*◌, ◌/◌, cond, List, [], ◌∷◌, eqb, ltb, length, take, get_or, set}
use Rattle.table.specs.Lists.{count}
use Rattle.table.specs.Table.{Table, used, body, place_of}

-- the first fourteen bits of a text
unfoldable pub bucket_of : List ℕ → ℕ
bucket_of b = (256 * get_or b 0 0 + get_or b 1 0) / 4

-- the hints after rows i - 1, .., 0 were put in their buckets, so that the first row of a bucket stands in it
abbrev pub hinted : ℕ → Table → List ℕ → List ℕ
hinted zero t hints = hints
hinted (suc i) t hints = hinted i t (set hints (bucket_of (body (get_or t i []))) i)

-- the flags after the first row with each of these tags was flagged, where there is one
abbrev pub reached : Table → List (List ℕ) → List ℕ → List ℕ
reached t [] flags = flags
reached t (x ∷ xs) flags = reached t xs (cond (ltb (place_of x t) (length t)) (set flags (place_of x t) 1) flags)

-- how many used rows have a tag whose first row has no flag
unfoldable pub unflagged : Table → List ℕ → ℕ
unflagged t flags = count (λ b. eqb (get_or flags (place_of (take 32 b) t) 0) 0) (used t)
