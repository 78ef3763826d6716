-- One table of the store, as the list of its rows, each with its mark (document 01, "Store"). The width w is a parameter.
use Rattle.std.specs.Prelude.{ℕ, zero, suc, Bool, cond, not, ◌&&◌, List, [], ◌∷◌, eqb, ltb, get_or, take, drop, set, replicate}
use Rattle.std.proofs.Math.Option.{Option}
use Rattle.table.specs.Lists.{same, count, first, any_of, is_some}

abbrev pub Row : Type 0
Row = List ℕ

abbrev pub Table : Type 0
Table = List Row

-- n rows of w bytes, cut from the start of a slice [01:ST4]
abbrev pub rows : ℕ → ℕ → List ℕ → Table
rows w zero t = []
rows w (suc n) t = take w t ∷ rows w n (drop w t)

-- a row's first byte is 0 (free; the rest isn't read) or not (used) [01:ST5]
abbrev pub mark_of : Row → ℕ
mark_of r = get_or r 0 0

abbrev pub is_free : Row → Bool
is_free r = eqb (mark_of r) 0

-- a mark above the greatest that the table allows stands [01:RS3]
abbrev pub mark_bad : ℕ → Table → Bool
mark_bad most t = any_of (λ r. ltb most (mark_of r)) t

-- a row after its mark
abbrev pub body : Row → List ℕ
body r = drop 1 r

-- the used rows, in order of index, without their marks
abbrev pub used : Table → List (List ℕ)
used [] = []
used (r ∷ rs) = cond (is_free r) (used rs) (body r ∷ used rs)

abbrev pub free_rows : Table → ℕ
free_rows t = count is_free t

-- a tag is the first 32 bytes after the mark, in M and C
abbrev pub has_tag : List ℕ → List ℕ → Bool
has_tag tag b = same (take 32 b) tag

-- the used row of lowest index with the tag, without its mark; whether there is one; its index [01:ST13]
unfoldable pub lookup : List ℕ → Table → Option (List ℕ)
lookup tag t = first (has_tag tag) (used t)

unfoldable pub holds : List ℕ → Table → Bool
holds tag t = is_some (lookup tag t)

abbrev pub index_of : (Row → Bool) → Table → ℕ
index_of q [] = zero
index_of q (r ∷ rs) = cond (q r) zero (suc (index_of q rs))

unfoldable pub place_of : List ℕ → Table → ℕ
place_of tag t = index_of (λ r. not (is_free r) && has_tag tag (body r)) t

-- freeing a row zeroes all of it [01:ST14]
abbrev pub zero_row : ℕ → Row
zero_row w = replicate w 0

-- free the rows at these indices
abbrev pub free_at : ℕ → List ℕ → Table → Table
free_at w [] t = t
free_at w (i ∷ is) t = free_at w is (set t i (zero_row w))

-- free the used rows that pass a test
abbrev pub free_where : ℕ → (List ℕ → Bool) → Table → Table
free_where w q [] = []
free_where w q (r ∷ rs) = cond (not (is_free r) && q (body r)) (zero_row w) r ∷ free_where w q rs
