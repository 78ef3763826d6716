-- Examples of rows in byte order, of rows looked at (document 02, "Rows in byte order", "Stop early, and say the rows read") and of elements
-- repeated and lacking: what the definitions give, beside what the document says. The checker computes both (proofs/Examples.antt).
use Rattle.std.specs.Prelude.{ℕ, Bool, List, [], ◌∷◌, ◌++◌, eqb, get_or, replicate}
use Rattle.table.specs.Lists.{bit, flat, repeats, lacking}
use Rattle.table.specs.Table.{Row, Table, place_of}
use Rattle.table.specs.Order.{precedes, in_form, arranged, reordered, closed}
use Rattle.table.specs.Looked.{looked_at}

infix 10 ◌is◌
pub data Example : Type 0 where
  ◌is◌ : List ℕ → List ℕ → Example

abbrev pub left : Example → List ℕ
left (a is b) = a

abbrev pub right : Example → List ℕ
right (a is b) = b

abbrev pub truth : Bool → List ℕ
truth b = bit b ∷ []

-- a used row of 34 bytes whose tag ends with a number, and another number after the tag
abbrev pub row : ℕ → ℕ → Row
row a b = 1 ∷ replicate 31 0 ++ (a ∷ b ∷ [])

abbrev pub free : Row
free = replicate 34 0

-- the place of a tag that ends with a number, and the rows looked at for it
abbrev pub placed : ℕ → Table → List ℕ
placed a t = place_of (replicate 31 0 ++ (a ∷ [])) t ∷ []

abbrev pub looked : ℕ → Table → List ℕ
looked a t = looked_at (replicate 31 0 ++ (a ∷ [])) t ∷ []

-- one byte, which equals no list but itself
abbrev pub x : List ℕ
x = 4 ∷ []

abbrev pub y : List ℕ
y = 5 ∷ []

abbrev pub three : Table
three = row 5 0 ∷ row 5 1 ∷ row 8 0 ∷ free ∷ free ∷ []

abbrev pub examples : List Example
examples =
    -- byte by byte, unsigned [02:W2.2]
    (truth (precedes (1 ∷ 2 ∷ 9 ∷ []) (1 ∷ 3 ∷ 0 ∷ [])) is (1 ∷ []))
    ∷ (truth (precedes (1 ∷ 3 ∷ 0 ∷ []) (1 ∷ 2 ∷ 9 ∷ [])) is (0 ∷ []))
    ∷ (truth (precedes (1 ∷ 3 ∷ []) (1 ∷ 3 ∷ [])) is (0 ∷ []))
    ∷ (truth (precedes (0x80 ∷ []) (0x7f ∷ [])) is (0 ∷ []))
    -- used rows ascend, equal ones may, and come first; free rows are zeros [02:W2.1 W2.2 W2.3]
    ∷ (truth (in_form 34 three) is (1 ∷ []))
    ∷ (truth (in_form 34 (row 8 0 ∷ row 8 0 ∷ [])) is (1 ∷ []))
    ∷ (truth (in_form 34 (row 8 1 ∷ row 8 0 ∷ [])) is (0 ∷ []))
    ∷ (truth (in_form 34 (free ∷ row 8 0 ∷ [])) is (0 ∷ []))
    ∷ (truth (in_form 34 (row 8 0 ∷ (0 ∷ replicate 32 0 ++ (1 ∷ [])) ∷ [])) is (0 ∷ []))
    -- sorted by all their bytes, none dropped, and filled up [02:W2.4 W2.5 W2.6 W2.7]
    ∷ (flat (arranged 34 5 (row 8 0 ∷ row 5 1 ∷ row 5 0 ∷ [])) is flat three)
    ∷ (flat (arranged 34 3 (row 8 0 ∷ row 5 0 ∷ row 8 0 ∷ [])) is flat (row 5 0 ∷ row 8 0 ∷ row 8 0 ∷ []))
    ∷ (flat (reordered 34 (free ∷ row 8 0 ∷ row 5 0 ∷ [])) is flat (row 5 0 ∷ row 8 0 ∷ free ∷ []))
    -- rows given up leave no gap [02:W2.4]
    ∷ (flat (closed 34 (λ b. eqb (get_or b 31 0) 5) three) is flat (row 8 0 ∷ free ∷ free ∷ free ∷ free ∷ []))
    -- the used row of lowest index with a tag, and the number of rows where there is none [01:ST13]
    ∷ (placed 5 three is (0 ∷ []))
    ∷ (placed 8 three is (2 ∷ []))
    ∷ (placed 6 three is (5 ∷ []))
    ∷ (placed 0 three is (5 ∷ []))
    -- below all rows, equal to the first, between, equal to the last, above all; with no free row; with no used row [02:W3.2 W3.3]
    ∷ (looked 4 three is (1 ∷ []))
    ∷ (looked 5 three is (1 ∷ []))
    ∷ (looked 6 three is (3 ∷ []))
    ∷ (looked 8 three is (3 ∷ []))
    ∷ (looked 9 three is (3 ∷ []))
    ∷ (looked 7 (row 5 0 ∷ row 6 0 ∷ []) is (2 ∷ []))
    ∷ (looked 6 (row 5 0 ∷ row 6 0 ∷ row 7 0 ∷ []) is (2 ∷ []))
    ∷ (looked 5 (free ∷ free ∷ []) is (0 ∷ []))
    -- each element that an earlier one equals, neighbours or not; a list equals none that it begins [check:2 3]
    ∷ (repeats [] ∷ repeats (x ∷ []) ∷ repeats (x ∷ y ∷ []) ∷ [] is (0 ∷ 0 ∷ 0 ∷ []))
    ∷ (repeats (x ∷ x ∷ []) ∷ repeats (x ∷ y ∷ x ∷ []) ∷ repeats (x ∷ x ∷ x ∷ []) ∷ repeats (x ∷ y ∷ y ∷ x ∷ []) ∷ [] is (1 ∷ 1 ∷ 2 ∷ 2 ∷ []))
    ∷ (repeats (x ∷ (x ++ y) ∷ []) ∷ repeats ([] ∷ [] ∷ []) ∷ [] is (0 ∷ 1 ∷ []))
    -- each element of the first list that the second has nowhere [check:4 5 6 7]
    ∷ (lacking [] (x ∷ []) ∷ lacking (x ∷ []) [] ∷ lacking (x ∷ x ∷ y ∷ []) [] ∷ [] is (0 ∷ 1 ∷ 3 ∷ []))
    ∷ (lacking (x ∷ y ∷ x ∷ []) (y ∷ x ∷ []) ∷ lacking (x ∷ y ∷ x ∷ []) (y ∷ []) ∷ lacking (y ∷ []) (x ∷ (y ++ x) ∷ []) ∷ [] is (0 ∷ 2 ∷ 1 ∷ []))
    ∷ []
