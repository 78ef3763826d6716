-- Document 01, "Labels".
use Rattle.std.specs.Prelude.{ℕ, zero, suc, ◌+◌, ◌/◌, ◌%◌, Bool, true, false, ◌&&◌, ◌||◌, List, [], ◌∷◌, ◌++◌, ltb, length}
use Rattle.table.specs.Lists.{same}

-- a document field with its value [01:LB1]
pub record Field : Type 0 where
  pub name : List ℕ
  pub value : List ℕ

unfoldable pub same_field : Field → Field → Bool
same_field f g = same f.name g.name && same f.value g.value

-- a name of 1 to 255 bytes and a value of 0 to 1,024 bytes [01:LB1]
unfoldable pub field_lengths_bad : Field → Bool
field_lengths_bad f = ltb (length f.name) 1 || ltb 255 (length f.name) || ltb 1024 (length f.value)

-- groups of seven bits, lowest first, high bit set on all but the last; the first argument bounds the groups after the first
abbrev pub groups : ℕ → ℕ → List ℕ
groups zero n = n ∷ []
groups (suc more) n = elim (ltb n 128) [ true ↦ n ∷ [] | false ↦ (128 + n % 128) ∷ groups more (n / 128) ]

-- a number in its shortest form
unfoldable pub sevens : ℕ → List ℕ
sevens n = groups n n

-- the name's length, the name, the value [01:LB2]
unfoldable pub label : Field → List ℕ
label f = sevens (length f.name) ++ (f.name ++ f.value)
