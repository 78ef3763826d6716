-- Search in a table in form (document 02, "Rows in byte order"): where the rows begin that do not come before a key.
use Rattle.std.specs.Prelude.{ℕ, Bool, not, ◌||◌, List, length, take}
use Rattle.table.specs.Table.{Row, Table, is_free, body, index_of}
use Rattle.table.specs.Order.{precedes}

-- a row is free, or its body, as far as the key goes, does not come before the key
abbrev pub not_before : List ℕ → Row → Bool
not_before key r = is_free r || not (precedes (take (length key) (body r)) key)

-- the index of the first such row; the number of rows where there is none
unfoldable pub first_not_before : List ℕ → Table → ℕ
first_not_before key t = index_of (not_before key) t
