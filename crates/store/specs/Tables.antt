-- A table lent by its part, and a slice with another table in its place (document 01, "Store": each table is a part of the one slice).
use Rattle.std.specs.Prelude.{ℕ, ◌*◌, ◌-◌, ◌≤◌, ◌≡◌, true, List, length, take, drop}
use Rattle.octets.specs.Part.{back}
use Rattle.table.specs.Table.{Table, rows}
use Rattle.table.specs.Order.{used_rows, in_form}
use Rattle.store.specs.declared.Part.{Part}

-- the bytes of a part, and its rows of w bytes
abbrev pub bytes_of : List ℕ → Part → List ℕ
bytes_of b p = take (p.end - p.start) (drop p.start b)

abbrev pub table_of : List ℕ → Part → ℕ → Table
table_of b p w = rows w p.rows (bytes_of b p)

-- the part lies in the slice and has its rows [01:ST4]
pub record Within (b : List ℕ) (p : Part) (w : ℕ) : Type 0 where
  pub from : p.start ≤ p.end
  pub to : p.end ≤ length b
  pub long : length (bytes_of b p) ≡ w * p.rows

-- and its table is in form, with so many free rows [02:W2.1 W2.2 W2.3]
pub record InOrder (b : List ℕ) (p : Part) (w : ℕ) : Type 0 where
  pub within : Within b p w
  pub few : p.free ≤ p.rows
  pub form : in_form w (table_of b p w) ≡ true
  pub number : p.rows - p.free ≡ length (used_rows (table_of b p w))

-- the slice with table t in the part, and every other byte as it was [01:ST4]
pub record Replaced (b : List ℕ) (p : Part) (w : ℕ) (t : Table) (after : List ℕ) : Type 0 where
  pub bytes : after ≡ back b p.start p.end (bytes_of after p)
  pub long : length (bytes_of after p) ≡ length (bytes_of b p)
  pub table : table_of after p w ≡ t
