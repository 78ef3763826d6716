-- A table of a store that passed the checks, lent by its part: it lies in the slice and can be searched.
use Rattle.std.specs.Prelude.{ℕ, ◌-◌, ◌≤◌, List}
use Rattle.table.specs.Order.{Searchable}
use Rattle.store.specs.declared.Part.{Part}
use Rattle.store.specs.Tables.{table_of, Within}

pub record Ready (b : List ℕ) (p : Part) (w : ℕ) : Type 0 where
  pub within : Within b p w
  pub few : p.free ≤ p.rows
  pub searchable : Searchable w (p.rows - p.free) (table_of b p w)
