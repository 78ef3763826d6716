-- A store laid out in bytes: where its tables stand, and that each has its rows (document 01, "Store"). The one notion that the proof
-- of the claim and the contracts of the operations share.
use Rattle.std.specs.Prelude.{ℕ, ◌+◌, ◌*◌, ◌≡◌, List, length}
use Rattle.table.specs.Lists.{All}
use Rattle.table.specs.Table.{Table}
use Rattle.scheme.specs.Store.{Sizes, Which, plan, width_of, rows_of, header_length, start_from, start_of, Store, joined}

-- where a table stands in the slice, and how many rows it has
pub record Span : Type 0 where
  pub start : ℕ
  pub end : ℕ
  pub rows : ℕ

-- in a store with these sizes [01:ST3]
abbrev pub span_of : Sizes → Which → Span
span_of z k = record { start = start_of z k; end = start_of z k + width_of k * rows_of z k; rows = rows_of z k }

-- n rows of w bytes
pub record Wide (w n : ℕ) (t : Table) : Type 0 where
  pub number : length t ≡ n
  pub widths : All (λ r. length r ≡ w) t

-- the bytes b are the store st, whose tables stand at these places [01:ST3 ST4]
pub record Laid (at : Which → Span) (b : List ℕ) (st : Store) : Type 0 where
  pub bytes : b ≡ joined st
  pub head : length st.header ≡ header_length
  pub wide : (k : Which) → Wide (width_of k) (at k).rows (st.table k)
  pub start : (k : Which) → (at k).start ≡ start_from (λ j. (at j).rows) header_length plan k
  pub end : (k : Which) → (at k).end ≡ (at k).start + width_of k * (at k).rows
