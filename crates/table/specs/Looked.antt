-- Rows looked at by a lookup of a tag (document 02, "Stop early, and say the rows read").
use Rattle.std.specs.Prelude.{ℕ, ◌+◌, not, ◌&&◌, List, ltb, length, take}
use Rattle.table.specs.Lists.{bit, count}
use Rattle.table.specs.Table.{Row, Table, is_free, body}
use Rattle.table.specs.Order.{precedes, used_rows}

-- the used rows with a smaller tag [02:W3.2]
unfoldable pub smaller_rows : List ℕ → Table → ℕ
smaller_rows tag t = count (λ (r : Row). not (is_free r) && precedes (take 32 (body r)) tag) t

-- those, and one more if a used row follows them [02:W3.3]
unfoldable pub looked_at : List ℕ → Table → ℕ
looked_at tag t = smaller_rows tag t + bit (ltb (smaller_rows tag t) (length (used_rows t)))
