-- The rows that an erasure gives up (document 01, "Operations": erase; document 02, "Find by several fields").
use Rattle.std.specs.Prelude.{ℕ, ◌≤◌, ◌≡◌, Bool, false, List, map, take}
use Rattle.table.specs.Lists.{same, select, any_of}
use Rattle.table.specs.Table.{Table, used, mark_bad}
use Rattle.scheme.specs.Store.{reverse_id, reverse_tag}
use Rattle.store.specs.declared.Part.{Part}
use Rattle.store.specs.Tables.{table_of, InOrder}

-- a table as the checks find it: in form, with no mark above 1
pub record Clean (b : List ℕ) (p : Part) (w : ℕ) : Type 0 where
  pub order : InOrder b p w
  pub marks : mark_bad 1 (table_of b p w) ≡ false
  pub most : p.rows ≤ 4096

-- whether a row of V or of R, without its mark, is the id's [01:ST8] [02:W4.3]
abbrev pub has_id : List ℕ → List ℕ → Bool
has_id id b = same (take 16 b) id

-- whether a row of M, without its mark, has a tag of the id's rows of a table V [01:OP4]
abbrev pub erased_by : List ℕ → Table → List ℕ → Bool
erased_by id t b = any_of (same (take 32 b)) (map reverse_tag (select (λ r. same (reverse_id r) id) (used t)))
