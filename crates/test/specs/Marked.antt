-- A test with a prepared RL (document 02, "Find by several fields"). The law in proofs/Laws.antt says that it is the scheme's.
use Rattle.std.specs.Prelude.{ℕ, Bool, ◌&&◌, List}
use Rattle.table.specs.Lists.{same, any_of}
use Rattle.table.specs.Table.{Table, used}
use Rattle.hmac.specs.declared.Keyed.{Keyed}
use Rattle.scheme.specs.Store.{label_id, label_nonce, label_mark}
use Rattle.format.specs.Tags.{r_mark_by}

-- whether an R row of the id carries the R mark [02:W4.17]
unfoldable pub carries_by : Keyed → List ℕ → List ℕ → Bool
carries_by rl id b = same (label_id b) id && same (label_mark b) (r_mark_by rl (label_nonce b) id)

-- whether one of a table's used rows does [02:W4.17]
unfoldable pub tests_by : Keyed → Table → List ℕ → Bool
tests_by rl t id = any_of (carries_by rl id) (used t)
