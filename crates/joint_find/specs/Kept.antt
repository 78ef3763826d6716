-- The ids that a joint find keeps of a find's (document 02, "Find by several fields").
use Rattle.std.specs.Prelude.{ℕ, ◌%◌, Bool, not, ◌||◌, List, ltb, eqb, length}
use Rattle.table.specs.Lists.{all_of, select}
use Rattle.table.specs.Table.{Table}
use Rattle.scheme.specs.Keys.{part_rl}
use Rattle.scheme.specs.Refusals.{part_count}
use Rattle.scheme.specs.Test.{tests}
use Rattle.scheme.specs.JointFind.{without}
use Rattle.suite.specs.Program.{program}

-- whether a part tests yes for an id in a table R
abbrev pub test_of : Table → List ℕ → List ℕ → Bool
test_of t part id = tests program t (part_rl part) id

-- the ids for which every part but the one at a place tests yes [02:W4.21]
unfoldable pub kept_of : Table → ℕ → List (List ℕ) → List (List ℕ) → List (List ℕ)
kept_of t at parts ids = select (λ id. all_of (λ p. test_of t p id) (without at parts)) ids

-- the condition of 6: other than 1 to 8 parts of 128 bytes [02:W4.18]
unfoldable pub parts_bad : List ℕ → Bool
parts_bad parts = not (eqb (length parts % 128) 0) || (ltb (part_count parts) 1 || ltb 8 (part_count parts))
