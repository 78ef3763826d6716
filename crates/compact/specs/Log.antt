-- The logged CL of table S (document 01, "Store").
use Rattle.std.specs.Prelude.{ℕ, List, map}
use Rattle.table.specs.Table.{Table, body}
use Rattle.scheme.specs.Store.{cl_in}
use Rattle.suite.specs.Program.{program}

-- the CL in rows of S [01:ST12]
unfoldable pub cls_in : List ℕ → Table → List (List ℕ)
cls_in ks t = map (λ r. cl_in program ks (body r)) t
