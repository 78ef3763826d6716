-- The invariant: what is left of the walk decides, and the rows of the lookups so far are added up.
use mathlib.Core.Path.{◌≡◌}
use Rattle.scheme.specs.Store.{table_c, width_of}
use Rattle.scheme.specs.RowsRead.{looked_over}
use Rattle.table.specs.Table.{rows}
use Rattle.lookups.specs.Walks.{anchor_tags, tallied_by}
use Rattle.lookups.proofs.Walks.{Walked}
use Rattle.lookups.proofs.anchors_held.Given as goal

abbrev pub invariant-loop-b : goal.invariant-loop-b
invariant-loop-b l = Walked (anchor_tags l.ct) (rows (width_of table_c) l.c l.t) l.c 0 l.b l.at × (l.rows ≡ tallied_by l.by (looked_over (anchor_tags l.ct) (rows (width_of table_c) l.c l.t) 0 l.b))
