-- The invariant: what is left of the walk decides, the places so far are noted, and the rows of the lookups so far are added up.
use mathlib.Core.Path.{◌≡◌}
use Rattle.scheme.specs.Store.{table_c, width_of}
use Rattle.scheme.specs.RowsRead.{looked_over}
use Rattle.table.specs.Table.{rows}
use Rattle.lookups.specs.Walks.{counter_tags, noted, tallied_by}
use Rattle.lookups.proofs.Walks.{Walked}
use Rattle.lookups.proofs.counters_held.Given as goal

abbrev pub invariant-loop-k : goal.invariant-loop-k
invariant-loop-k l = (Walked (counter_tags l.ct) (rows (width_of table_c) l.c l.t) l.c l.start.0 l.k l.at × (l.places ≡ noted (counter_tags l.ct) (rows (width_of table_c) l.c l.t) l.start.0 l.k l.initial.places))
    × (l.rows ≡ tallied_by l.by (looked_over (counter_tags l.ct) (rows (width_of table_c) l.c l.t) l.start.0 l.k))
