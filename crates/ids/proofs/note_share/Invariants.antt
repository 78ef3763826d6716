-- The ids at the first a addresses are noted.
use Prim.Native.Nat.{◌≤◌}
use mathlib.Core.Path.{◌≡◌}
use lib.ListN.{length}
use Rattle.table.specs.Table.{rows}
use Rattle.scheme.specs.Store.{table_m, width_of}
use Rattle.chains.specs.Chains.{kept}
use Rattle.ids.specs.Ids.{noted_to}
use Rattle.ids.proofs.note_share.Given as goal

abbrev pub invariant-loop-a : goal.invariant-loop-a
invariant-loop-a l = (l.a ≤ l.count) × ((length l.index ≡ length l.initial.index) × ((length l.ids ≡ length l.initial.ids)
    × (kept l.index l.ids l.next ≡ noted_to l.keys (rows (width_of table_m) l.m l.t) l.s.u l.a (kept l.initial.index l.initial.ids l.n))))
