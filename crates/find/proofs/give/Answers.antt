-- The different ids are gathered; their number decides on 18, and then they are written.
use Prim.Native.Nat.{ℕ, ◌+◌, ◌≤◌}
use mathlib.Core.Path.{ap, ◌∙◌}
use mathlib.Core.List.{List}
use native.Mathlib.Omega.{arith}
use lib.ListN.{length, replicate, length-replicate}
use Rattle.octets.specs.Part.{written}
use Rattle.table.specs.Lists.{flat, distinct}
use Rattle.table.specs.Table.{Table, rows}
use Rattle.table.proofs.Rows.{rows-length, rows_wide}
use Rattle.scheme.specs.Store.{table_m, width_of}
use Rattle.chains.specs.Chains.{Kept, kept}
use Rattle.chains.proofs.Chains.{RowsM}
use Rattle.ids.specs.Ids.{ids_in}
use Rattle.find.proofs.Laws.{ready, room, gathered_chained, gathered_ids, gathered_number, gathered_wide, no_room, all_written}
use Rattle.find.proofs.give.Goals as goal
use Rattle.find.proofs.give.Goals.{Start}

abbrev table_at : Start → Table
table_at s = rows (width_of table_m) s.args.m s.args.t.now

few : (s : Start) → length (table_at s) ≤ 4096
few s = omega (arith, rows-length (width_of table_m) s.args.m s.args.t.now, s.requires.1.0)

wide : (s : Start) → RowsM (table_at s)
wide s = rows_wide (width_of table_m) s.args.m s.args.t.now (omega (arith, s.requires.0.0))

abbrev found : Start → List (List ℕ)
found s = distinct (ids_in s.args.keys (table_at s) s.args.of (s.args.p + 1))

pub gather-n-requires : goal.gather-n-requires
gather-n-requires c =
    let s = (goal.at.gather-n-requires c).Start in
    let a = s.args in
    let l = length-replicate {A = ℕ} 65536 0 in (
      s.requires.0,
      (
        s.requires.1.0,
        (
          s.requires.1.1.0,
          (
            ready a.keys (table_at s) (few s) (wide s) a.of (a.p + 1) a.index.now (replicate 65536 0) s.requires.1.1.1 l,
            room a.keys (table_at s) (few s) (wide s) a.of (a.p + 1) a.index.now (replicate 65536 0) s.requires.1.1.1 l,
          ),
        ),
      ),
    )

pub returns-then-room-n : goal.returns-then-room-n
returns-then-room-n c =
    let s = (goal.at.returns-then-room-n c).Start in
    let a = s.args in
    let g = c.gather-n in
    let r = no_room (found s) a.output.now g.result
    (gathered_number a.keys (table_at s) (few s) (wide s) a.of (a.p + 1) a.index.now (replicate 65536 0) s.requires.1.1.1 (length-replicate {A = ℕ} 65536 0)
    (kept g.new.index g.new.ids g.result) g.ensures)
    (omega (arith, c.if-room-n.true)) in record { result_value = r.0; output_after = r.1; index_after = ap (λ (k : Kept). k.index) g.ensures }

pub write-requires : goal.write-requires
write-requires c =
    let s = (goal.at.write-requires c).Start in
    let a = s.args in
    let g = c.gather-n in (
      s.requires.0.0,
      (
        gathered_chained a.keys (table_at s) (few s) (wide s) a.of (a.p + 1) a.index.now (replicate 65536 0) s.requires.1.1.1 (length-replicate {A = ℕ} 65536 0)
            (kept g.new.index g.new.ids g.result) g.ensures,
        omega (arith, c.if-room-n.false),
      ),
    )

pub returns : goal.returns
returns c =
    let s = (goal.at.returns c).Start in
    let a = s.args in
    let g = c.gather-n in
    let k = kept g.new.index g.new.ids g.result in
    let l = length-replicate {A = ℕ} 65536 0 in
    let w = c.write in
    let r = all_written (found s) a.output.now g.result
    (gathered_number a.keys (table_at s) (few s) (wide s) a.of (a.p + 1) a.index.now (replicate 65536 0) s.requires.1.1.1 l k g.ensures)
    (omega (arith, c.if-room-n.false))
    (gathered_wide a.keys (table_at s) (few s) (wide s) a.of (a.p + 1) a.index.now (replicate 65536 0) s.requires.1.1.1 l)
    w.new.output
    (w.ensures ∙ ap (λ (x : List (List ℕ)). written a.output.now 0 (flat x)) (gathered_ids a.keys (table_at s) (few s) (wide s) a.of (a.p + 1) a.index.now (replicate 65536 0) s.requires.1.1.1 l k g.ensures)) in record { result_value = r.0; output_after = r.1; index_after = ap (λ (k : Kept). k.index) g.ensures }
