-- Each turn looks one tag up: it ends the walk, or its place is noted and its rows are added.
use Prim.Native.Nat.{ℕ, ◌+◌, ◌≤◌, ◌<◌}
use mathlib.Core.Path.{◌≡◌, refl, sym, ap, ◌∙◌}
use mathlib.Core.List.{List}
use native.Mathlib.Omega.{arith}
use lib.ListN.{length}
use Rattle.scheme.specs.Store.{table_c, width_of}
use Rattle.scheme.specs.RowsRead.{looked_over}
use Rattle.table.specs.Table.{Table, rows, place_of}
use Rattle.table.specs.Looked.{looked_at}
use Rattle.table.proofs.Rows.{rows-length}
use Rattle.lookups.specs.Walks.{counter_tags, tallied_by}
use Rattle.lookups.proofs.Walks.{walked_none, walked_more, walked_stop, noted_more, tally_none, tally_more, tally_stop, tally_small, more_small}
use Rattle.lookups.proofs.counters_held.Goals as goal
use Rattle.lookups.proofs.counters_held.Goals.{After-place-next, In-loop-k}

-- the place of the next one's row, and the rows looked at for it
found : (c : After-place-next) →
    let a = c.args in
    let k = a.start.0 + c.loop-k.k + 1 in
    (c.place-next.result.at ≡ place_of (counter_tags a.ct k) (rows (width_of table_c) a.c a.t.now))
    × (c.place-next.result.rows ≡ tallied_by a.by (looked_at (counter_tags a.ct k) (rows (width_of table_c) a.c a.t.now)))
found c = let a = c.args in
    let t : Table = rows (width_of table_c) a.c a.t.now in
    let e = c.counter_tag-tag.ensures in
    (c.place-next.ensures.at_value ∙ ap (λ (g : List ℕ). place_of g t) e, c.place-next.ensures.rows_value ∙ ap (λ (g : List ℕ). tallied_by a.by (looked_at g t)) e)

-- the tally with the next one's rows, which fits
more : (c : After-place-next) →
    let l = c.loop-k in
    let a = c.args in
    (l.rows + c.place-next.result.rows ≡ tallied_by a.by (looked_over (counter_tags a.ct) (rows (width_of table_c) a.c a.t.now) a.start.0 (l.k + 1)))
    × (l.rows + c.place-next.result.rows ≤ 16781312)
more c = let l = c.loop-k in
    let a = c.args in
    let t : Table = rows (width_of table_c) a.c a.t.now in
    let h : length t ≤ 4096 = omega (arith, c.requires.1.0, rows-length (width_of table_c) a.c a.t.now) in (
      tally_more a.by (counter_tags a.ct) t a.start.0 l.k l.rows c.place-next.result.rows l.invariant.1 (found c).1,
      omega (arith, tally_small a.by (counter_tags a.ct) t a.start.0 h l.k l.rows (omega (arith, l.invariant.0.0.bound, c.requires.1.0)) l.invariant.1, more_small a.by (counter_tags a.ct) t a.start.0 h (a.start.0 + l.k + 1) c.place-next.result.rows (found c).1),
    )

-- there is room for the next
room : (c : In-loop-k) → c.loop-k.k < length c.args.places.now
room c = omega (arith, c.loop-k.invariant.0.0.bound, c.requires)

pub loop-k-init : goal.loop-k-init
loop-k-init c =
    let a = c.args in
    ((walked_none (counter_tags a.ct) (rows (width_of table_c) a.c a.t.now) a.c a.start.0 (sym (rows-length (width_of table_c) a.c a.t.now)), refl), tally_none a.by)

pub returns-then-c-next : goal.returns-then-c-next
returns-then-c-next c =
    let o = (goal.at.returns-then-c-next c).After-place-next in
    let l = o.loop-k in
    let a = o.args in
    let t : Table = rows (width_of table_c) a.c a.t.now in record {
      k_value = walked_stop (counter_tags a.ct) t a.c a.start.0 l.k l.at l.invariant.0.0 o.place-next.result.at (found o).0 (omega (arith, rows-length (width_of table_c) a.c a.t.now, c.if-c-next.true));
      places_after = l.invariant.0.1;
      rows_value = tally_stop a.by (counter_tags a.ct) t a.start.0 l.k a.c (l.rows + o.place-next.result.rows) (omega (arith, l.invariant.0.0.bound, o.loop-k-test.true)) (more o).0;
    }

pub loop-k-preserved : goal.loop-k-preserved
loop-k-preserved c =
    let o = (goal.at.loop-k-preserved c).After-place-next in
    let l = o.loop-k in
    let a = o.args in
    let t : Table = rows (width_of table_c) a.c a.t.now in
    let j = o.place-next.result.at in (
      (
        walked_more (counter_tags a.ct) t a.c a.start.0 l.k l.at l.invariant.0.0 j (found o).0 o.loop-k-test.true (omega (arith, rows-length (width_of table_c) a.c a.t.now, c.if-c-next.false)),
        noted_more (counter_tags a.ct) t a.start.0 l.k a.places.now l.places l.invariant.0.1 (room (goal.at.loop-k-preserved c).In-loop-k) j (found o).0,
      ),
      (more o).0,
    )

pub overflow_add-rows : goal.overflow_add-rows
overflow_add-rows c = omega (arith, (more (goal.at.overflow_add-rows c).After-place-next).1)
