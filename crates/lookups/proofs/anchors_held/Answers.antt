-- Each turn looks one tag up: it ends the walk, or its rows are added.
use Prim.Native.Nat.{ℕ, ◌+◌, ◌≤◌}
use mathlib.Core.Path.{◌≡◌, sym, ap, ◌∙◌}
use mathlib.Core.List.{List}
use native.Mathlib.Omega.{arith}
use lib.ListN.{length}
use Rattle.scheme.specs.Store.{table_c, width_of}
use Rattle.scheme.specs.RowsRead.{looked_over}
use Rattle.table.specs.Table.{Table, rows, place_of}
use Rattle.table.specs.Looked.{looked_at}
use Rattle.table.proofs.Rows.{rows-length}
use Rattle.lookups.specs.Walks.{anchor_tags, tallied_by}
use Rattle.lookups.proofs.Walks.{walked_none, walked_more, walked_stop, tally_none, tally_more, tally_stop, tally_small, more_small}
use Rattle.lookups.proofs.anchors_held.Goals as goal
use Rattle.lookups.proofs.anchors_held.Goals.{After-place-found}

-- the place of the next one's row, and the rows looked at for it
found : (c : After-place-found) →
    let a = c.args in
    let k = 0 + c.loop-b.b + 1 in
    (c.place-found.result.at ≡ place_of (anchor_tags a.ct k) (rows (width_of table_c) a.c a.t.now))
    × (c.place-found.result.rows ≡ tallied_by a.by (looked_at (anchor_tags a.ct k) (rows (width_of table_c) a.c a.t.now)))
found c = let l = c.loop-b in
    let a = c.args in
    let t : Table = rows (width_of table_c) a.c a.t.now in
    let e : c.anchor_tag-tag.result ≡ anchor_tags a.ct (0 + l.b + 1) =
    c.anchor_tag-tag.ensures ∙ ap (anchor_tags a.ct) (let n : l.b + 1 ≡ 0 + l.b + 1 = omega arith in n) in
    (c.place-found.ensures.at_value ∙ ap (λ (g : List ℕ). place_of g t) e, c.place-found.ensures.rows_value ∙ ap (λ (g : List ℕ). tallied_by a.by (looked_at g t)) e)

-- the tally with the next one's rows, which fits
more : (c : After-place-found) →
    let l = c.loop-b in
    let a = c.args in
    (l.rows + c.place-found.result.rows ≡ tallied_by a.by (looked_over (anchor_tags a.ct) (rows (width_of table_c) a.c a.t.now) 0 (l.b + 1)))
    × (l.rows + c.place-found.result.rows ≤ 16781312)
more c = let l = c.loop-b in
    let a = c.args in
    let t : Table = rows (width_of table_c) a.c a.t.now in
    let h : length t ≤ 4096 = omega (arith, c.requires.0, rows-length (width_of table_c) a.c a.t.now) in (
      tally_more a.by (anchor_tags a.ct) t 0 l.b l.rows c.place-found.result.rows l.invariant.1 (found c).1,
      omega (arith, tally_small a.by (anchor_tags a.ct) t 0 h l.b l.rows (omega (arith, l.invariant.0.bound, c.requires.0)) l.invariant.1, more_small a.by (anchor_tags a.ct) t 0 h (0 + l.b + 1) c.place-found.result.rows (found c).1),
    )

pub loop-b-init : goal.loop-b-init
loop-b-init c =
    let a = c.args in
    (walked_none (anchor_tags a.ct) (rows (width_of table_c) a.c a.t.now) a.c 0 (sym (rows-length (width_of table_c) a.c a.t.now)), tally_none a.by)

pub returns-then-c-found : goal.returns-then-c-found
returns-then-c-found c =
    let o = (goal.at.returns-then-c-found c).After-place-found in
    let l = o.loop-b in
    let a = o.args in
    let t : Table = rows (width_of table_c) a.c a.t.now in record {
      b_value = walked_stop (anchor_tags a.ct) t a.c 0 l.b l.at l.invariant.0 o.place-found.result.at (found o).0 (omega (arith, rows-length (width_of table_c) a.c a.t.now, c.if-c-found.true));
      rows_value = tally_stop a.by (anchor_tags a.ct) t 0 l.b a.c (l.rows + o.place-found.result.rows) (omega (arith, l.invariant.0.bound, o.loop-b-test.true)) (more o).0;
    }

pub loop-b-preserved : goal.loop-b-preserved
loop-b-preserved c =
    let o = (goal.at.loop-b-preserved c).After-place-found in
    let l = o.loop-b in
    let a = o.args in
    let t : Table = rows (width_of table_c) a.c a.t.now in
    (walked_more (anchor_tags a.ct) t a.c 0 l.b l.at l.invariant.0 o.place-found.result.at (found o).0 o.loop-b-test.true (omega (arith, rows-length (width_of table_c) a.c a.t.now, c.if-c-found.false)), (more o).0)

pub overflow_add-rows : goal.overflow_add-rows
overflow_add-rows c = omega (arith, (more (goal.at.overflow_add-rows c).After-place-found).1)
