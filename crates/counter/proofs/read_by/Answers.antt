-- Anchor B's numbers and the last counter's are the scheme's; each way out is one of its three answers.
use Prim.Native.Nat.{suc, ◌+◌, ◌≤◌, min}
use mathlib.Core.Path.{◌≡◌, sym, ◌∙◌}
use mathlib.Core.Bool.{false}
use native.Mathlib.Omega.{arith}
use lib.ListN.{length}
use Rattle.scheme.specs.Store.{table_c, width_of}
use Rattle.table.specs.Table.{Table, rows}
use Rattle.table.proofs.Rows.{rows-length}
use Rattle.scheme.specs.Reading.{anchor_numbers, counter_numbers, counters_held}
use Rattle.suite.specs.Program.{program}
use Rattle.lookups.specs.Walks.{anchor_tags, counter_tags}
use Rattle.numbers.specs.Numbers.{numbers_of, anchor_bad}
use Rattle.counter.specs.Outcome.{places_noted}
use Rattle.counter.proofs.Readings.{anchors_are, anchor_numbers_are, counters_are, counter_numbers_are, damaged_counter, counted, places_are, rows_damage, rows_counter, rows_are}
use Rattle.lookups.proofs.Walks.{tally_small}
use Rattle.counter.proofs.read_by.Goals as goal
use Rattle.counter.proofs.read_by.Lts.View as view
use Rattle.counter.proofs.read_by.Goals.{After-counters_held-counters, After-numbers_or-anchor, After-numbers_or-counter, Else-anchor_damaged}

anchor : (c : After-numbers_or-anchor) →
    let a = c.args in
    numbers_of c.numbers_or-anchor.result ≡ anchor_numbers program a.c a.cl.now (rows (width_of table_c) a.c a.t.now)
anchor c = let b = c.anchors_held-anchors in
    let s = c in
    let a = s.args in
    c.numbers_or-anchor.ensures
    ∙ anchor_numbers_are a.c a.cl.now (rows (width_of table_c) a.c a.t.now) a.keys s.requires.1.0.1 b.result.b.0 b.result.at b.ensures.b_value.0 b.ensures.b_value.1

-- anchor B is no damage
good : (c : Else-anchor_damaged) → anchor_bad (numbers_of c.numbers_or-anchor.result) ≡ false
good c = sym c.anchor_damaged.ensures ∙ c.if-anchor_damaged.false

counter : (c : After-numbers_or-counter) →
    let a = c.args in
    numbers_of c.numbers_or-counter.result ≡ counter_numbers program a.c a.cl.now (rows (width_of table_c) a.c a.t.now)
counter c = let h = c.counters_held-counters in
    let o = (view.up-After-numbers_or-anchor _ _ _ _ c.before.before.before.before.before.before.before.before.before) in
    let s = o in
    let a = s.args in
    c.numbers_or-counter.ensures
    ∙ counter_numbers_are a.c a.cl.now (rows (width_of table_c) a.c a.t.now) a.keys s.requires.1.0.1 (numbers_of o.numbers_or-anchor.result) (anchor o) h.result.k h.result.at h.ensures.k_value.0 h.ensures.k_value.1

walked : (c : After-counters_held-counters) →
    let a = c.args in
    c.counters_held-counters.result.k ≡ counters_held program a.c a.cl.now (rows (width_of table_c) a.c a.t.now)
walked c = let h = c.counters_held-counters in
    let o = (view.up-After-numbers_or-anchor _ _ _ _ c.before.before.before.before.before) in
    let s = o in
    let a = s.args in
    counters_are a.c a.cl.now (rows (width_of table_c) a.c a.t.now) a.keys s.requires.1.0.1 (numbers_of o.numbers_or-anchor.result) (anchor o) h.result.k h.result.at h.ensures.k_value.0 h.ensures.k_value.1

-- what the walk noted
noted : (c : After-counters_held-counters) →
    let a = c.args in
    c.counters_held-counters.new.places ≡ places_noted a.c a.cl.now (rows (width_of table_c) a.c a.t.now) a.places.now
noted c = let h = c.counters_held-counters in
    let o = (view.up-After-numbers_or-anchor _ _ _ _ c.before.before.before.before.before) in
    let s = o in
    let a = s.args in
    places_are a.c a.cl.now (rows (width_of table_c) a.c a.t.now) (numbers_of o.numbers_or-anchor.result) (anchor o) a.places.now a.keys s.requires.1.0.1 (good (view.up-Else-anchor_damaged _ _ _ _ c.before.before.before)) h.result.k (walked c) h.new.places h.ensures.places_after

-- the tally of both walks fits
small : (c : After-counters_held-counters) →
    let o = c in
    o.anchors_held-anchors.result.rows + c.counters_held-counters.result.rows ≤ 33554432
small c = let o = c in
    let b = o.anchors_held-anchors in
    let h = c.counters_held-counters in
    let s = o in
    let a = s.args in
    let t : Table = rows (width_of table_c) a.c a.t.now in
    let l : length t ≤ 4096 = omega (arith, s.requires.1.0.0, rows-length (width_of table_c) a.c a.t.now) in
    omega (
      arith,
      tally_small a.by (anchor_tags a.keys.ct) t 0 l (min (suc b.result.b.0) a.c) b.result.rows (omega (arith, s.requires.1.0.0)) b.ensures.rows_value,
      tally_small a.by (counter_tags a.keys.ct) t o.numbers_or-anchor.result.a l (min (suc h.result.k) a.c) h.result.rows (omega (arith, s.requires.1.0.0)) h.ensures.rows_value,
    )

pub returns-then-counter_damaged : goal.returns-then-counter_damaged
returns-then-counter_damaged c =
    let y = (goal.at.returns-then-counter_damaged c).After-numbers_or-counter in
    let d = (goal.at.returns-then-counter_damaged c).Else-anchor_damaged in
    let o = (goal.at.returns-then-counter_damaged c).After-numbers_or-anchor in
    let a = o.args in
    let t = rows (width_of table_c) a.c a.t.now in
    let r = damaged_counter a.c a.cl.now t (numbers_of o.numbers_or-anchor.result) (anchor o) (good d)
    (numbers_of y.numbers_or-counter.result) (counter y) (sym c.counter_damaged.ensures ∙ c.if-counter_damaged.true) in record { result_value = r; places_after = noted (goal.at.returns-then-counter_damaged c).After-counters_held-counters; result_value_2 = rows_damage a.c a.cl.now t a.by r }

pub returns : goal.returns
returns c =
    let y = (goal.at.returns c).After-numbers_or-counter in
    let w = (goal.at.returns c).After-counters_held-counters in
    let h = w.counters_held-counters in
    let d = (goal.at.returns c).Else-anchor_damaged in
    let o = (goal.at.returns c).After-numbers_or-anchor in
    let b = o.anchors_held-anchors in
    let s = o in
    let a = s.args in
    let x = numbers_of o.numbers_or-anchor.result in
    let t = rows (width_of table_c) a.c a.t.now in
    let e = anchors_are a.c a.cl.now t a.keys s.requires.1.0.1 b.result.b.0 b.result.at b.ensures.b_value.0 b.ensures.b_value.1 in
    let r = counted a.c a.cl.now t x (anchor o) (good d) (numbers_of y.numbers_or-counter.result) (counter y) b.result.b.0 h.result.k e (walked w)
    (sym c.counter_damaged.ensures ∙ c.if-counter_damaged.false) in record {
      result_value = r;
      places_after = noted w;
      result_value_2 = rows_counter a.c a.cl.now t a.by b.result.b.0 x.a h.result.k y.numbers_or-counter.result.n (b.result.rows + h.result.rows) r
          (rows_are a.c a.cl.now t a.by a.keys s.requires.1.0.1 x (anchor o) b.result.b.0 h.result.k b.result.rows h.result.rows e (walked w) b.ensures.rows_value h.ensures.rows_value);
    }

pub overflow_add-result : goal.overflow_add-result
overflow_add-result c = omega (arith, small (goal.at.overflow_add-result c).After-counters_held-counters)
