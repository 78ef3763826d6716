-- By the reading: damage and k = 0 leave the table; with k > 0 the places noted are those of the counters held.
use Prim.Native.Nat.{ℕ, zero, suc, ◌<◌}
use mathlib.Core.Path.{◌≡◌, refl, sym, ap, ◌∙◌}
use native.Mathlib.Omega.{arith}
use lib.ListN.{length}
use Rattle.table.specs.Table.{rows}
use Rattle.scheme.specs.Store.{table_c, width_of}
use Rattle.scheme.specs.Reading.{reading}
use Rattle.scheme.specs.Reading.Reading.{counter}
use Rattle.suite.specs.Program.{program}
use Rattle.counter.specs.declared.Counter.{Counter}
use Rattle.counter.specs.Outcome.{reading_of}
use Rattle.counter.proofs.Readings.{reading_bounds}
use Rattle.treatment.proofs.Places.{noted_held}
use Rattle.treatment.proofs.treat.Goals as goal
use Rattle.treatment.proofs.treat.Goals.{In-Counter}

positive : (k : ℕ) → (k ≡ 0 → ⊥) → 0 < k
positive zero h = absurd (h refl)
positive (suc k) h = omega arith

-- the reading is the counter that was taken out
read : (c : In-Counter) →
    let a = c.args in
    let z : Counter = c.in-Counter.z in
    reading program a.c a.cl.now (rows (width_of table_c) a.c a.t.now) ≡ counter z.b.0 z.start.0 z.k z.count
read c = sym c.read_by.ensures.result_value ∙ ap reading_of c.in-Counter.is

pub anchor-used-requires : goal.anchor-used-requires
anchor-used-requires c =
    let k = (goal.at.anchor-used-requires c).In-Counter in
    let z : Counter = c.in-Counter.z in
    let s = c in
    let a = s.args in
    let p = s.requires in
    let t = rows (width_of table_c) a.c a.t.now in
    let bound = (reading_bounds a.c a.cl.now t z.b.0 z.start.0 z.k z.count (sym (read k))).counters in
    let noted = c.read_by.new.places in
    let long : length noted ≡ 4096 = c.read_by.auto.places in record {
      t_len = (
        p.0,
        (
          (c.keys_of-keys.ensures, p.1.0),
          record {
            read = read k;
            some = positive z.k c.if-z-eq0.false;
            long = omega (arith, bound, p.0.1, long);
            held = noted_held a.cl.now t a.c z.b.0 z.start.0 z.k z.count (read k) _ noted c.read_by.ensures.places_after;
          },
        ),
      );
      searchable = p.1.1;
    }
