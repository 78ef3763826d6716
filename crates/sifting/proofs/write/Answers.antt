use Prim.Native.Nat.{ℕ, ◌+◌, ◌<◌}
use mathlib.Core.Path.{◌≡◌, refl, subst, ◌∙◌}
use native.Mathlib.Omega.{arith}
use lib.ListN.{length, get_or}
use Rattle.table.specs.Table.{Table, rows}
use Rattle.table.proofs.Rows.{rows_wide}
use Rattle.scheme.specs.Store.{table_m, width_of}
use Rattle.sifting.proofs.Laws.{Wrote, wrote_none, wrote_next, stays-length, unset_next, unset_more}
use Rattle.sifting.proofs.write.Goals as goal
use Rattle.sifting.proofs.write.Lts.View as view
use Rattle.sifting.proofs.write.Goals.{At-loop-i, In-loop-i, Start}

abbrev start : At-loop-i → Start
start c = c.before.before.before.before.before.before.before

abbrev in_m : Start → Table
in_m s = rows (width_of table_m) s.args.m s.args.t.now

inside : (c : In-loop-i) → c.loop-i.i < length (start (view.up-At-loop-i _ _ _ _ _ _ c.before.before)).args.flags.now
inside c = omega (arith, c.loop-i-test.true, (start (view.up-At-loop-i _ _ _ _ _ _ c.before.before)).requires.1.1.0)

pub loop-i-init : goal.loop-i-init
loop-i-init c =
    let s = (goal.at.loop-i-init c).Start in
    (omega arith, (refl, wrote_none s.args.me (in_m s) s.args.index.now s.args.flags.now s.args.output.now))

pub put-k-requires : goal.put-k-requires
put-k-requires c =
    let i = (goal.at.put-k-requires c).In-loop-i in
    let l = (goal.at.put-k-requires c).At-loop-i in
    let s = start l in
    let fs = s.args.flags.now in record {
      t_len = (s.requires.0, s.requires.1.0.readable l.loop-i.i i.loop-i-test.true);
      i_in_bounds = omega (
        arith,
        l.loop-i.invariant.1.0,
        l.loop-i.invariant.1.1.place,
        stays-length s.args.me (in_m s) s.args.index.now (get_or fs l.loop-i.i 0) l.loop-i.i,
        unset_next fs l.loop-i.i (inside i),
        unset_more fs s.args.n (l.loop-i.i + 1) (omega (arith, i.loop-i-test.true)),
        s.requires.1.1.1,
      );
    }

pub loop-i-preserved : goal.loop-i-preserved
loop-i-preserved c =
    let p = c in
    let i = (goal.at.loop-i-preserved c).In-loop-i in
    let l = (goal.at.loop-i-preserved c).At-loop-i in
    let s = start l in
    let w = rows_wide (width_of table_m) s.args.m s.args.t.now (omega (arith, s.requires.0)) in (
      omega (arith, i.loop-i-test.true),
      (
        p.put-k.auto.output ∙ l.loop-i.invariant.1.0,
        wrote_next s.args.me (in_m s) s.args.index.now s.args.flags.now s.args.output.now l.loop-i.i l.loop-i.k l.loop-i.output w
            (s.requires.1.0.readable l.loop-i.i i.loop-i-test.true).inside (inside i) l.loop-i.invariant.1.1 p.put-k.result p.put-k.ensures.value _ p.put-k.ensures.output_after,
      ),
    )

pub returns : goal.returns
returns c =
    let l = (goal.at.returns c).At-loop-i in
    let s = start l in
    let e : l.loop-i.i ≡ s.args.n = omega (arith, l.loop-i.invariant.0, c.loop-i-test.false) in
    (subst (λ (i : ℕ). Wrote s.args.me (in_m s) s.args.index.now s.args.flags.now s.args.output.now i l.loop-i.k l.loop-i.output) e l.loop-i.invariant.1.1).bytes

pub bounds-flags-i : goal.bounds-flags-i
bounds-flags-i c = omega (arith, inside (goal.at.bounds-flags-i c).In-loop-i)

pub shape_of-output : goal.shape_of-output
shape_of-output c = c.loop-i.invariant.1.0
