use Prim.Native.Nat.{ℕ, ◌+◌}
use mathlib.Core.Path.{◌≡◌, sym, ap, ap₂, subst, ◌∙◌}
use mathlib.Core.List.{List}
use native.Mathlib.Numerals.{add-one}
use native.Mathlib.Omega.{arith}
use lib.ListN.{set, replicate}
use Rattle.scheme.specs.Store.{table_c, width_of}
use Rattle.table.specs.Table.{rows}
use Rattle.scheme.specs.Reading.{count_of}
use Rattle.format.specs.Tags.{numbered_by}
use Rattle.counter.specs.Outcome.{reading_of, share_read}
use Rattle.counter.proofs.Readings.{reading_bounds}
use Rattle.counter.proofs.Shares.{Summed, summed_more, summed_damage, summed_all}
use Rattle.find.specs.Counts.{filled}
use Rattle.find.proofs.Laws.{counts_damage, counts_done}
use borrow.Author.Rules.{rules}
use Rattle.find.proofs.read_all.Goals as goal
use Rattle.find.proofs.read_all.Goals.{After-struct_known-1}

-- one share more
more : (c : After-struct_known-1) →
    let l = c.loop-u in
    let a = c.args in
    let x = c.in-Counter.z.count in
    let f = share_read a.clx a.c (rows (width_of table_c) a.c a.t.now) in
    Summed f (l.u + 1) (l.sum + x) × (set l.of l.u x ≡ filled (λ u. count_of (f u)) (l.u + 1) (replicate 16 0))
unfolding share_read
more c = let l = c.loop-u in
    let a = c.args in
    let t = rows (width_of table_c) a.c a.t.now in
    let z = c.in-Counter.z in
    let f = share_read a.clx a.c t in
    let e = sym (ap reading_of c.in-Counter.is) ∙ c.read_share-reading.ensures.result_value in (
      summed_more f l.u l.sum z.b.0 z.start.0 z.k z.count l.invariant.1 e
          (reading_bounds a.c (numbered_by a.clx l.u) t z.b.0 z.start.0 z.k z.count e).count_limit,
      ap₂ (λ (x : List ℕ) (y : ℕ). set x l.u y) l.invariant.2 (ap count_of e) ∙ ap (λ (n : ℕ). filled (λ u. count_of (f u)) n (replicate 16 0)) (sym (add-one l.u)),
    )

pub returns-in_default : goal.returns-in_default
returns-in_default c =
    let l = c.loop-u in
    let a = c.args in
    let f = share_read a.clx a.c (rows (width_of table_c) a.c a.t.now) in
    counts_damage f a.p (summed_damage f l.u a.p (omega (arith, c.loop-u-test.true)) (sym (ap reading_of c.in_default.is) ∙ c.read_share-reading.ensures.result_value))

pub overflow_add-sum : goal.overflow_add-sum
overflow_add-sum c = omega (arith, (more c).0.small, c.loop-u-test.true)

pub loop-u-preserved : goal.loop-u-preserved
loop-u-preserved c = (search rules, (more c).0, (more c).1)

pub returns : goal.returns
returns c =
    let l = c.loop-u in
    let a = c.args in
    let f = share_read a.clx a.c (rows (width_of table_c) a.c a.t.now) in
    let e : l.u ≡ a.p + 1 = omega (arith, l.invariant.0, c.loop-u-test.false) in
    counts_done f a.p l.of l.sum (l.invariant.2 ∙ ap (λ (n : ℕ). filled (λ u. count_of (f u)) n (replicate 16 0)) e) (summed_all f a.p l.sum (subst (λ (u : ℕ). Summed f u l.sum) e l.invariant.1))
