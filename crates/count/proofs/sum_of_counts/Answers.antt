-- Each share is read in turn: a damaged one ends it, the count of another is added.
use Prim.Native.Nat.{ℕ, ◌+◌, ◌*◌, ◌≤◌}
use mathlib.Core.Path.{◌≡◌, refl, sym, ap, subst, ◌∙◌}
use mathlib.Core.List.{map}
use native.Mathlib.Omega.{arith}
use lib.ListN.{length}
use Rattle.scheme.specs.Store.{table_c, width_of}
use Rattle.table.specs.Lists.{sum}
use Rattle.table.specs.Table.{Table, rows}
use Rattle.table.proofs.Below.{below, sum_most}
use Rattle.table.proofs.Rows.{rows-length}
use Rattle.format.specs.Tags.{numbered_by}
use Rattle.counter.specs.Outcome.{reading_of, rows_in, share_read, share_looked}
use Rattle.counter.proofs.Readings.{reading_bounds}
use Rattle.counter.proofs.Shares.{Summed, summed_none, summed_more, summed_damage, summed_all, share_told_lem, share_small}
use Rattle.count.proofs.Laws.{sum_damage, sum_done, rows_more}
use borrow.Author.Rules.{rules}
use Rattle.count.proofs.sum_of_counts.Goals as goal
use Rattle.count.proofs.sum_of_counts.Goals.{After-struct_known-1}

-- one share more

more : (c : After-struct_known-1) →
    let l = c.loop-u in
    let a = c.args in
    Summed (share_read a.clx a.c (rows (width_of table_c) a.c a.t.now)) (l.u + 1) (l.sum + c.in-Counter.z.count)
unfolding share_read
more c = let l = c.loop-u in
    let a = c.args in
    let t = rows (width_of table_c) a.c a.t.now in
    let z = c.in-Counter.z in
    let e = sym (ap reading_of c.in-Counter.is) ∙ c.read_share-reading.ensures.result_value in
    summed_more (share_read a.clx a.c t) l.u l.sum z.b.0 z.start.0 z.k z.count l.invariant.0.1 e
    (reading_bounds a.c (numbered_by a.clx l.u) t z.b.0 z.start.0 z.k z.count e).count_limit

-- and its rows, which fit

rows_of : (c : After-struct_known-1) →
    let l = c.loop-u in
    let a = c.args in
    let n = l.rows + c.in-Counter.z.rows in
    (n ≡ sum (map (share_looked a.clx a.c (rows (width_of table_c) a.c a.t.now)) (below (l.u + 1)))) × (n ≤ 33554432 * (l.u + 1))
rows_of c = let l = c.loop-u in
    let a = c.args in
    let t : Table = rows (width_of table_c) a.c a.t.now in
    let z = c.in-Counter.z in
    let e = sym (ap reading_of c.in-Counter.is) ∙ c.read_share-reading.ensures.result_value in
    let x : z.rows ≡ share_looked a.clx a.c t l.u =
    sym (ap rows_in c.in-Counter.is) ∙ c.read_share-reading.ensures.result_value_2 ∙ share_told_lem a.clx a.c t l.u z.b.0 z.start.0 z.k z.count e in
    let m = rows_more (share_looked a.clx a.c t) l.u l.rows z.rows l.invariant.1 x in
    let h : length t ≤ 4096 = omega (arith, c.requires.1, rows-length (width_of table_c) a.c a.t.now) in
    (m, omega (arith, m, sum_most (share_looked a.clx a.c t) 33554432 (share_small a.clx a.c t c.requires.1.0 h) (l.u + 1)))

pub loop-u-init : goal.loop-u-init
loop-u-init c = let a = c.args in ((search rules, summed_none (share_read a.clx a.c (rows (width_of table_c) a.c a.t.now))), refl)

pub returns-in_default : goal.returns-in_default
returns-in_default c =
    let l = c.loop-u in
    let a = c.args in
    let t : Table = rows (width_of table_c) a.c a.t.now in
    let f = share_read a.clx a.c t in
    sum_damage f (share_looked a.clx a.c t) a.p (summed_damage f l.u a.p (omega (arith, c.loop-u-test.true)) (sym (ap reading_of c.in_default.is) ∙ c.read_share-reading.ensures.result_value))

pub overflow_add-sum : goal.overflow_add-sum
overflow_add-sum c = omega (arith, (more c).small, c.loop-u-test.true)

pub overflow_add-rows : goal.overflow_add-rows
overflow_add-rows c =
    let n = (goal.at.overflow_add-rows c).After-struct_known-1 in
    omega (arith, (rows_of n).1, n.loop-u-test.true, n.requires.1)

pub loop-u-preserved : goal.loop-u-preserved
loop-u-preserved c = ((search rules, more (goal.at.loop-u-preserved c).After-struct_known-1), (rows_of (goal.at.loop-u-preserved c).After-struct_known-1).0)

pub returns : goal.returns
returns c =
    let l = c.loop-u in
    let a = c.args in
    let t : Table = rows (width_of table_c) a.c a.t.now in
    let f = share_read a.clx a.c t in
    let g = share_looked a.clx a.c t in
    let e : l.u ≡ a.p + 1 = omega (arith, l.invariant.0.0, c.loop-u-test.false) in
    sum_done f g a.p l.sum l.rows (summed_all f a.p l.sum (subst (λ (u : ℕ). Summed f u l.sum) e l.invariant.0.1)) (l.invariant.1 ∙ ap (λ (u : ℕ). sum (map g (below u))) e)
