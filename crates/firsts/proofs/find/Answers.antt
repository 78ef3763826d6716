use Prim.Native.Nat.{ℕ}
use mathlib.Core.Path.{refl, ap, ◌∙◌}
use mathlib.Core.List.{◌++◌}
use native.Mathlib.Omega.{arith}
use lib.ListN.{drop}
use Rattle.table.specs.Table.{rows}
use Rattle.table.proofs.Rows.{rows-length}
use Rattle.table.proofs.Walk.{row_part}
use Rattle.firsts.specs.Firsts.{bucket_of, firsts}
use Rattle.firsts.proofs.Chaining.{chained_start, chained_turn, found_none, found_turn, found_all}
use Rattle.firsts.proofs.find.Goals as goal

pub loop-i-init : goal.loop-i-init
loop-i-init c =
    let a = c.args in
    (chained_start (rows 32 a.n a.log.now) _ _ refl refl, found_none (rows 32 a.n a.log.now) _)

pub loop-i-preserved : goal.loop-i-preserved
loop-i-preserved c =
    let a = c.args in
    let p = c.requires in
    let l = rows 32 a.n a.log.now in
    let i = c.loop-i.i in
    let v = c.loop-i.invariant in
    let w = rows-length 32 a.n a.log.now in (
      chained_turn l i _ _ v.0 (omega (arith, p, c.loop-i-test.true)) c.bucket-b.result
          (c.bucket-b.ensures.0 ∙ ap bucket_of (row_part 32 a.n i a.log.now c.loop-i-test.true)) c.bucket-b.ensures.1
          c.equal_in-j.result c.equal_in-j.ensures.0 _ _ c.link.ensures.0 c.link.ensures.1,
      found_turn l a.first.now i c.loop-i.first v.1 (omega (arith, w, c.loop-i-test.true)) (omega (arith, w, p)) c.equal_in-j.result c.equal_in-j.ensures.0,
    )

pub returns : goal.returns
returns c =
    let a = c.args in
    let l = rows 32 a.n a.log.now in
    let w = rows-length 32 a.n a.log.now in
    found_all l a.first.now c.loop-i.i c.loop-i.first c.loop-i.invariant.1 (omega (arith, w, c.loop-i-test.false))
    ∙ ap (λ (k : ℕ). firsts l ++ drop k a.first.now) w
