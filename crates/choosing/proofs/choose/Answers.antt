-- One part more.
use Prim.Native.Nat.{ℕ, ◌+◌, ◌-◌}
use mathlib.Core.Path.{◌≡◌, ap, ◌∙◌}
use native.Mathlib.Omega.{arith}
use Rattle.table.specs.Table.{rows}
use Rattle.choosing.specs.Choice.{part_counts, chosen_to}
use Rattle.choosing.proofs.Least.{choice_next}
use Rattle.choosing.proofs.choose.Goals as goal

pub loop-i-preserved : goal.loop-i-preserved
loop-i-preserved c =
    let s = c.args in
    let l = c.loop-i in
    let f = part_counts s.store.now s.z.p in
    let ps = rows 128 s.n s.parts.now in
    let next : l.i ≡ l.i + 1 - 1 = omega arith in (
      omega arith,
      omega (arith, c.loop-i-test.true),
      c.next-best.ensures
          ∙ choice_next f ps l.i l.best c.counts_of-counts.result l.invariant.0 l.invariant.2 c.counts_of-counts.ensures
          ∙ ap (λ (j : ℕ). chosen_to f ps j) next,
    )
