use Prim.Native.Nat.{ℕ, suc, ◌+◌, ◌*◌, ◌-◌, ◌<◌}
use mathlib.Core.Path.{◌≡◌, sym, ap, ap₂, ◌∙◌}
use mathlib.Core.Bool.{Bool}
use mathlib.Core.List.{List, []}
use native.Mathlib.Omega.{arith}
use lib.ListN.{length, get_or, take, drop}
use Rattle.table.specs.Lists.{same}
use Rattle.table.specs.Table.{rows}
use Rattle.table.proofs.Rows.{rows-length}
use Rattle.table.proofs.Walk.{row_part}
use Rattle.firsts.specs.Firsts.{last_in}
use Rattle.firsts.proofs.Chaining.{walking_start, walking_leads, walking_hit, walking_next}
use Rattle.firsts.proofs.equal_in.Goals as goal

within : (n i : ℕ) (log : List ℕ) → i < n → i < length (rows 32 n log)
within n i log h = omega (arith, rows-length 32 n log)

-- what the comparison says of the two rows
compared : (log : List ℕ) (n i j : ℕ) → i < n → j < n → (r : Bool) → r ≡ same (take (32 * j + 32 - 32 * j) (drop (32 * j) log)) (take (32 * i + 32 - 32 * i) (drop (32 * i) log))
    → r ≡ same (get_or (rows 32 n log) j []) (get_or (rows 32 n log) i [])
compared log n i j h k r e = e ∙ ap₂ same (row_part 32 n j log k) (row_part 32 n i log h)

pub loop-next-init : goal.loop-next-init
loop-next-init c =
    let a = c.args in
    let l = rows 32 a.n a.log.now in
    walking_start l a.i (within a.n a.i a.log.now c.requires.n_in_bounds.1.1.0) c.from-next.result
    (c.from-next.ensures ∙ c.requires.n_in_bounds.1.1.1.head a.b c.requires.b_value.1 ∙ ap (λ (b : ℕ). last_in l b a.i) c.requires.b_value.0)

pub returns-then-eq : goal.returns-then-eq
returns-then-eq c =
    let a = c.args in
    let l = rows 32 a.n a.log.now in
    let x = c.loop-next.next in
    let h = within a.n a.i a.log.now c.requires.n_in_bounds.1.1.0 in
    let w = c.loop-next.invariant in (
      walking_hit l a.i h x (x - 1) w (omega (arith, c.loop-next-test.true))
          (sym (compared a.log.now a.n a.i (x - 1) c.requires.n_in_bounds.1.1.0 (omega (arith, c.requires.n_in_bounds, c.requires.b_value, w.below, c.loop-next-test.true)) c.eq.result c.eq.ensures) ∙ c.if-eq.true),
      omega (arith, w.below),
    )

pub loop-next-preserved : goal.loop-next-preserved
loop-next-preserved c =
    let a = c.args in
    let l = rows 32 a.n a.log.now in
    let x = c.loop-next.next in
    let h = within a.n a.i a.log.now c.requires.n_in_bounds.1.1.0 in
    let w = c.loop-next.invariant in
    let e : x ≡ suc (x - 1) = omega (arith, c.loop-next-test.true) in
    walking_next l a.i h x (x - 1) w e
    (sym (compared a.log.now a.n a.i (x - 1) c.requires.n_in_bounds.1.1.0 (omega (arith, c.requires.n_in_bounds, c.requires.b_value, w.below, c.loop-next-test.true)) c.eq.result c.eq.ensures) ∙ c.if-eq.false)
    c.from-next-in-loop-next.result (c.from-next-in-loop-next.ensures ∙ c.requires.n_in_bounds.1.1.1.link (x - 1) (omega (arith, w.below, c.loop-next-test.true)) (walking_leads l a.i h x (x - 1) w e))
