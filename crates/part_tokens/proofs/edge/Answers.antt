-- The first piece begins at 0, each other where one ends.
use Prim.Native.Nat.{ℕ, suc, ◌-◌}
use mathlib.Core.Path.{◌≡◌, ap}
use mathlib.Core.List.{◌∷◌}
use native.Mathlib.Omega.{arith}
use lib.ListN.{get_or}
use Rattle.part_tokens.specs.Parts.{edge}
use Rattle.part_tokens.proofs.edge.Goals as goal

pub returns-then-j-gt0 : goal.returns-then-j-gt0
unfolding edge
returns-then-j-gt0 c =
    let a = c.args in
    let e : suc (a.j - 1) ≡ a.j = omega (arith, c.if-j-gt0.true) in
    ap (λ (k : ℕ). get_or (0 ∷ a.ends.now) k 0) e

pub returns-else-j-gt0 : goal.returns-else-j-gt0
unfolding edge
returns-else-j-gt0 c =
    let a = c.args in
    let e : 0 ≡ a.j = omega (arith, c.if-j-gt0.false) in
    ap (λ (k : ℕ). get_or (0 ∷ a.ends.now) k 0) e
