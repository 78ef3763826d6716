-- Two stores, one after the other.
use Prim.Native.Nat.{ℕ, ◌+◌, ◌*◌}
use mathlib.Core.Path.{ap}
use lib.ListN.{set}
use Rattle.chains.specs.Chains.{linked}
use Rattle.chains.proofs.link.Goals as goal

pub returns : goal.returns
unfolding linked
returns c =
    let a = c.args in ap (λ (h : ℕ). set (set a.index.now (4096 + a.n) (65536 * a.r + h)) a.b (a.n + 1)) c.wide-head.ensures
