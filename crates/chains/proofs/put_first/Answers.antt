-- Written where it is one of the first.
use Prim.Native.Nat.{◌*◌}
use mathlib.Core.Path.{sym, ap, ◌∙◌}
use mathlib.Core.Bool.{Bool, cond}
use borrow.Author.Tests.{lt-ltb, le-ltb}
use Rattle.octets.specs.Part.{written}
use Rattle.chains.specs.Chains.{first_ids}
use Rattle.chains.proofs.put_first.Goals as goal

pub returns-then-n-lt-FIRST : goal.returns-then-n-lt-FIRST
unfolding first_ids
returns-then-n-lt-FIRST c =
    let a = c.args in
    c.copy_at.ensures ∙ sym (ap (λ (b : Bool). cond b (written a.ids.now (16 * a.n) a.x.now) a.ids.now) (lt-ltb a.n 4096 c.if-n-lt-FIRST.true))

pub returns-else-n-lt-FIRST : goal.returns-else-n-lt-FIRST
unfolding first_ids
returns-else-n-lt-FIRST c =
    let a = c.args in
    sym (ap (λ (b : Bool). cond b (written a.ids.now (16 * a.n) a.x.now) a.ids.now) (le-ltb a.n 4096 c.if-n-lt-FIRST.false))
