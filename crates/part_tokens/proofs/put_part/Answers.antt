-- By whether it is one of the first 8.
use Prim.Native.Nat.{◌*◌}
use mathlib.Core.Path.{sym, ap, ◌∙◌}
use mathlib.Core.Bool.{Bool, cond}
use borrow.Author.Tests.{lt-ltb, le-ltb}
use native.Mathlib.Omega.{arith}
use Rattle.octets.specs.Part.{written}
use Rattle.part_tokens.specs.Parts.{placed}
use Rattle.part_tokens.proofs.put_part.Goals as goal

pub copy_at-requires : goal.copy_at-requires
copy_at-requires c =
    omega (arith, c.copy_at-arg-then-i-lt8-1.given, c.if-i-lt8.true, c.requires)

pub returns-then-i-lt8 : goal.returns-then-i-lt8
unfolding placed
returns-then-i-lt8 c =
    let a = c.args in
    c.copy_at.ensures ∙ sym (ap (λ (b : Bool). cond b (written a.to.now (128 * a.i) a.part.now) a.to.now) (lt-ltb a.i 8 c.if-i-lt8.true))

pub returns-else-i-lt8 : goal.returns-else-i-lt8
unfolding placed
returns-else-i-lt8 c =
    let a = c.args in
    sym (ap (λ (b : Bool). cond b (written a.to.now (128 * a.i) a.part.now) a.to.now) (le-ltb a.i 8 c.if-i-lt8.false))
