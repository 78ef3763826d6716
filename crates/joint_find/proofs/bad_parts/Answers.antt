-- By the length's remainder, then by the number of parts.
use Prim.Native.Nat.{◌/◌, ◌%◌}
use lib.ListN.{length}
use borrow.Author.Tests.{eq-eqb, ne_eqb, lt-ltb, le-ltb}
use Rattle.joint_find.specs.Kept.{parts_bad}
use Rattle.joint_find.proofs.bad_parts.Goals as goal

pub returns-then-n-ne0 : goal.returns-then-n-ne0
unfolding parts_bad
returns-then-n-ne0 c = let n = length c.args.parts.now in simp (ne_eqb (n % 128) 0 c.if-n-ne0.true)

pub returns-then-n-lt1 : goal.returns-then-n-lt1
unfolding parts_bad
returns-then-n-lt1 c = let n = length c.args.parts.now in simp (eq-eqb (n % 128) 0 c.if-n-ne0.false, lt-ltb (n / 128) 1 c.if-n-lt1.true)

pub returns : goal.returns
unfolding parts_bad
returns c = let n = length c.args.parts.now in simp (eq-eqb (n % 128) 0 c.if-n-ne0.false, le-ltb (n / 128) 1 c.if-n-lt1.false)
