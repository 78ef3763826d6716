-- Both are parts of the part's find token.
use Prim.Native.Nat.{◌+◌, ◌*◌, ◌≤◌}
use mathlib.Core.Path.{subst}
use native.Mathlib.Omega.{arith}
use lib.ListN.{length}
use Rattle.format.specs.Tags.{Prepared}
use Rattle.joint_find.proofs.Laws.{find_mt_lem, find_me_lem}
use Rattle.joint_find.proofs.keys_of.Goals as goal
use Rattle.joint_find.proofs.keys_of.Goals.{Start}

inside : (s : Start) → 128 * s.args.i + 64 ≤ length s.args.parts.now
inside s = omega (arith, s.requires.0, s.requires.1.0)

pub returns : goal.returns
returns c =
    let p = c in
    let s = p in
    let a = s.args in (
      subst (Prepared p.prepare-mt.result) (find_mt_lem a.n a.i a.parts.now s.requires.1.0) (record { inner = p.prepare-mt.ensures.0; outer = p.prepare-mt.ensures.1 }),
      subst (Prepared c.prepare-me.result) (find_me_lem a.n a.i a.parts.now s.requires.1.0) (record { inner = c.prepare-me.ensures.0; outer = c.prepare-me.ensures.1 }),
    )

pub overflow_mul-a : goal.overflow_mul-a
overflow_mul-a c = omega (arith, inside (goal.at.overflow_mul-a c).Start)

pub overflow_add-e : goal.overflow_add-e
overflow_add-e c = omega (arith, inside (goal.at.overflow_add-e c).Start)

pub overflow_add-f : goal.overflow_add-f
overflow_add-f c = omega (arith, inside (goal.at.overflow_add-f c).Start)

pub slice_bounds-prepare-end : goal.slice_bounds-prepare-end
slice_bounds-prepare-end c = omega (arith, inside (goal.at.slice_bounds-prepare-end c).Start)

pub slice_bounds-prepare-end-2 : goal.slice_bounds-prepare-end-2
slice_bounds-prepare-end-2 c = omega (arith, inside (goal.at.slice_bounds-prepare-end-2 c).Start)
