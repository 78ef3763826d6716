-- The part is lent.
use native.Mathlib.Omega.{arith}
use Rattle.consistency.proofs.repeated.Goals as goal

pub repeats-requires : goal.repeats-requires
repeats-requires c =
    let p = c.requires in
    ((p.1, p.0.within.long), p.0.searchable)

pub slice_bounds-repeats-start : goal.slice_bounds-repeats-start
slice_bounds-repeats-start c = omega (arith, c.requires.0.within.from)

pub slice_bounds-repeats-end : goal.slice_bounds-repeats-end
slice_bounds-repeats-end c = omega (arith, c.requires.0.within.to)

pub overflow_sub-part : goal.overflow_sub-part
overflow_sub-part c = omega (arith, c.requires.0.few)
