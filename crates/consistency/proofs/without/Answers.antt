-- Both parts are lent.
use native.Mathlib.Omega.{arith}
use Rattle.consistency.proofs.without.Goals as goal

pub lacking_ids-requires : goal.lacking_ids-requires
lacking_ids-requires c =
    let p = c.requires in record { le_w = ((p.0.1, p.0.0.within.long), p.0.0.searchable); le_width = ((p.1.1, p.1.0.within.long), p.1.0.searchable) }

pub slice_bounds-lacking_ids-start : goal.slice_bounds-lacking_ids-start
slice_bounds-lacking_ids-start c = omega (arith, c.requires.0.0.within.from)

pub slice_bounds-lacking_ids-end : goal.slice_bounds-lacking_ids-end
slice_bounds-lacking_ids-end c = omega (arith, c.requires.0.0.within.to)

pub overflow_sub-x : goal.overflow_sub-x
overflow_sub-x c = omega (arith, c.requires.0.0.few)

pub slice_bounds-lacking_ids-start-2 : goal.slice_bounds-lacking_ids-start-2
slice_bounds-lacking_ids-start-2 c = omega (arith, c.requires.1.0.within.from)

pub slice_bounds-lacking_ids-end-2 : goal.slice_bounds-lacking_ids-end-2
slice_bounds-lacking_ids-end-2 c = omega (arith, c.requires.1.0.within.to)

pub overflow_sub-y : goal.overflow_sub-y
overflow_sub-y c = omega (arith, c.requires.1.0.few)
