-- The parts that were filled are lent on.
use native.Mathlib.Omega.{arith}
use Rattle.std.proofs.lemmas.Option.{IfSome_then}
use Rattle.mazhkuri.proofs.Laws.{blank_length, front_length, filled_room, filled_length}
use Rattle.mazhkuri.proofs.on_store.Goals as goal

pub slice_bounds-randomize-end : goal.slice_bounds-randomize-end
slice_bounds-randomize-end c =
    front_length c.random_for-m.result c.random_space-random.result (omega (arith, c.random_for-m.ensures.1, blank_length 49152 _ c.random_space-random.ensures))

pub slice_bounds-random-end-2 : goal.slice_bounds-random-end-2
slice_bounds-random-end-2 c =
    filled_room c.random_for-m.result c.random_space-random.result (omega (arith, c.random_for-m.ensures.1, blank_length 49152 _ c.random_space-random.ensures)) c.randomize.new.to c.randomize.auto.to

pub slice_bounds-apply-end-3 : goal.slice_bounds-apply-end-3
slice_bounds-apply-end-3 c =
    filled_length c.random_for-m.result c.random_space-random.result (omega (arith, c.random_for-m.ensures.1, blank_length 49152 _ c.random_space-random.ensures)) c.randomize.new.to c.randomize.auto.to

pub returns : goal.returns
returns c = IfSome_then c.apply.result c.apply.ensures.ends (λ ran e. record { before = _; key = _; random = _; after = _; ends = e })
