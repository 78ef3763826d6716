-- The room's length is that of its literal.
use Rattle.scenario.proofs.Lists.{zeros_length}
use Rattle.scenario.proofs.main.Goals as goal

pub slice_bounds-run-end : goal.slice_bounds-run-end
slice_bounds-run-end c = zeros_length 1134618 c.blank-room.result c.blank-room.ensures
