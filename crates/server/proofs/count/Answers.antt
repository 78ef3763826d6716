-- The call's own contract.
use mathlib.Core.Path.{◌∙◌}
use Rattle.outcome.proofs.Rooms.{roomed}
use Rattle.server.proofs.count.Goals as goal

pub returns : goal.returns
returns c = record { result_value = c.of.ensures.result_value ∙ c.count.ensures.result_value; roomed = roomed _ _ _ c.of.ensures.value c.room_in-room.ensures.0 }
