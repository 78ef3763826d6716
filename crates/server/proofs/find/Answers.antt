-- The call's own contract.
use mathlib.Core.Path.{◌∙◌}
use Rattle.outcome.proofs.Rooms.{roomed}
use Rattle.server.proofs.find.Goals as goal

pub returns : goal.returns
returns c = record { result_value = c.of.ensures.result_value ∙ c.find.ensures.result_value; output_after = c.find.ensures.output_after; roomed = roomed _ _ _ c.of.ensures.value c.room_in-room.ensures.0 }
