-- The call's own contract.
use mathlib.Core.Path.{◌∙◌}
use Rattle.outcome.proofs.Rooms.{roomed}
use Rattle.server.proofs.compact.Goals as goal

pub returns : goal.returns
returns c = record { result_value = c.of_compaction.ensures.result_value ∙ c.compact.ensures.result_value; store_after = c.compact.ensures.store_after; roomed = roomed _ _ _ c.of_compaction.ensures.value c.room_in-room.ensures.0 }
