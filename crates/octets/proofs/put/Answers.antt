use Rattle.octets.proofs.Numbers.{put_done}
use Rattle.octets.proofs.put.Goals as goal

pub returns : goal.returns
returns c = put_done _ _ _ _ c.loop-i-test.false c.loop-i.invariant
