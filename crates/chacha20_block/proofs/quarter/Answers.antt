-- The rotations of std are the definition's.
use Rattle.chacha20_block.specs.Words.{rotl}
use Rattle.chacha20_block.specs.Quarter.{quarter_round}
use Rattle.chacha20_block.proofs.quarter.Goals as goal

pub returns : goal.returns
unfolding quarter_round rotl
returns c = rw (c.rotate_left-b2.ensures, c.rotate_left-d2.ensures, c.rotate_left-b1.ensures, c.rotate_left-d1.ensures)
