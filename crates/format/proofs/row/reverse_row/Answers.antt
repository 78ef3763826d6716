-- The mark, then the id and the tag.
use native.Mathlib.Omega.{arith}
use Rattle.octets.proofs.Parts.{marked_two}
use Rattle.format.proofs.row.reverse_row.Goals as goal

pub returns : goal.returns
returns c =
    marked_two 1 _ c.args.id.now c.args.tag.now _ _ 16 c.requires.0 (omega arith) c.copy_at.ensures c.copy_at-2.ensures
