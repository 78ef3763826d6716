use Rattle.std.proofs.Common.{rules, ◌*◌, refl, ◌∙◌, arith}
use borrow.Rule.Slice.PartMut.{same_len_mid}
use Rattle.chacha20_block.specs.Rounds.{words}
use Rattle.chacha20_block.specs.Block.{bytes_of, serialized}
use Rattle.chacha20_block.proofs.Lists.{serialized_more}
use Rattle.chacha20_block.proofs.serialize.Goals as goal

pub loop-i-init : goal.loop-i-init
unfolding serialized
loop-i-init c = (refl, refl)

pub loop-i-preserved : goal.loop-i-preserved
unfolding bytes_of
loop-i-preserved c = (
  same_len_mid (4 * c.loop-i.i) _ c.loop-i.out c.copy_from_slice.new.self c.copy_from_slice.ensures.len ∙ c.loop-i.invariant.0,
  serialized_more (words c.args.s) c.loop-i.out c.copy_from_slice.new.self c.loop-i.i _ (search rules) (omega arith)
      (c.copy_from_slice.ensures.after ∙ c.to_le_bytes.ensures) c.loop-i.invariant.1,
)
