use Rattle.sha256.proofs.Laws.{block_more}
use Rattle.compression.specs.Compression.{words}
use Rattle.std.specs.Slice.Iter.{chunks_exact_rest}
use Rattle.std.proofs.Common.{sym, ◌∙◌}
use Rattle.sha256.proofs.blocks.Goals as goal

pub loop-block-preserved : goal.loop-block-preserved
loop-block-preserved c =
    let i = c.loop-block.invariant in
    let h = c.in-Some.ensures.steps in (
      h.0 ∙ i.0,
      sym (block_more (words c.loop-block.v) (words c.compress-v.result) c.in-Some.block.now (chunks_exact_rest c.next.new.self) _ h.1.0 (h.1.1 ∙ i.0) c.compress-v.ensures)
          ∙ i.1,
    )
