-- `chacha20_block::block` meets its contract: the definition, call by call.
use Rattle.std.proofs.Common.{ℕ, List, ap, ◌∙◌}
use Rattle.chacha20_block.specs.Rounds.{words}
use Rattle.chacha20_block.specs.Block.{sums, block_words, serialized, block}
use Rattle.chacha20_block.proofs.block.Goals as goal

pub returns : goal.returns
unfolding block block_words
returns c =
    c.serialize.ensures
    ∙ ap serialized (c.added.ensures ∙ ap (λ (x : List ℕ). sums x (words c.args.s)) c.rounds.ensures)
