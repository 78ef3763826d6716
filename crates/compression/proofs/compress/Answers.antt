-- The block at the place, if it stands there.
use Rattle.compression.proofs.Laws.{block_groups}
use Rattle.compression.specs.Compression.{words, added}
use Rattle.compression.specs.Constants.{K}
use Rattle.compression.specs.Groups.{groups}
use Rattle.std.proofs.Common.{ℕ, List, ap, ◌∙◌, arith}
use Rattle.compression.proofs.compress.Goals as goal

pub returns : goal.returns
returns c =
    let a = c.args in
    c.added.ensures
    ∙ ap (added (words a.s)) (c.rounds.ensures ∙ ap (λ (w : List ℕ). groups 4 0 K w (words a.s)) c.load.ensures)
    ∙ block_groups (words a.s) a.m.now a.at (omega arith)
