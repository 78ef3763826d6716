use Rattle.compression.specs.Constants.{K}
use Rattle.compression.specs.Compression.{words}
use Rattle.compression.specs.Groups.{due, groups}
use Rattle.compression.proofs.Laws.{group_more, group_none}
use Rattle.std.proofs.Common.{ℕ, ◌+◌, ◌-◌, ◌*◌, List, sym, ap, ◌∙◌, arith}
use Rattle.compression.proofs.rounds.Goals as goal

pub loop-i-preserved : goal.loop-i-preserved
unfolding K
loop-i-preserved c =
    let l = c.loop-i in
    let w = c.due-here.result in
    ap (groups (4 - (l.i + 1)) (16 * (l.i + 1)) K (due (16 * (l.i + 1)) w)) c.turns-v.ensures
    ∙ sym (group_more l.i K w (words l.v) (omega arith))
    ∙ ap (λ (x : List ℕ). groups (4 - l.i) (16 * l.i) K x (words l.v)) c.due-here.ensures ∙ l.invariant

pub returns : goal.returns
unfolding K
returns c =
    let l = c.loop-i in
    sym (group_none l.i (16 * l.i) K (due (16 * l.i) l.w) (words l.v) (omega arith)) ∙ l.invariant
