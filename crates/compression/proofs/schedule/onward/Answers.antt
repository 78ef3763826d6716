-- Four words, four times.
use Rattle.compression.proofs.Laws.{by_fours}
use Rattle.compression.specs.Groups.{slides}
use Rattle.std.proofs.Common.{ap, ◌∙◌}
use Rattle.compression.proofs.schedule.onward.Goals as goal

pub returns : goal.returns
returns c =
    c.four_on-4.ensures ∙ ap (slides 4) (c.four_on-3.ensures ∙ ap (slides 4) (c.four_on-2.ensures ∙ ap (slides 4) c.four_on.ensures))
    ∙ by_fours c.args.w
