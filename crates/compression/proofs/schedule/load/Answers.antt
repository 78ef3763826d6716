-- Word after word.
use Rattle.compression.proofs.Laws.{words_read}
use Rattle.std.proofs.Common.{rules}
use Rattle.compression.proofs.schedule.load.Goals as goal

pub returns : goal.returns
returns c =
    words_read c.args.at c.args.m.now c.from_fn.result c.from_fn.ensures.items.long
    (search rules) (search rules) (search rules) (search rules) (search rules) (search rules) (search rules) (search rules) (search rules)
    (search rules) (search rules) (search rules) (search rules) (search rules) (search rules) (search rules)
