-- Word by word.
use Rattle.chacha20_block.proofs.Lists.{sums_written}
use Rattle.std.proofs.Common.{rules}
use Rattle.chacha20_block.proofs.added.Goals as goal

pub returns : goal.returns
returns c =
    sums_written c.args.s.words c.args.t.words c.from_fn.result (search rules) (search rules) c.from_fn.ensures.items.long
    (search rules) (search rules) (search rules) (search rules) (search rules) (search rules) (search rules) (search rules) (search rules) (search rules) (search rules) (search rules) (search rules) (search rules) (search rules) (search rules)
