-- One group or two, over the first bytes.
use Rattle.labels.proofs.Laws.{one_written, two_written}
use Rattle.labels.proofs.groups.Goals as goal

pub returns-then-n-lt128 : goal.returns-then-n-lt128
returns-then-n-lt128 c = one_written c.args.n c.args.to.now c.requires.1 c.if-n-lt128.true

pub returns : goal.returns
returns c = two_written c.args.n c.args.to.now c.requires.1 c.if-n-lt128.false c.requires.0
