-- By the sums.
use mathlib.Core.Path.{refl}
use borrow.Author.Tests.{lt-ltb, le-ltb}
use Rattle.choosing.specs.Choice.{better_of}
use Rattle.choosing.proofs.better.Goals as goal

pub returns-then-k-c : goal.returns-then-k-c
unfolding better_of
returns-then-k-c c = rw (lt-ltb c.args.k.sum c.args.c.counts.sum c.if-k-c.true) refl

pub returns : goal.returns
unfolding better_of
returns c = rw (le-ltb c.args.k.sum c.args.c.counts.sum c.if-k-c.false) refl
