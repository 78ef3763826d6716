-- The part's find token is a part of the slice.
use mathlib.Core.Path.{ap, ◌∙◌}
use mathlib.Core.List.{List}
use Prim.Native.Nat.{ℕ}
use Rattle.scheme.specs.Keys.{find_cl}
use Rattle.scheme.specs.Find.{share_reading}
use Rattle.suite.specs.Program.{program}
use Rattle.find.specs.Counts.{counts_of}
use Rattle.choosing.specs.Choice.{part_counts}
use Rattle.choosing.proofs.Laws.{find_token}
use Rattle.choosing.proofs.counts_of.Goals as goal

pub returns : goal.returns
unfolding part_counts
returns c =
    let a = c.args in
    c.counts_in.ensures ∙ ap (λ (t : List ℕ). counts_of (share_reading program a.store.now (find_cl t)) a.z.p) (find_token a.n a.i a.parts.now c.requires.1.1.0)
