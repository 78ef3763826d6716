-- The rows that start with the key stand together from the first that is not before it.
use mathlib.Core.Path.{◌≡◌}
use lib.ListN.{length, take}
use Rattle.octets.specs.Compare.{same}
use Rattle.table.specs.Table.{rows}
use Rattle.table.specs.Search.{first_not_before}
use Rattle.closing.proofs.Flagging.{Flagging}
use Rattle.closing.proofs.flag.Given as goal

abbrev pub invariant-loop-i : goal.invariant-loop-i
invariant-loop-i l = (l.from ≡ first_not_before l.key (rows l.w l.n l.t)) × Flagging (λ b. same (take (length l.key) b) l.key) (rows l.w l.n l.t) l.initial.flags l.from l.i l.flags
