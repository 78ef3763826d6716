-- The part lent is as long as was asked for.
use Prim.Native.Nat.{ℕ}
use mathlib.Core.Path.{ap}
use mathlib.Core.List.{List, ◌++◌}
use native.Mathlib.Omega.{arith}
use lib.ListN.{drop}
use Rattle.scheme.specs.Store.{Sizes}
use Rattle.scenario.proofs.Given.{made_in, none_made}
use Rattle.scenario.proofs.make_in.Goals as goal
use Rattle.scenario.proofs.make_in.Goals.{After-read_number-r}

-- the sizes that were read
abbrev sizes : After-read_number-r → Sizes
sizes c = record { p = c.read_number-p.result; m = c.read_number-m.result; c = c.read_number-c.result; s = c.read_number-s.result; r = c.read_number-r.result }

pub returns-then-room-n : goal.returns-then-room-n
returns-then-room-n c = (omega arith, none_made _ (sizes (goal.at.returns-then-room-n c).After-read_number-r) _ c.if-room-n.true)

pub returns : goal.returns
returns c =
    let b = c.args.room.now in
    (omega (arith, c.if-room-n.false), made_in b (sizes (goal.at.returns c).After-read_number-r) c.read_number-n.result _ c.if-room-n.false (ap (λ (l : List ℕ). l ++ drop c.read_number-n.result b) c.make.ensures))
