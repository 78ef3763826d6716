-- The words left decide.
use Prim.Native.Nat.{◌+◌, ◌-◌}
use mathlib.Core.Path.{◌≡◌}
use Rattle.request.specs.Request.{first_bad}
use Rattle.request.proofs.ids.Given as goal

abbrev pub invariant-loop-at : goal.invariant-loop-at
invariant-loop-at l = first_bad (l.first + l.n - l.at) l.at l.line ≡ first_bad l.n l.first l.line
