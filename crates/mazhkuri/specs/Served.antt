-- What the program knows of a run: that of crates/tool, on bytes that the system gave.
use Rattle.std.specs.Prelude.{ℕ, ◌≤◌, ◌≡◌, true, List, length, Option, IfSome}
use Rattle.request.specs.Request.{request_of}
use Rattle.demand.specs.Needs.{changes}
use Rattle.report.specs.Run.{Ends}
use Rattle.report.specs.declared.Ran.{Ran}

-- a run that changed the store, of which the caller is told nothing, since the new bytes could not be kept
pub record Unkept (line before key random out err after out_after err_after : List ℕ) : Type 0 where
  pub ran : Ran
  pub ends : Ends (request_of line) line before key random out err ran after out_after err_after
  pub changed : changes (request_of line) ran.outcome ≡ true

-- a run on what files and the source of randomness gave: nothing tells which bytes these are, so they stand as fields
pub record ServedBy (line out err : List ℕ) (r : Ran) (out_after err_after : List ℕ) : Type 0 where
  pub before : List ℕ
  pub key : List ℕ
  pub random : List ℕ
  pub after : List ℕ
  pub ends : Ends (request_of line) line before key random out err r after out_after err_after

-- where the system did what was asked of it
abbrev pub ServedIf : List ℕ → List ℕ → List ℕ → Option Ran → List ℕ → List ℕ → Type 0
ServedIf line out err r out_after err_after = IfSome r (λ ran. ServedBy line out err ran out_after err_after)

-- what is to be printed stands in the slices
abbrev pub Printable : Option Ran → List ℕ → List ℕ → Type 0
Printable r out err = IfSome r (λ ran. (ran.out ≤ length out) × (ran.err ≤ length err))
