-- What is known of a store whose compaction nothing refuses (document 01, "Refusals from the input", "Refusals from the state").
use Rattle.std.specs.Prelude.{ℕ, ◌≡◌, ◌-◌, ◌/◌, ◌≤◌, List, length, Ok}
use Rattle.std.proofs.Math.Option.{none}
use Rattle.scheme.specs.Keys.{compaction_token_length}
use Rattle.scheme.specs.Compaction.{compact_verdict}
use Rattle.suite.specs.Program.{program}
use Rattle.store.specs.declared.Shape.{Shape}
use Rattle.store.specs.Check.{checked_of}

pub record Admitted (before nonces token : List ℕ) (z : Shape) : Type 0 where
  pub passes : compact_verdict program before nonces token ≡ none
  pub fits : checked_of before ≡ Ok z
  pub nonces_left : z.s.rows - z.s.free ≤ length nonces / 12
  pub token_bytes : length token ≡ compaction_token_length
