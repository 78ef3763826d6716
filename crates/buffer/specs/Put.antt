-- A line is put together piece by piece: each text goes over what stands in the slice from a place on.
use Rattle.std.specs.Prelude.{ℕ, ◌+◌, ◌≤◌, ◌≡◌, List, length}
use Rattle.octets.specs.Part.{written}

-- the text stands over the bytes of `before` from `at` on, every other byte stays, and `end` is where the text ends
pub record Put (before : List ℕ) (at : ℕ) (text after : List ℕ) (end : ℕ) : Type 0 where
  pub ends : end ≡ at + length text
  pub holds : after ≡ written before at text
  pub room : end ≤ length before
