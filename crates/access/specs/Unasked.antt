-- What is known of a file that a command does not take.
use Rattle.std.specs.Prelude.{ℕ, ◌≡◌, Result, Ok}

-- no file was asked for, and none is wanting
abbrev pub Unasked : Result ℕ ℕ → Type 0
Unasked r = r ≡ Ok 0
