-- The 20 rounds (RFC 8439, 2.3): ten times the four column rounds and the four diagonal rounds.
-- A state is the list of its 16 words.
use Rattle.std.specs.Prelude.{ℕ, zero, suc, List}
use Rattle.chacha20_block.specs.declared.State.{State}
use Rattle.chacha20_block.specs.Quarter.{quarter_at}

-- the 16 words of the code's struct
abbrev pub words : State → List ℕ
words s = s.words

unfoldable pub columns : List ℕ → List ℕ
columns s = quarter_at 3 7 11 15 (quarter_at 2 6 10 14 (quarter_at 1 5 9 13 (quarter_at 0 4 8 12 s)))

unfoldable pub diagonals : List ℕ → List ℕ
diagonals s = quarter_at 3 4 9 14 (quarter_at 2 7 8 13 (quarter_at 1 6 11 12 (quarter_at 0 5 10 15 s)))

-- n double rounds
unfoldable pub double_rounds : ℕ → List ℕ → List ℕ
double_rounds zero s = s
double_rounds (suc n) s = double_rounds n (diagonals (columns s))
