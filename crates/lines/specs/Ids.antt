-- Ids and tokens, each on a line of its own.
use Rattle.std.specs.Prelude.{ℕ, zero, suc, ◌*◌, List, [], ◌++◌, length, take, drop}
use Rattle.text.specs.Ascii.{ascii}
use Rattle.text.specs.Hex.{hex_of}

-- two digits to a byte
abbrev pub hex_line : List ℕ → List ℕ
hex_line bytes = hex_of bytes (2 * length bytes) ++ ascii "\n"

-- the lines of the first n ids
unfoldable pub id_lines : ℕ → List ℕ → List ℕ
id_lines zero found = []
id_lines (suc n) found = id_lines n found ++ hex_line (take 16 (drop (16 * n) found))
