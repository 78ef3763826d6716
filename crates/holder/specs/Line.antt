-- The line of a lock file: the number of the process that made it, a space, the name of its host and a line feed.
use Rattle.std.specs.Prelude.{ℕ, ◌-◌, Bool, false, cond, ◌&&◌, leb, Option, Some, None, List, ◌++◌, eqb, ltb, length, get_or, take}
use Rattle.std.specs.List.{list_all}
use Rattle.text.specs.Ascii.{ascii}
use Rattle.buffer.specs.Decimal.{counted}
use Rattle.words.specs.Decimal.{decimal_of}
use Rattle.words.specs.Line.{before, beyond}

abbrev pub line_of : ℕ → List ℕ → List ℕ
line_of process host = counted process (ascii " ") ++ (host ++ ascii "\n")

-- ---- such a line read again

-- a text up to the first b
abbrev pub up_to : ℕ → List ℕ → List ℕ
up_to b text = take (before b text) text

-- whether the last byte is a line feed, and what stands before it
abbrev pub is_ended : List ℕ → Bool
is_ended line = eqb (get_or line (length line - 1) 0) 10

abbrev pub body_of : List ℕ → List ℕ
body_of line = take (length line - 1) line

-- the host: what stands after the first space
abbrev pub host_of : List ℕ → List ℕ
host_of line = beyond 32 (body_of line)

-- whether a byte is a mark of ASCII that can be seen: 33 to 126
abbrev pub is_shown : ℕ → Bool
is_shown b = leb 33 b && leb b 126

abbrev pub all_shown : List ℕ → Bool
all_shown text = list_all is_shown text

-- whether a text can be a host's name: a byte or more, all of which can be seen
abbrev pub is_name : List ℕ → Bool
is_name text = cond (ltb (length text) 1) false (all_shown text)

-- a number above 0
abbrev pub positive_of : Option ℕ → Option ℕ
positive_of (Some n) = cond (ltb n 1) None (Some n)
positive_of None = None

-- the process: the decimal before the first space, where a name stands after it and then a line feed, the last byte
abbrev pub process_of : List ℕ → Option ℕ
process_of line =
    cond (is_ended line) (cond (is_name (host_of line)) (positive_of (decimal_of (up_to 32 (body_of line)))) None) None
