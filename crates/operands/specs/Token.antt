-- The token of a command line: the word after `--token`, or what the file holds that the word names.
use Rattle.std.specs.Prelude.{ℕ, ◌*◌, ◌-◌, Bool, cond, List, [], eqb, length, get_or, take}
use Rattle.text.specs.Hex.{is_hex_of, unhex_of}
use Rattle.words.specs.Line.{word_at}

-- `@` and a file's name
abbrev pub names_file : List ℕ → Bool
names_file word = eqb (get_or word 0 0) 64

-- a text without the end of its line
abbrev pub trimmed : List ℕ → List ℕ
trimmed text = cond (eqb (get_or text (length text - 1) 0) 10) (take (length text - 1) text) text

-- the n bytes that a text stands for; none where it is not 2n digits, so that a call refuses it by its length
unfoldable pub token_of : ℕ → List ℕ → List ℕ
token_of n text = cond (is_hex_of (2 * n) text) (unhex_of text n) []

-- a lent slice after it was read to
unfoldable pub token_lent : List ℕ → List ℕ → List ℕ
token_lent text to = cond (is_hex_of (2 * length to) text) (unhex_of text (length to)) to

-- the text of a line's token, where its file holds these bytes
unfoldable pub token_text : List ℕ → List ℕ → List ℕ
token_text line held = cond (names_file (word_at 3 line)) (trimmed held) (word_at 3 line)
