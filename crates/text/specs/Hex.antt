-- Bytes as hexadecimal text, two digits to a byte, the high one first; digits are read in either case.
use Rattle.std.specs.Prelude.{ℕ, ◌+◌, ◌*◌, ◌-◌, ◌/◌, ◌%◌, Bool, false, cond, List, Option, Some, None, is_some, unwrap_or, ltb, eqb, length, get_or}
use Rattle.std.specs.List.{list_all}
use Rattle.text.specs.Tabulate.{tabulate}

-- the value of a digit, if it is one
abbrev pub nibble_of : ℕ → Option ℕ
nibble_of b =
    cond (ltb b 48) None
    (cond (ltb b 58) (Some (b - 48)) (cond (ltb b 65) None (cond (ltb b 71) (Some (b - 55)) (cond (ltb b 97) None (cond (ltb b 103) (Some (b - 87)) None)))))

abbrev pub is_digit : ℕ → Bool
is_digit b = is_some (nibble_of b)

-- whether every byte is a digit
abbrev pub all_hex : List ℕ → Bool
all_hex word = list_all is_digit word

-- whether a word is so many digits
abbrev pub is_hex_of : ℕ → List ℕ → Bool
is_hex_of n word = cond (eqb (length word) n) (all_hex word) false

-- whether a word is an id's text
abbrev pub is_id_of : List ℕ → Bool
is_id_of word = is_hex_of 32 word

-- the byte of two digits; what is no digit counts as 0
abbrev pub pair_of : ℕ → ℕ → ℕ
pair_of a b = unwrap_or (nibble_of a) 0 * 16 + unwrap_or (nibble_of b) 0

abbrev pub pair_at : List ℕ → ℕ → ℕ
pair_at word i = pair_of (get_or word (2 * i) 0) (get_or word (2 * i + 1) 0)

-- the first n bytes that a word stands for
abbrev pub unhex_of : List ℕ → ℕ → List ℕ
unhex_of word n = tabulate (pair_at word) n

-- the digit of a value below 16
abbrev pub glyph : ℕ → ℕ
glyph d = cond (ltb d 10) (48 + d) (87 + d)

abbrev pub digit_at : List ℕ → ℕ → ℕ
digit_at bytes j = cond (eqb (j % 2) 0) (glyph (get_or bytes (j / 2) 0 / 16)) (glyph (get_or bytes (j / 2) 0 % 16))

-- the first n digits of the bytes' text
abbrev pub hex_of : List ℕ → ℕ → List ℕ
hex_of bytes n = tabulate (digit_at bytes) n
