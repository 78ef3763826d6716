-- The command line as one list of bytes: its words, each with a 0 after it, which no word holds.
use Rattle.std.specs.Prelude.{ℕ, zero, suc, cond, List, [], ◌∷◌, eqb, take, drop}

-- how many bytes stand before the first b
unfoldable pub before : ℕ → List ℕ → ℕ
before b [] = 0
before b (x ∷ xs) = cond (eqb x b) 0 (suc (before b xs))

-- what stands after the first b
abbrev pub beyond : ℕ → List ℕ → List ℕ
beyond b text = drop (suc (before b text)) text

-- how long the first word is
abbrev pub word_length : List ℕ → ℕ
word_length line = before 0 line

-- the line after its first word
abbrev pub after_word : List ℕ → List ℕ
after_word line = beyond 0 line

-- the line from word i on, counted from 0
unfoldable pub from_word : ℕ → List ℕ → List ℕ
from_word zero line = line
from_word (suc i) line = from_word i (after_word line)

abbrev pub first_word : List ℕ → List ℕ
first_word line = take (word_length line) line

-- word i, empty where there are fewer
unfoldable pub word_at : ℕ → List ℕ → List ℕ
word_at i line = first_word (from_word i line)

-- how many words there are
unfoldable pub word_count : List ℕ → ℕ
word_count [] = 0
word_count (b ∷ bs) = cond (eqb b 0) (suc (word_count bs)) (word_count bs)
