-- The ids among the words of a command line.
use Rattle.std.specs.Prelude.{ℕ, zero, suc, ◌+◌, cond, List, [], ◌++◌, replicate}
use Rattle.text.specs.Hex.{is_id_of, unhex_of}
use Rattle.words.specs.Line.{word_at}

-- the id that a word stands for; zeros where it is none
abbrev pub id_of : List ℕ → List ℕ
id_of word = cond (is_id_of word) (unhex_of word 16) (replicate 16 0)

-- the ids of n words from a word on
unfoldable pub ids_of : ℕ → ℕ → List ℕ → List ℕ
ids_of first zero line = []
ids_of first (suc n) line = ids_of first n line ++ id_of (word_at (first + n) line)
