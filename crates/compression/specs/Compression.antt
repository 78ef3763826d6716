-- The compression of one block (FIPS 180-4, 6.2.2). A hash value is the list of its eight words, a to h or H0 to H7.
use Rattle.std.specs.Prelude.{ℕ, zero, suc, ◌+◌, cond, List, [], ◌∷◌, length, take, drop, nat_le, slice_index, slice_index_or}
use Rattle.compression.specs.declared.State.{State}
use Rattle.compression.specs.Words.{◌⊞◌, Ch, Maj, Σ0, Σ1}
use Rattle.compression.specs.Constants.{K}
use Rattle.compression.specs.Schedule.{schedule}

-- the eight words of the code's struct
abbrev pub words : State → List ℕ
words s = s.words

unfoldable pub T1 : ℕ → ℕ → List ℕ → ℕ
T1 k w s = slice_index_or s 7 0 ⊞ Σ1 (slice_index s 4) ⊞ Ch (slice_index s 4) (slice_index s 5) (slice_index s 6) ⊞ k ⊞ w

unfoldable pub T2 : List ℕ → ℕ
T2 s = Σ0 (slice_index s 0) ⊞ Maj (slice_index s 0) (slice_index s 1) (slice_index s 2)

-- one turn of step 3, with the constant k and the word w of the schedule
unfoldable pub step : ℕ → ℕ → List ℕ → List ℕ
step k w s =
    (T1 k w s ⊞ T2 s) ∷ slice_index s 0 ∷ slice_index s 1 ∷ slice_index s 2 ∷ (slice_index_or s 3 0 ⊞ T1 k w s) ∷ slice_index s 4 ∷ slice_index s 5 ∷ slice_index s 6 ∷ []

-- n turns from turn t on, by a table k and the schedule w
unfoldable pub steps : ℕ → ℕ → List ℕ → List ℕ → List ℕ → List ℕ
steps zero t k w s = s
steps (suc n) t k w s = steps n (t + 1) k w (step (slice_index k t) (slice_index w t) s)

-- step 4: the words are added one by one
unfoldable pub added : List ℕ → List ℕ → List ℕ
added s v =
    (slice_index_or s 0 0 ⊞ slice_index_or v 0 0) ∷ (slice_index_or s 1 0 ⊞ slice_index_or v 1 0) ∷ (slice_index_or s 2 0 ⊞ slice_index_or v 2 0) ∷ (slice_index_or s 3 0 ⊞ slice_index_or v 3 0) ∷
    (slice_index_or s 4 0 ⊞ slice_index_or v 4 0) ∷ (slice_index_or s 5 0 ⊞ slice_index_or v 5 0) ∷ (slice_index_or s 6 0 ⊞ slice_index_or v 6 0) ∷ (slice_index_or s 7 0 ⊞ slice_index_or v 7 0) ∷ []

-- the hash value after the block b
unfoldable pub compress : List ℕ → List ℕ → List ℕ
compress s b = added s (steps 64 0 K (schedule 48 b) s)

-- the hash value after the block of 64 bytes at a place of m; where no 64 bytes stand there it stays [02:W5.3]
unfoldable pub compress_at : List ℕ → List ℕ → ℕ → List ℕ
compress_at s m at = cond (nat_le (at + 64) (length m)) (compress s (take 64 (drop at m))) s
