-- A block's words and the message schedule (FIPS 180-4, 5.2.1 and 6.2.2 step 1).
use Rattle.std.specs.Prelude.{ℕ, zero, suc, ◌+◌, ◌*◌, List, [], ◌∷◌, ◌++◌, slice_index, slice_index_or}
use Rattle.compression.specs.Words.{◌⊞◌, σ0, σ1}

-- word t of a block of bytes, big-endian
unfoldable pub word : List ℕ → ℕ → ℕ
word b t =
    ((slice_index b (4 * t) * 256 + slice_index b (4 * t + 1)) * 256 + slice_index b (4 * t + 2)) * 256 + slice_index b (4 * t + 3)

-- the first n words of a block
unfoldable pub first_words : ℕ → List ℕ → List ℕ
first_words zero b = []
first_words (suc n) b = first_words n b ++ (word b n ∷ [])

-- word n + 16 of the schedule, of the words before it
unfoldable pub next : ℕ → List ℕ → ℕ
next n w = σ1 (slice_index w (n + 14)) ⊞ slice_index_or w (n + 9) 0 ⊞ σ0 (slice_index w (n + 1)) ⊞ slice_index_or w n 0

-- the first n + 16 words of the schedule
unfoldable pub schedule : ℕ → List ℕ → List ℕ
schedule zero b = first_words 16 b
schedule (suc n) b = schedule n b ++ (next n (schedule n b) ∷ [])
