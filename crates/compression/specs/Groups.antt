-- The 64 turns of a compression in four groups of sixteen: the words that a group takes are made of those of the group before.
use Rattle.std.specs.Prelude.{ℕ, zero, suc, ◌+◌, List, [], ◌∷◌, ◌++◌, drop, slice_index}
use Rattle.compression.specs.Schedule.{next}
use Rattle.compression.specs.Compression.{step}

-- sixteen words of a schedule without the first of them, and the word that follows
unfoldable pub slide : List ℕ → List ℕ
slide w = drop 1 w ++ (next 0 w ∷ [])

-- the sixteen words of a schedule that begin n words after those of w
unfoldable pub slides : ℕ → List ℕ → List ℕ
slides zero w = w
slides (suc n) w = slides n (slide w)

-- the words of the group at turn t: at turn 0 the block's own, later those that follow w, the words of the group before
unfoldable pub due : ℕ → List ℕ → List ℕ
due zero w = w
due (suc t) w = slides 16 w

-- turns from turn t on, by a table k, one for each word
unfoldable pub turns : ℕ → List ℕ → List ℕ → List ℕ → List ℕ
turns t k [] s = s
turns t k (w ∷ ws) s = turns (t + 1) k ws (step (slice_index k t) w s)

-- n groups from turn t on, by a table k; w are the words of the first
unfoldable pub groups : ℕ → ℕ → List ℕ → List ℕ → List ℕ → List ℕ
groups zero t k w s = s
groups (suc n) t k w s = groups n (t + 16) k (slides 16 w) (turns t k w s)
