-- The quarter round (RFC 8439, 2.1) on four words, and on the words of a state at four places (2.2).
-- Each line is one of the four lines of 2.1.
use Rattle.std.specs.Prelude.{ℕ, List, [], ◌∷◌, slice_index, slice_set}
use Rattle.chacha20_block.specs.Words.{◌⊞◌, ◌⊕◌, rotl}

unfoldable pub quarter_round : ℕ → ℕ → ℕ → ℕ → List ℕ
quarter_round a b c d =
    let a₁ = a ⊞ b in let d₁ = rotl (d ⊕ a₁) 16 in
    let c₁ = c ⊞ d₁ in let b₁ = rotl (b ⊕ c₁) 12 in
    let a₂ = a₁ ⊞ b₁ in let d₂ = rotl (d₁ ⊕ a₂) 8 in
    let c₂ = c₁ ⊞ d₂ in let b₂ = rotl (b₁ ⊕ c₂) 7 in
    a₂ ∷ b₂ ∷ c₂ ∷ d₂ ∷ []

-- four words put back at their places
abbrev pub put_four : List ℕ → ℕ → ℕ → ℕ → ℕ → List ℕ → List ℕ
put_four s x y z w q = slice_set (slice_set (slice_set (slice_set s x (slice_index q 0)) y (slice_index q 1)) z (slice_index q 2)) w (slice_index q 3)

-- QUARTERROUND(x, y, z, w)
unfoldable pub quarter_at : ℕ → ℕ → ℕ → ℕ → List ℕ → List ℕ
quarter_at x y z w s = put_four s x y z w (quarter_round (slice_index s x) (slice_index s y) (slice_index s z) (slice_index s w))
