-- Laws that the loops ask for: the rounds that are left, and words as bytes.
use Rattle.std.proofs.Common.{◌≡◌, ℕ, zero, suc, ◌+◌, ◌-◌, ◌*◌, ◌<◌, ◌≤◌, List, [], ◌∷◌, ◌++◌, length, get_or, take, drop, sym, refl, ap, ap₂, ◌∙◌, append_assoc, append-nil, add-one, arith, take-suc}
use Rattle.chacha20_block.specs.Rounds.{columns, diagonals, double_rounds}
use Rattle.std.proofs.lemmas.Slice.{take-put_mid}
use Rattle.chacha20_block.specs.Words.{◌⊞◌}
use Rattle.chacha20_block.specs.Quarter.{quarter_round, quarter_at}
use Rattle.chacha20_block.specs.Block.{sums, bytes_of, serialized}

-- ---- sixteen words, one by one

listed : ℕ → (ℕ → ℕ) → List ℕ
listed zero f = []
listed (suc n) f = f 0 ∷ listed n (λ i. f (suc i))

listed_is : (w : List ℕ) → w ≡ listed (length w) (λ i. get_or w i 0)
unfolding listed
listed_is [] = refl
listed_is (x ∷ xs) = ap (λ (l : List ℕ). x ∷ l) (listed_is xs)

sixteen : (w : List ℕ) → length w ≡ 16 → w ≡ listed 16 (λ i. get_or w i 0)
sixteen w e = listed_is w ∙ ap (λ (n : ℕ). listed n (λ i. get_or w i 0)) e

pub double_round_is : (w c0 c1 c2 c3 d0 d1 d2 d3 : List ℕ) → length w ≡ 16
    → c0 ≡ quarter_round (get_or w 0 0) (get_or w 4 0) (get_or w 8 0) (get_or w 12 0)
    → c1 ≡ quarter_round (get_or w 1 0) (get_or w 5 0) (get_or w 9 0) (get_or w 13 0)
    → c2 ≡ quarter_round (get_or w 2 0) (get_or w 6 0) (get_or w 10 0) (get_or w 14 0)
    → c3 ≡ quarter_round (get_or w 3 0) (get_or w 7 0) (get_or w 11 0) (get_or w 15 0)
    → d0 ≡ quarter_round (get_or c0 0 0) (get_or c1 1 0) (get_or c2 2 0) (get_or c3 3 0)
    → d1 ≡ quarter_round (get_or c1 0 0) (get_or c2 1 0) (get_or c3 2 0) (get_or c0 3 0)
    → d2 ≡ quarter_round (get_or c2 0 0) (get_or c3 1 0) (get_or c0 2 0) (get_or c1 3 0)
    → d3 ≡ quarter_round (get_or c3 0 0) (get_or c0 1 0) (get_or c1 2 0) (get_or c2 3 0)
    → get_or d0 0 0 ∷ get_or d1 0 0 ∷ get_or d2 0 0 ∷ get_or d3 0 0 ∷ get_or d3 1 0 ∷ get_or d0 1 0 ∷ get_or d1 1 0 ∷ get_or d2 1 0 ∷
    get_or d2 2 0 ∷ get_or d3 2 0 ∷ get_or d0 2 0 ∷ get_or d1 2 0 ∷ get_or d1 3 0 ∷ get_or d2 3 0 ∷ get_or d3 3 0 ∷ get_or d0 3 0 ∷
    [] ≡ diagonals (columns w)
unfolding listed columns diagonals quarter_at
double_round_is w c0 c1 c2 c3 d0 d1 d2 d3 e f0 f1 f2 f3 g0 g1 g2 g3 =
    rw (g0, g1, g2, g3, f0, f1, f2, f3) (sym (ap (λ (l : List ℕ). diagonals (columns l)) (sixteen w e)))

pub sums_written : (x y r : List ℕ) → length x ≡ 16 → length y ≡ 16 → length r ≡ 16
    → get_or r 0 0 ≡ get_or x 0 0 ⊞ get_or y 0 0
    → get_or r 1 0 ≡ get_or x 1 0 ⊞ get_or y 1 0
    → get_or r 2 0 ≡ get_or x 2 0 ⊞ get_or y 2 0
    → get_or r 3 0 ≡ get_or x 3 0 ⊞ get_or y 3 0
    → get_or r 4 0 ≡ get_or x 4 0 ⊞ get_or y 4 0
    → get_or r 5 0 ≡ get_or x 5 0 ⊞ get_or y 5 0
    → get_or r 6 0 ≡ get_or x 6 0 ⊞ get_or y 6 0
    → get_or r 7 0 ≡ get_or x 7 0 ⊞ get_or y 7 0
    → get_or r 8 0 ≡ get_or x 8 0 ⊞ get_or y 8 0
    → get_or r 9 0 ≡ get_or x 9 0 ⊞ get_or y 9 0
    → get_or r 10 0 ≡ get_or x 10 0 ⊞ get_or y 10 0
    → get_or r 11 0 ≡ get_or x 11 0 ⊞ get_or y 11 0
    → get_or r 12 0 ≡ get_or x 12 0 ⊞ get_or y 12 0
    → get_or r 13 0 ≡ get_or x 13 0 ⊞ get_or y 13 0
    → get_or r 14 0 ≡ get_or x 14 0 ⊞ get_or y 14 0
    → get_or r 15 0 ≡ get_or x 15 0 ⊞ get_or y 15 0
    → r ≡ sums x y
unfolding listed sums
sums_written x y r e f g h0 h1 h2 h3 h4 h5 h6 h7 h8 h9 h10 h11 h12 h13 h14 h15 =
    sixteen r g ∙ rw (h0, h1, h2, h3, h4, h5, h6, h7, h8, h9, h10, h11, h12, h13, h14, h15) (sym (ap₂ (λ (a b : List ℕ). sums a b) (sixteen x e) (sixteen y f)))

-- ---- rounds

-- one more is left before a turn than after it
pub round_more : (i : ℕ) (s : List ℕ) → i < 10 → double_rounds (10 - i) s ≡ double_rounds (10 - (i + 1)) (diagonals (columns s))
unfolding double_rounds
round_more i s h =
    let e : 10 - i ≡ suc (10 - (i + 1)) = omega arith in
    ap (λ (n : ℕ). double_rounds n s) e

pub rounds_done : (i : ℕ) (s : List ℕ) → 10 ≤ i → double_rounds (10 - i) s ≡ s
unfolding double_rounds
rounds_done i s h =
    let e : 10 - i ≡ zero = omega arith in
    ap (λ (n : ℕ). double_rounds n s) e

-- ---- words as bytes

pub serialized_snoc : (xs : List ℕ) (x : ℕ) → serialized (xs ++ (x ∷ [])) ≡ serialized xs ++ bytes_of x
unfolding serialized
serialized_snoc [] x = append-nil (bytes_of x)
serialized_snoc (y ∷ ys) x =
    ap (λ (r : List ℕ). bytes_of y ++ r) (serialized_snoc ys x) ∙ sym (append_assoc (bytes_of y) (serialized ys) (bytes_of x))

pub four_bytes : (x : ℕ) → length (bytes_of x) ≡ 4
unfolding bytes_of
four_bytes x = refl

-- a turn of the loop that writes them: `out` holds the bytes of the first i words, and ys comes behind them, over k bytes
pub serialized_more : (w out ys : List ℕ) (i k : ℕ) → i < length w → 4 * i + 4 ≤ length out → ys ≡ bytes_of (get_or w i 0)
    → take (4 * i) out ≡ serialized (take i w)
    → take (4 * (i + 1)) (take (4 * i) out ++ (ys ++ drop k (drop (4 * i) out))) ≡ serialized (take (i + 1) w)
serialized_more w out ys i k h l y e =
    take-put_mid (4 * i) k out ys (4 * (i + 1)) (omega (arith, ap length y, four_bytes (get_or w i 0))) (omega arith)
    ∙ ap₂ (λ (a b : List ℕ). a ++ b) e y
    ∙ sym (serialized_snoc (take i w) (get_or w i 0))
    ∙ ap serialized (rw add-one (sym (take-suc w i 0 h)))
