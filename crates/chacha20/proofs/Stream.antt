-- Laws of the stream: a block has 64 bytes, and the text of a stream is its first block's, then that of the rest.
use Prim.Native.Nat.{ℕ, zero, suc, ◌+◌, ◌-◌, ◌*◌, ◌/◌, ◌≤◌, ◌<◌, min}
use mathlib.Core.Path.{◌≡◌, refl, sym, ap, ◌∙◌, subst}
use mathlib.Core.Logic.{⊎_elim}
use mathlib.Core.List.{List, [], ◌∷◌, ◌++◌, append-nil}
use native.Mathlib.Omega.{arith}
use native.Mathlib.Nat.{suc-ne-zero, suc_inj, le_refl, eq-or-lt_of_le, min-le_left}
use lib.ListN.{length, get_or, set, take, drop, length-append, length-set, length-drop, drop_of_length-le}
use lib.Seq.{take_all, length-take-le}
use Rattle.chacha20_block.specs.Words.{◌⊞◌}
use Rattle.chacha20_block.specs.Quarter.{quarter_at}
use Rattle.chacha20_block.specs.Rounds.{columns, diagonals, double_rounds}
use Rattle.chacha20_block.specs.Block.{initial_state, sums, block_words, bytes_of, serialized, block}
use Rattle.chacha20.specs.Cipher.{stream, xored, blocks_for, E}
use Rattle.chacha20.specs.Laws.{xored-length}
use Rattle.chacha20_block.proofs.Lists.{four_bytes}
use Rattle.chacha20.proofs.Lists.{xored-append, part_done}

-- ---- a block has 64 bytes

length_quarter : (x y z w : ℕ) (s : List ℕ) → length (quarter_at x y z w s) ≡ length s
unfolding quarter_at
length_quarter x y z w s = simp length-set

length_rounds : (n : ℕ) (s : List ℕ) → length (double_rounds n s) ≡ length s
unfolding double_rounds columns diagonals
length_rounds zero s = refl
length_rounds (suc n) s = length_rounds n (diagonals (columns s)) ∙ simp length_quarter

length-sums : (xs ys : List ℕ) → length xs ≡ length ys → length (sums xs ys) ≡ length xs
unfolding sums
length-sums [] ys e = refl
length-sums (x ∷ xs) [] e = absurd (suc-ne-zero (length xs) e)
length-sums (x ∷ xs) (y ∷ ys) e = ap suc (length-sums xs ys (suc_inj e))

length-serialized : (xs : List ℕ) → length (serialized xs) ≡ 4 * length xs
unfolding serialized
length-serialized [] = refl
length-serialized (x ∷ xs) = length-append (bytes_of x) (serialized xs) ∙ rw (four_bytes x, length-serialized xs) (omega arith)

pub length-block : (s : List ℕ) → length s ≡ 16 → length (block s) ≡ 64
unfolding block block_words
length-block s e =
    length-serialized (sums (double_rounds 10 s) s)
    ∙ ap (λ (n : ℕ). 4 * n) (length-sums (double_rounds 10 s) s (length_rounds 10 s) ∙ length_rounds 10 s ∙ e)

length_initial : (key : List ℕ) (counter : ℕ) (nonce : List ℕ) → length (initial_state key counter nonce) ≡ 16
unfolding initial_state
length_initial key counter nonce = refl

-- ---- the state of the next block

module _ (key nonce w v : List ℕ) (e : w ≡ initial_state key (get_or w 12 0) nonce) (f : v ≡ set w 12 (get_or w 12 0 ⊞ 1)) where
  next_is : v ≡ initial_state key (get_or w 12 0 ⊞ 1) nonce
  unfolding initial_state
  next_is = f ∙ ap (λ (l : List ℕ). set l 12 (get_or w 12 0 ⊞ 1)) e

  pub next_counter : get_or v 12 0 ≡ get_or w 12 0 ⊞ 1
  unfolding initial_state
  next_counter = ap (λ (l : List ℕ). get_or l 12 0) next_is

  pub next_initial : v ≡ initial_state key (get_or v 12 0) nonce
  next_initial = next_is ∙ ap (λ (c : ℕ). initial_state key c nonce) (sym next_counter)

-- ---- the next bytes of a text: a whole block of it, or all that is left

-- a length, as either case has it
by_length : (P : ℕ → Type 0) (l : ℕ) → (l ≤ 64 → P l) → (64 ≤ l → P 64) → P (min l 64)
by_length P l f g =
    ⊎_elim (λ e. subst P (sym e) (f (omega arith))) (λ h. let e : 64 ≡ min l 64 = omega arith in subst P e (g (omega arith)))
    (eq-or-lt_of_le (min-le_left l 64))

module _ (u : List ℕ) where
  abbrev n : ℕ
  n = min (length u) 64

  first_bytes : take n u ≡ take 64 u
  first_bytes =
      by_length (λ (k : ℕ). take k u ≡ take 64 u) (length u) (λ h. take_all (length u) u (le_refl (length u)) ∙ sym (take_all 64 u h)) (λ h. refl)

  last_bytes : drop n u ≡ drop 64 u
  last_bytes =
      by_length (λ (k : ℕ). drop k u ≡ drop 64 u) (length u)
      (λ h. drop_of_length-le u (le_refl (length u)) ∙ sym (drop_of_length-le u h)) (λ h. refl)

  one_more : 0 < length u → blocks_for (length u) ≡ suc (blocks_for (length u - n))
  unfolding blocks_for
  one_more h =
      by_length (λ (k : ℕ). (length u + 63) / 64 ≡ suc ((length u - k + 63) / 64)) (length u) (λ l. omega arith) (λ l. omega arith)

  -- the stream's first block goes on the next bytes, the rest of the stream on the rest of the text
  pub block_by_block : (key : List ℕ) (counter : ℕ) (nonce : List ℕ) → 0 < length u
      → xored u (stream (blocks_for (length u)) key counter nonce)
      ≡ xored (take n u) (block (initial_state key counter nonce))
      ++ xored (drop n u) (stream (blocks_for (length u - n)) key (counter ⊞ 1) nonce)
  unfolding stream
  block_by_block key counter nonce h =
      let first : List ℕ = block (initial_state key counter nonce) in
      let rest : List ℕ = stream (blocks_for (length u - n)) key (counter ⊞ 1) nonce in
      ap (λ (m : ℕ). xored u (stream m key counter nonce)) (one_more h)
      ∙ xored-append u first rest
      ∙ rw (length-block (initial_state key counter nonce) (length_initial key counter nonce), first_bytes, last_bytes)

-- a turn of the loop over a text of `size` bytes: the part from `at` to `e` came back
pub text_turn : (key nonce text ys : List ℕ) (counter at e size : ℕ) → length text ≡ size → at < size → e ≡ at + min (size - at) 64
    → ys ≡ xored (take (e - at) (drop at text)) (block (initial_state key counter nonce))
    → (let t = take at text ++ (ys ++ drop (e - at) (drop at text)) in
    take e t ++ xored (drop e t) (stream (blocks_for (size - e)) key (counter ⊞ 1) nonce))
    ≡ take at text ++ xored (drop at text) (stream (blocks_for (size - at)) key counter nonce)
text_turn key nonce text ys counter at e size s h q y =
    let u : List ℕ = drop at text in
    let l : length u ≡ size - at = length-drop at text ∙ ap (λ (k : ℕ). k - at) s in
    let m : e - at ≡ min (length u) 64 = omega arith in
    let r : size - e ≡ length u - min (length u) 64 = omega arith in
    part_done text ys (stream (blocks_for (size - e)) key (counter ⊞ 1) nonce) at e (omega arith) (omega arith)
    (ap length y ∙ xored-length (take (e - at) u) (block (initial_state key counter nonce)) ∙ length-take-le (e - at) u (omega arith))
    ∙ ap (λ (z : List ℕ). take at text ++ z) (rw (y, m, r, ← l) (sym (block_by_block u key counter nonce (omega arith))))

-- a text of one block
pub one_block : (key nonce text : List ℕ) → length text ≤ 64 → E key nonce text ≡ xored text (block (initial_state key 1 nonce))
unfolding E xored
one_block key nonce [] h = refl
one_block key nonce (x ∷ xs) h =
    let u : List ℕ = x ∷ xs in
    block_by_block u key 1 nonce (omega arith)
    ∙ rw (first_bytes u, last_bytes u, take_all 64 u h, drop_of_length-le u h) (append-nil (xored u (block (initial_state key 1 nonce))))
