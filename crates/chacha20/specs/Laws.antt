-- What holds of the cipher: it keeps the length, it undoes itself, and bytes stay bytes. [01:KF3]
-- That it undoes itself needs no bound on the text: XOR with one number twice is nothing, digit by digit.
use Rattle.std.specs.Prelude.{ℕ, zero, suc, ◌+◌, ◌/◌, ◌%◌, ◌^◌, ◌<◌, ◌≡◌, refl, List, [], ◌∷◌, ◌++◌, length, get_or}
use Rattle.std.proofs.Common.{ap, ◌∙◌, arith}
use Rattle.std.proofs.Math.Arith.{bin_ind}
use Rattle.std.specs.Int.Bits.{bit_xor, xor_self}
use Rattle.std.proofs.lemmas.Nat.{xor_shr, xor_mod, xor_lt}
use Rattle.chacha20_block.specs.Block.{initial_state, block_words, bytes_of, serialized, block}
use Rattle.chacha20.specs.Cipher.{stream, xored, blocks_for, E}

-- ---- XOR with one number twice

digit : (x y : ℕ) → x < 2 → y < 2 → bit_xor (bit_xor x y) y ≡ x
digit zero y h k = xor_self y
digit (suc zero) zero h k = refl
digit (suc zero) (suc zero) h k = refl
digit (suc zero) (suc (suc y)) h k = absurd (omega arith)
digit (suc (suc x)) y h k = absurd (omega arith)

pub xor_cancel : (a b : ℕ) → bit_xor (bit_xor a b) b ≡ a
xor_cancel = bin_ind (λ (n : ℕ). (b : ℕ) → bit_xor (bit_xor n b) b ≡ n) xor_self step
  where
    step : (n : ℕ) → ((b : ℕ) → bit_xor (bit_xor (n / 2) b) b ≡ n / 2) → (b : ℕ) → bit_xor (bit_xor n b) b ≡ n
    step n ih b =
        let high : bit_xor (bit_xor n b) b / 2 ≡ n / 2 =
        xor_shr (bit_xor n b) b 1 ∙ ap (λ (x : ℕ). bit_xor x (b / 2)) (xor_shr n b 1) ∙ ih (b / 2) in
        let low : bit_xor (bit_xor n b) b % 2 ≡ n % 2 =
        xor_mod (bit_xor n b) b 1 ∙ ap (λ (x : ℕ). bit_xor x (b % 2)) (xor_mod n b 1) ∙ digit (n % 2) (b % 2) (omega arith) (omega arith) in
        omega arith

-- ---- the length, and the way back

pub xored-length : (t s : List ℕ) → length (xored t s) ≡ length t
unfolding xored
xored-length [] s = refl
xored-length (t ∷ ts) [] = refl
xored-length (t ∷ ts) (k ∷ ks) = ap suc (xored-length ts ks)

pub xored_twice : (t s : List ℕ) → xored (xored t s) s ≡ t
unfolding xored
xored_twice [] s = refl
xored_twice (t ∷ ts) [] = refl
xored_twice (t ∷ ts) (k ∷ ks) = λ i. xor_cancel t k i ∷ xored_twice ts ks i

pub E-length : (key nonce text : List ℕ) → length (E key nonce text) ≡ length text
unfolding E
E-length key nonce text = xored-length text (stream (blocks_for (length text)) key 1 nonce)

pub e_undoes : (key nonce text : List ℕ) → E key nonce (E key nonce text) ≡ text
unfolding E
e_undoes key nonce text =
    rw (xored-length text (stream (blocks_for (length text)) key 1 nonce))
    (xored_twice text (stream (blocks_for (length text)) key 1 nonce))

-- ---- bytes

-- every element is a byte; past the end stands 0
abbrev pub Bytes : List ℕ → Type 0
Bytes t = (i : ℕ) → get_or t i 0 < 256

append_bytes : (s t : List ℕ) → Bytes s → Bytes t → Bytes (s ++ t)
append_bytes [] t b d i = d i
append_bytes (x ∷ xs) t b d zero = b 0
append_bytes (x ∷ xs) t b d (suc i) = append_bytes xs t (λ j. b (suc j)) d i

word_bytes : (x : ℕ) → Bytes (bytes_of x)
unfolding bytes_of
word_bytes x zero = omega arith
word_bytes x (suc zero) = omega arith
word_bytes x (suc (suc zero)) = omega arith
word_bytes x (suc (suc (suc zero))) = omega arith
word_bytes x (suc (suc (suc (suc i)))) = omega arith

serialized_bytes : (s : List ℕ) → Bytes (serialized s)
unfolding serialized
serialized_bytes [] = λ i. omega arith
serialized_bytes (x ∷ xs) = append_bytes (bytes_of x) (serialized xs) (word_bytes x) (serialized_bytes xs)

stream_bytes : (n : ℕ) (key : List ℕ) (counter : ℕ) (nonce : List ℕ) → Bytes (stream n key counter nonce)
unfolding stream block
stream_bytes zero key counter nonce = λ i. omega arith
stream_bytes (suc n) key counter nonce =
    append_bytes (serialized (block_words (initial_state key counter nonce))) (stream n key ((counter + 1) % 2 ^ 32) nonce)
    (serialized_bytes (block_words (initial_state key counter nonce))) (stream_bytes n key ((counter + 1) % 2 ^ 32) nonce)

xored_bytes : (t s : List ℕ) → Bytes t → Bytes s → Bytes (xored t s)
unfolding xored
xored_bytes [] s b d i = omega arith
xored_bytes (t ∷ ts) [] b d i = b i
xored_bytes (t ∷ ts) (k ∷ ks) b d zero = xor_lt 8 t k (b 0) (d 0)
xored_bytes (t ∷ ts) (k ∷ ks) b d (suc i) = xored_bytes ts ks (λ j. b (suc j)) (λ j. d (suc j)) i

pub e_bytes : (key nonce text : List ℕ) → Bytes text → Bytes (E key nonce text)
unfolding E
e_bytes key nonce text b =
    xored_bytes text (stream (blocks_for (length text)) key 1 nonce) b (stream_bytes (blocks_for (length text)) key 1 nonce)
