-- Laws of the definitions: blocks split, the padded tail fills whole blocks, and a hash goes on from the state after a first block.
use mathlib.Core.Path.{◌≡◌, refl, sym, ap, ap₂, ◌∙◌}
use mathlib.Core.List.{List, [], ◌∷◌, ◌++◌, append_assoc, append-nil}
use Prim.Native.Nat.{ℕ, zero, suc, ◌+◌, ◌-◌, ◌*◌, ◌/◌, ◌%◌, ◌<◌, ◌≤◌}
use native.Mathlib.Omega.{arith}
use native.Mathlib.Nat.{zero-add, suc-add}
use native.Mathlib.Numerals.{add-one}
use lib.ListN.{length, length-append, length-drop, length-replicate, take, drop, set, get_or, replicate, replicate-append-replicate}
use lib.Seq.{take_at, drop_at, drop-drop, take-append-le, drop-append-le, take-suc, length-take-le, set-append_seam}
use Rattle.std.specs.Int.{to_be_bytes}
use mir.Syntax.{w32}
use Rattle.octets.specs.Number.{bytes}
use Rattle.octets.specs.Part.{back}
use Rattle.octets.proofs.Numbers.{length-bytes}
use Rattle.octets.proofs.Parts.{back_next, length_back}
use Rattle.sha256.specs.Constants.{H0}
use Rattle.compression.specs.Compression.{added, compress, compress_at}
use Rattle.compression.proofs.Laws.{block_at, block_alone}
use Rattle.sha256.specs.Padding.{zeros, padding}
use Rattle.sha256.specs.Hash.{blocks, tail, final, digest, hash}

-- ---- blocks

blocks-add : (a b : ℕ) (s m : List ℕ) → blocks (a + b) s m ≡ blocks b (blocks a s m) (drop (64 * a) m)
unfolding blocks
blocks-add zero b s m = rw (zero-add b)
blocks-add (suc a) b s m =
    rw (suc-add a b)
    (blocks-add a b (compress s (take 64 m)) (drop 64 m)
    ∙ ap (blocks b (blocks a (compress s (take 64 m)) (drop 64 m))) (drop-drop (64 * a) 64 m ∙ ap (λ (n : ℕ). drop n m) (moved a)))
  where
    moved : (a : ℕ) → 64 + 64 * a ≡ 64 * suc a
    moved a = omega arith

-- blocks that a list holds do not depend on what follows it
blocks_front : (a : ℕ) (s x y : List ℕ) → 64 * a ≤ length x → blocks a s (x ++ y) ≡ blocks a s x
unfolding blocks
blocks_front zero s x y h = refl
blocks_front (suc a) s x y h =
    ap₂ (λ (b r : List ℕ). blocks a (compress s b) r) (take-append-le 64 x y (omega arith)) (drop-append-le 64 x y (omega arith))
    ∙ blocks_front a (compress s (take 64 x)) (drop 64 x) y (omega (arith, length-drop 64 x))

-- one block more of those that are left
pub block_more : (s v b rest m : List ℕ) → m ≡ b ++ rest → length b ≡ 64 → v ≡ compress_at s b 0
    → blocks (length m / 64) s m ≡ blocks (length rest / 64) v rest
unfolding blocks
block_more s v b rest m e f g =
    ap (λ (l : List ℕ). blocks (length l / 64) s l) e
    ∙ ap (λ (n : ℕ). blocks n s (b ++ rest)) count
    ∙ ap₂ (λ (x y : List ℕ). blocks (length rest / 64) (compress s x) y) (take_at b rest 64 f) (drop_at b rest 64 f)
    ∙ ap (λ (x : List ℕ). blocks (length rest / 64) x rest) (sym (g ∙ block_alone s b f))
  where
    count : length (b ++ rest) / 64 ≡ suc (length rest / 64)
    count = omega (arith, length-append b rest)

pub block_none : (s m : List ℕ) → length m < 64 → blocks (length m / 64) s m ≡ s
unfolding blocks
block_none s m h = ap (λ (n : ℕ). blocks n s m) (none (length m) h)
  where
    none : (l : ℕ) → l < 64 → l / 64 ≡ zero
    none l h = omega arith

-- ---- the tail

length-padding : (n : ℕ) → length (padding n) ≡ zeros n + 9
unfolding padding
length-padding n = ap suc (length-append (replicate (zeros n) 0) (bytes 8 (8 * n))) ∙ omega (arith, length-replicate {A = ℕ} (zeros n) 0, length-bytes 8 (8 * n))

-- the rest with its padding fills one block where 8 bytes are left behind the byte 128, else two
pub fills_one : (r n : ℕ) → r ≡ n % 64 → r < 56 → 64 ≡ r + (zeros n + 9)
unfolding zeros
fills_one r n e h = omega arith

pub fills_two : (r n : ℕ) → r ≡ n % 64 → 56 ≤ r → 128 ≡ r + (zeros n + 9)
unfolding zeros
fills_two r n e h = omega arith

pub length-padded : (rest : List ℕ) (n : ℕ) → length (rest ++ padding n) ≡ length rest + (zeros n + 9)
length-padded rest n = length-append rest (padding n) ∙ ap (λ (k : ℕ). length rest + k) (length-padding n)

-- the tail in one block
pub tail_one : (s rest b : List ℕ) (n : ℕ) → length rest ≡ n % 64 → length rest < 56 → b ≡ rest ++ padding n → compress_at s b 0 ≡ tail s rest n
unfolding tail blocks
tail_one s rest b n e h f =
    ap (λ (l : List ℕ). compress_at s l 0) f ∙ block_at s (rest ++ padding n) 0 (omega (arith, long))
    ∙ ap (λ (k : ℕ). blocks (k / 64) s (rest ++ padding n)) long
  where
    long : 64 ≡ length (rest ++ padding n)
    long = fills_one (length rest) n e h ∙ sym (length-padded rest n)

-- the full blocks of a message, and then the rest
pub final_is : (s m : List ℕ) (n : ℕ) → n % 64 ≡ 0 → final s n m ≡ tail (blocks (length m / 64) s m) (drop (length m / 64 * 64) m) (n + length m)
unfolding final tail
final_is s m n h =
    ap (λ (k : ℕ). blocks k s (m ++ padding (n + length m))) count
    ∙ blocks-add (length m / 64) rest s (m ++ padding (n + length m))
    ∙ ap₂ (λ (v x : List ℕ). blocks rest v x) (blocks_front (length m / 64) s m (padding (n + length m)) (omega arith))
    (ap (λ (k : ℕ). drop k (m ++ padding (n + length m))) (turned (length m / 64)) ∙ drop-append-le (length m / 64 * 64) m (padding (n + length m)) (omega arith))
  where
    rest : ℕ
    rest = length (drop (length m / 64 * 64) m ++ padding (n + length m)) / 64

    turned : (q : ℕ) → 64 * q ≡ q * 64
    turned q = omega arith

    count : length (m ++ padding (n + length m)) / 64 ≡ length m / 64 + rest
    count =
        omega (
          arith,
          length-append m (padding (n + length m)),
          length-append (drop (length m / 64 * 64) m) (padding (n + length m)),
          length-drop (length m / 64 * 64) m,
        )

-- a hash goes on from the state after a first block
pub after_block : (b m : List ℕ) → length b ≡ 64 → hash (b ++ m) ≡ digest (final (compress H0 b) 64 m)
unfolding hash final tail blocks
after_block b m e =
    ap digest
    (ap (λ (k : ℕ). blocks (length ((b ++ m) ++ padding k) / 64) H0 ((b ++ m) ++ padding k)) total
    ∙ ap (λ (x : List ℕ). blocks (length x / 64) H0 x) (append_assoc b m (padding (64 + length m)))
    ∙ ap (λ (k : ℕ). blocks k H0 (b ++ rest)) count
    ∙ ap₂ (λ (x y : List ℕ). blocks (length rest / 64) (compress H0 x) y) (take_at b rest 64 e) (drop_at b rest 64 e))
  where
    rest : List ℕ
    rest = m ++ padding (64 + length m)

    total : 0 + length (b ++ m) ≡ 64 + length m
    total = omega (arith, length-append b m)

    count : length (b ++ rest) / 64 ≡ suc (length rest / 64)
    count = omega (arith, length-append b rest)

-- ---- the tail over zeros: the rest, the byte 128 and the length

module _ (to rest : List ℕ) (n : ℕ) (h : to ≡ replicate (length rest + (zeros n + 9)) 0) where
  pub length-zeros : length to ≡ length rest + (zeros n + 9)
  length-zeros = ap length h ∙ length-replicate {A = ℕ} (length rest + (zeros n + 9)) 0

  abbrev marked : List ℕ → List ℕ
  marked xs = set (xs ++ drop (length rest) to) (length rest) 128

  abbrev front : List ℕ
  front = rest ++ (128 ∷ replicate (zeros n) 0)

  marked_is : marked rest ≡ front ++ replicate 8 0
  marked_is =
      ap (λ (l : List ℕ). set (rest ++ drop (length rest) l) (length rest) 128) (h ∙ sym (replicate-append-replicate (length rest) (zeros n + 9) 0))
      ∙ ap (λ (l : List ℕ). set (rest ++ l) (length rest) 128) (drop_at (replicate (length rest) 0) (replicate (zeros n + 9) 0) (length rest) (length-replicate {A = ℕ} (length rest) 0))
      ∙ ap (λ (k : ℕ). set (rest ++ replicate k 0) (length rest) 128) more ∙ set-append_seam rest 0 (replicate (zeros n + 8) 0) 128
      ∙ sym (append_assoc rest (128 ∷ []) (replicate (zeros n + 8) 0))
      ∙ ap (λ (l : List ℕ). (rest ++ (128 ∷ [])) ++ l) (sym (replicate-append-replicate (zeros n) 8 0))
      ∙ simp append_assoc
    where
      more : zeros n + 9 ≡ suc (zeros n + 8)
      more = omega arith

  length_front : length front ≡ length to - 8
  length_front = length-append rest (128 ∷ replicate (zeros n) 0) ∙ omega (arith, length-zeros, length-replicate {A = ℕ} (zeros n) 0)

  pub pad_is : (xs ys : List ℕ) → xs ≡ rest → ys ≡ bytes (length (take (length to - (length to - 8)) (drop (length to - 8) (marked xs)))) (8 * n)
      → back (marked xs) (length to - 8) (length to) ys ≡ rest ++ padding n
  unfolding padding
  pad_is xs ys e f =
      let m = ap marked e ∙ marked_is in
      let last : length to - (length to - 8) ≡ 8 = omega (arith, length-zeros) in
      let eight = ap₂ (λ (l : List ℕ) (k : ℕ). bytes (length (take k (drop (length to - 8) l))) (8 * n)) m last ∙ ap (λ (l : List ℕ). bytes (length (take 8 l)) (8 * n)) (drop_at front (replicate 8 0) (length to - 8) length_front) in
      ap₂ (λ (l r : List ℕ). back l (length to - 8) (length to) r) m (f ∙ eight)
      ∙ back_next front (replicate 8 0) (bytes 8 (8 * n)) (length to - 8) (length to) length_front
      ∙ ap (λ (k : ℕ). (front ++ bytes 8 (8 * n)) ++ drop k (replicate 8 0)) last
      ∙ simp (append_assoc, append-nil)

-- ---- a digest over zeros, the byte 128, and 768 as the length

-- behind a front
set_behind : (xs ys : List ℕ) (i a : ℕ) → set (xs ++ ys) (length xs + i) a ≡ xs ++ set ys i a
set_behind [] ys i a = rw (zero-add i)
set_behind (x ∷ xs) ys i a = rw (suc-add (length xs) i) (ap (λ (l : List ℕ). x ∷ l) (set_behind xs ys i a))

digest_padded : (d : List ℕ) → length d ≡ 32 → set (set (d ++ replicate 32 0) 32 128) 62 3 ≡ d ++ padding 96
unfolding padding zeros bytes
digest_padded d e =
    let i : 32 ≡ length d + 0 = omega arith in
    let j : 62 ≡ length d + 30 = omega arith in
    ap₂ (λ (x y : ℕ). set (set (d ++ replicate 32 0) x 128) y 3) i j
    ∙ ap (λ (l : List ℕ). set l (length d + 30) 3) (set_behind d (replicate 32 0) 0 128) ∙ set_behind d (128 ∷ replicate 31 0) 30 3

pub finish_is : (s d xs : List ℕ) → length d ≡ 32 → xs ≡ d → compress_at s (set (set (xs ++ replicate 32 0) 32 128) 62 3) 0 ≡ final s 64 d
unfolding final
finish_is s d xs e f =
    let n : 96 ≡ 64 + length d = omega arith in
    ap (λ (l : List ℕ). compress_at s (set (set (l ++ replicate 32 0) 32 128) 62 3) 0) f
    ∙ tail_one s d (set (set (d ++ replicate 32 0) 32 128) 62 3) 96 e (omega arith) (digest_padded d e) ∙ ap (tail s d) n

-- ---- the digest, word by word

digest-append : (xs ys : List ℕ) → digest (xs ++ ys) ≡ digest xs ++ digest ys
unfolding digest
digest-append [] ys = refl
digest-append (x ∷ xs) ys =
    ap (λ (l : List ℕ). bytes 4 x ++ l) (digest-append xs ys) ∙ sym (append_assoc (bytes 4 x) (digest xs) (digest ys))

be_bytes : (x : ℕ) → to_be_bytes w32 x ≡ bytes 4 x
unfolding bytes
be_bytes x =
    let two : x / 65536 ≡ x / 256 / 256 = omega arith in
    let three : x / 16777216 ≡ x / 256 / 256 / 256 = omega arith in
    rw (two, three)

module _ (i : ℕ) (to ws ys : List ℕ) (h : i < length ws) (e : length to ≡ 4 * length ws) (g : ys ≡ to_be_bytes w32 (get_or ws i 0)) where
  four : ys ≡ bytes 4 (get_or ws i 0)
  four = g ∙ be_bytes (get_or ws i 0)

  pub digest_length : length (back to (4 * i) (4 * i + 4) ys) ≡ length to
  digest_length =
      length_back to (4 * i) (4 * i + 4) ys (omega arith) (omega arith) (ap length four ∙ length-bytes 4 (get_or ws i 0) ∙ omega arith)

  pub digest_more : take (4 * i) to ≡ digest (take i ws) → take (4 * (i + 1)) (back to (4 * i) (4 * i + 4) ys) ≡ digest (take (i + 1) ws)
  unfolding digest
  digest_more f =
      ap (take (4 * (i + 1))) (sym (append_assoc (take (4 * i) to) ys (drop (4 * i + 4 - 4 * i) (drop (4 * i) to))))
      ∙ take_at (take (4 * i) to ++ ys) (drop (4 * i + 4 - 4 * i) (drop (4 * i) to)) (4 * (i + 1)) long
      ∙ ap₂ (λ (l m : List ℕ). l ++ m) f four
      ∙ rw (add-one i, take-suc ws i 0 h, digest-append (take i ws) (get_or ws i 0 ∷ []), append-nil (bytes 4 (get_or ws i 0)))
    where
      long : length (take (4 * i) to ++ ys) ≡ 4 * (i + 1)
      long =
          length-append (take (4 * i) to) ys
          ∙ omega (arith, length-take-le (4 * i) to (omega arith), ap length four, length-bytes 4 (get_or ws i 0))

-- ---- how long a hash value and a digest are

pub length-digest : (ws : List ℕ) → length (digest ws) ≡ 4 * length ws
unfolding digest
length-digest [] = refl
length-digest (w ∷ ws) = length-append (bytes 4 w) (digest ws) ∙ omega (arith, length-bytes 4 w, length-digest ws)

length-blocks : (n : ℕ) (s m : List ℕ) → length s ≡ 8 → length (blocks n s m) ≡ 8
unfolding blocks compress added
length-blocks zero s m e = e
length-blocks (suc n) s m e = length-blocks n (compress s (take 64 m)) (drop 64 m) refl

pub length-final : (s m : List ℕ) (n : ℕ) → length s ≡ 8 → length (digest (final s n m)) ≡ 32
unfolding final tail
length-final s m n e =
    length-digest (final s n m)
    ∙ ap (λ (k : ℕ). 4 * k) (length-blocks (length (m ++ padding (n + length m)) / 64) s (m ++ padding (n + length m)) e)

pub length-hash : (m : List ℕ) → length (hash m) ≡ 32
unfolding hash H0
length-hash m = length-final H0 m 0 refl
