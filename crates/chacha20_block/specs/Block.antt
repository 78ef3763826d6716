-- The block function (RFC 8439, 2.3): the state of a key, a counter and a nonce, the 20 rounds, the sum with the state that
-- they began from, and the words as bytes, little-endian.
use Rattle.std.specs.Prelude.{ℕ, ◌+◌, ◌*◌, ◌/◌, ◌%◌, List, [], ◌∷◌, ◌++◌, slice_index}
use Rattle.chacha20_block.specs.Words.{◌⊞◌}
use Rattle.chacha20_block.specs.Rounds.{double_rounds}

-- the word that stands at a place of a list of bytes, little-endian
unfoldable pub word_at : List ℕ → ℕ → ℕ
word_at s i = slice_index s i + slice_index s (i + 1) * 0x100 + slice_index s (i + 2) * 0x1_0000 + slice_index s (i + 3) * 0x100_0000

-- four constants, eight words of key, the counter, three words of nonce
unfoldable pub initial_state : List ℕ → ℕ → List ℕ → List ℕ
initial_state key counter nonce =
    0x6170_7865 ∷ 0x3320_646e ∷ 0x7962_2d32 ∷ 0x6b20_6574 ∷
    word_at key 0 ∷ word_at key 4 ∷ word_at key 8 ∷ word_at key 12 ∷ word_at key 16 ∷ word_at key 20 ∷ word_at key 24 ∷ word_at key 28 ∷
    counter ∷ word_at nonce 0 ∷ word_at nonce 4 ∷ word_at nonce 8 ∷ []

-- two states, word by word
unfoldable pub sums : List ℕ → List ℕ → List ℕ
sums [] ys = []
sums (x ∷ xs) [] = []
sums (x ∷ xs) (y ∷ ys) = (x ⊞ y) ∷ sums xs ys

unfoldable pub block_words : List ℕ → List ℕ
block_words s = sums (double_rounds 10 s) s

-- the four bytes of a word
unfoldable pub bytes_of : ℕ → List ℕ
bytes_of x = x % 256 ∷ x / 0x100 % 256 ∷ x / 0x1_0000 % 256 ∷ x / 0x100_0000 % 256 ∷ []

unfoldable pub serialized : List ℕ → List ℕ
serialized [] = []
serialized (x ∷ xs) = bytes_of x ++ serialized xs

-- the 64 bytes of stream that a state gives
unfoldable pub block : List ℕ → List ℕ
block s = serialized (block_words s)
