-- ChaCha20 encryption (RFC 8439, 2.4): the text XORed with the stream, block after block. The first block's counter is 1.
-- To decrypt is to encrypt again (specs/Laws.antt).
use Rattle.std.specs.Prelude.{ℕ, zero, suc, ◌+◌, ◌/◌, List, [], ◌∷◌, ◌++◌, length}
use Rattle.chacha20_block.specs.Words.{◌⊞◌, ◌⊕◌}
use Rattle.chacha20_block.specs.Block.{initial_state, block}

-- n blocks of stream, from the block of the counter given [01:KF4 FM5]
unfoldable pub stream : ℕ → List ℕ → ℕ → List ℕ → List ℕ
stream zero key counter nonce = []
stream (suc n) key counter nonce = block (initial_state key counter nonce) ++ stream n key (counter ⊞ 1) nonce

-- a text XORed with a stream that is as long or longer
unfoldable pub xored : List ℕ → List ℕ → List ℕ
xored [] ks = []
xored (t ∷ ts) [] = t ∷ ts
xored (t ∷ ts) (k ∷ ks) = (t ⊕ k) ∷ xored ts ks

-- how many blocks cover n bytes
unfoldable pub blocks_for : ℕ → ℕ
blocks_for n = (n + 63) / 64

-- the text under a key of 32 bytes and a nonce of 12 [01:KF2 KF3]
unfoldable pub E : List ℕ → List ℕ → List ℕ → List ℕ
E key nonce text = xored text (stream (blocks_for (length text)) key 1 nonce)
