-- HMAC over SHA-256 (RFC 2104, section 2, with B = 64 and L = 32): the keyed function F of document 01, and what the public
-- call answers and leaves. [01:KF1]
use Rattle.std.specs.Prelude.{ℕ, ◌-◌, cond, ◌||◌, List, [], ◌∷◌, ◌++◌, map, length, replicate, leb, ltb}
use Rattle.std.specs.Int.Bits.{bit_xor}
use Rattle.answer.specs.Answer.{Answer, done}
use Rattle.answer.specs.Verdict.{Test, ◌⇒◌, verdict, answer_or, unless_refused}
use Rattle.sha256.specs.Constants.{H0}
use Rattle.compression.specs.Compression.{compress}
use Rattle.sha256.specs.Hash.{hash, final, digest, longest}

-- the key as it is used: hashed where it is longer than a block
unfoldable pub used : List ℕ → List ℕ
used key = cond (leb (length key) 64) key (hash key)

-- step 1: zeros appended up to a block
unfoldable pub block : List ℕ → List ℕ
block key = used key ++ replicate (64 - length (used key)) 0

-- steps 2 and 5: the block XORed with a pad byte, 36 hex for the inner hash and 5C hex for the outer
unfoldable pub pad : ℕ → List ℕ → List ℕ
pad x key = map (λ (b : ℕ). bit_xor b x) (block key)

-- F(key, m)
unfoldable pub F : List ℕ → List ℕ → List ℕ
F key m = hash (pad 0x5c key ++ hash (pad 0x36 key ++ m))

-- the hash values after the two key blocks
unfoldable pub inner_hash : List ℕ → List ℕ
inner_hash key = compress H0 (pad 0x36 key)

unfoldable pub outer_hash : List ℕ → List ℕ
outer_hash key = compress H0 (pad 0x5c key)

-- the tag of m, of the hash values after the two key blocks
unfoldable pub tag : List ℕ → List ℕ → List ℕ → List ℕ
tag inner outer m = digest (final outer 64 (digest (final inner 64 m)))

-- a key or a message above 65,536 bytes: 9 [01:RI10]
unfoldable pub mac_tests : List ℕ → List ℕ → List Test
mac_tests key m = (ltb longest (length key) || ltb longest (length m) ⇒ 9) ∷ []

unfoldable pub mac_answer : List ℕ → List ℕ → Answer
mac_answer key m = answer_or (verdict (mac_tests key m)) (done [])

-- the tag after the call: F, or as lent where the call is refused
unfoldable pub mac_tag : List ℕ → List ℕ → List ℕ → List ℕ
mac_tag key m d = unless_refused (verdict (mac_tests key m)) (F key m) d
