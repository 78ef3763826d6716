-- The hash of a message (FIPS 180-4, 6.2), and what the public call answers and leaves.
use Rattle.std.specs.Prelude.{ℕ, zero, suc, ◌+◌, ◌/◌, List, [], ◌∷◌, ◌++◌, length, take, drop, ltb}
use Rattle.answer.specs.Answer.{Answer, done}
use Rattle.answer.specs.Verdict.{Test, ◌⇒◌, verdict, answer_or, unless_refused}
use Rattle.sha256.specs.Constants.{H0}
use Rattle.compression.specs.Compression.{compress}
use Rattle.sha256.specs.Padding.{padding}
use Rattle.octets.specs.Number.{bytes}

-- n blocks, one after the other
unfoldable pub blocks : ℕ → List ℕ → List ℕ → List ℕ
blocks zero s m = s
blocks (suc n) s m = blocks n (compress s (take 64 m)) (drop 64 m)

-- the hash value after the last bytes m of a message of n bytes, with the message's padding
unfoldable pub tail : List ℕ → List ℕ → ℕ → List ℕ
tail s m n = blocks (length (m ++ padding n) / 64) s (m ++ padding n)

-- the hash value after the last bytes m of a message of which n bytes, whole blocks, led to s
unfoldable pub final : List ℕ → ℕ → List ℕ → List ℕ
final s n m = tail s m (n + length m)

-- the bytes of words
unfoldable pub digest : List ℕ → List ℕ
digest [] = []
digest (w ∷ ws) = bytes 4 w ++ digest ws

unfoldable pub hash : List ℕ → List ℕ
hash m = digest (final H0 0 m)

-- the longest message, key or text that a call takes
abbrev pub longest : ℕ
longest = 65536

-- a message above that: 9 [01:RI10]
unfoldable pub hash_tests : List ℕ → List Test
hash_tests m = (ltb longest (length m) ⇒ 9) ∷ []

unfoldable pub hash_answer : List ℕ → Answer
hash_answer m = answer_or (verdict (hash_tests m)) (done [])

-- the digest after the call: the hash, or as lent where the call is refused
unfoldable pub hash_digest : List ℕ → List ℕ → List ℕ
hash_digest m d = unless_refused (verdict (hash_tests m)) (hash m) d
