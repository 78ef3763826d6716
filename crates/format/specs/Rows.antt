-- The text in a row of M or C (document 01, "Store").
use Rattle.std.specs.Prelude.{ℕ, List, take, drop}
use Rattle.chacha20.specs.Cipher.{E}

-- the text in a row without its mark, under a key [01:ST6 ST9]
unfoldable pub text_in : List ℕ → List ℕ → List ℕ
text_in key b = E key (take 12 (drop 32 b)) (drop 44 b)
