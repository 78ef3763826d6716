-- What the public call answers and leaves in the text (document 01, "Refusals from the input").
use Rattle.std.specs.Prelude.{ℕ, not, List, [], ◌∷◌, length, eqb, ltb}
use Rattle.answer.specs.Answer.{Answer, done}
use Rattle.answer.specs.Verdict.{Test, ◌⇒◌, verdict, answer_or, unless_refused}
use Rattle.chacha20.specs.Cipher.{E}

-- the key not 32 bytes: 1; the nonce not 12: 4; the text above 65,536: 9 [01:RI1 RI2 RI5 RI10]
unfoldable pub cipher_tests : List ℕ → List ℕ → List ℕ → List Test
cipher_tests key nonce text =
    (not (eqb (length key) 32) ⇒ 1) ∷ (not (eqb (length nonce) 12) ⇒ 4) ∷ (ltb 65536 (length text) ⇒ 9) ∷ []

unfoldable pub cipher_answer : List ℕ → List ℕ → List ℕ → Answer
cipher_answer key nonce text = answer_or (verdict (cipher_tests key nonce text)) (done [])

-- the text after the call; a refusal leaves it as it was lent
unfoldable pub cipher_text : List ℕ → List ℕ → List ℕ → List ℕ
cipher_text key nonce text = unless_refused (verdict (cipher_tests key nonce text)) (E key nonce text) text
