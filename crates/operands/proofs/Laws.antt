-- Laws of the bytes that words stand for: ids one after the other, a token that was printed.
use Prim.Native.Nat.{ℕ, ◌+◌, ◌*◌, ◌-◌, ◌<◌, ◌≤◌}
use mathlib.Core.Path.{◌≡◌, sym, ap, ap₂, ◌∙◌}
use mathlib.Core.Bool.{Bool, cond}
use mathlib.Core.List.{List, [], ◌++◌}
use native.Mathlib.Numerals.{add-one}
use native.Mathlib.Omega.{arith}
use lib.ListN.{length, get_or, take}
use lib.Seq.{take-add}
use Rattle.octets.specs.Part.{back}
use Rattle.octets.proofs.Parts.{take_back, part_back}
use Rattle.text.specs.Hex.{unhex_of, hex_of}
use Rattle.text.proofs.Digits.{is_digits, unhex_back}
use Rattle.words.specs.Line.{word_at}
use Rattle.operands.specs.Ids.{id_of, ids_of}
use Rattle.operands.specs.Token.{token_of}

-- one id more
pub ids_more : (to line ys : List ℕ) (first i a e : ℕ) → a ≡ 16 * i → e ≡ a + 16 → e ≤ length to → length ys ≡ 16 → take (16 * i) to ≡ ids_of first i line
    → ys ≡ id_of (word_at (first + i) line) → take (16 * (i + 1)) (back to a e ys) ≡ ids_of first (i + 1) line
unfolding ids_of
ids_more to line ys first i a e ha he fits l before new =
    let k : 16 * (i + 1) ≡ a + (e - a) = omega arith in
    ap (λ (n : ℕ). take n (back to a e ys)) k
    ∙ take-add a (e - a) (back to a e ys)
    ∙ ap₂ (λ (x y : List ℕ). x ++ y) (take_back to a e ys (omega arith) fits (omega arith) ∙ ap (λ (n : ℕ). take n to) ha ∙ before) (part_back to a e ys (omega arith) fits (omega arith) ∙ new)
    ∙ ap (λ (n : ℕ). ids_of first n line) (sym (add-one i))

-- a token that was printed is read back, whatever its length
pub token_again : (token : List ℕ) → ((i : ℕ) → get_or token i 0 < 256) → token_of (length token) (hex_of token (2 * length token)) ≡ token
unfolding token_of
token_again token bytes =
    ap (λ (b : Bool). cond b (unhex_of (hex_of token (2 * length token)) (length token)) []) (is_digits token bytes) ∙ unhex_back token bytes
