-- Different answers of one call have different numbers: sign, refusal and values are read back from the number.
use Prim.Native.Nat.{ℕ, zero, suc, ◌+◌, ◌*◌, ◌<◌}
use native.Mathlib.Omega.{arith}
use mathlib.Core.Path.{◌≡◌, refl, sym, ap, ap₂, subst}
use mathlib.Core.List.{List, [], ◌∷◌}
use lib.IntN.{pos, neg_ℤ}
use Rattle.answer.specs.Answer.{Answer, done, refused}
use Rattle.encoding.specs.Encoding.{packed, encoded, Values, none, one, two, carries, Gives, answering}

same_values : {n : ℕ} {l m : List ℕ} → Values n l → Values n m → packed l ≡ packed m → l ≡ m
same_values none none e = refl
same_values one one e = ap (λ (x : ℕ). x ∷ []) e
same_values (two h) (two k) e = ap₂ (λ (a b : ℕ). a ∷ b ∷ []) (omega arith) (omega arith)

same_negative : (x y : ℕ) → neg_ℤ (pos x) ≡ neg_ℤ (pos y) → x ≡ y
same_negative zero zero e = refl
same_negative zero (suc y) e = let z : ◌≡◌ {A = ℕ} 0 1 = cc in absurd (omega arith)
same_negative (suc x) zero e = let z : ◌≡◌ {A = ℕ} 0 1 = cc in absurd (omega arith)
same_negative (suc x) (suc y) e = let z : x ≡ y = cc in ap suc z

apart : (x y : ℕ) → 0 < y → pos x ≡ neg_ℤ (pos y) → ⊥
apart x zero h e = omega arith
apart x (suc y) h e = let z : ◌≡◌ {A = ℕ} 0 1 = cc in omega arith

pub different : (n : ℕ) (a b : Answer) → Gives n a → Gives n b → encoded a ≡ encoded b → a ≡ b
different n (done l) (done m) g h e = let z : packed l ≡ packed m = cc in ap done (same_values g h z)
different n (done l) (refused k m) g h e = absurd (apart (packed l) (k + 256 * packed m) (omega arith) e)
different n (refused k l) (done m) g h e = absurd (apart (packed m) (k + 256 * packed l) (omega arith) (sym e))
different n (refused k l) (refused j m) g h e =
    let s = same_negative (k + 256 * packed l) (j + 256 * packed m) e in
    let i : k ≡ j = omega arith in
    let p : packed l ≡ packed m = omega arith in
    ap₂ refused i (same_values (subst (λ (x : ℕ). Values (carries n x) l) i g.2) h.2 p)

-- a token making's answers, with the token's length for no value
pub made : (t : ℕ) (a : Answer) → Gives 0 a → Gives 1 (answering t a)
made t (done l) g = one
made t (refused k l) g = g
