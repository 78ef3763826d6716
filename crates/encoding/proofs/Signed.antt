-- A number below 2 ^ 63 as an i64, and minus it; an answer's number passes through an i64 unchanged.
use Prim.Native.Nat.{ℕ, zero, suc, ◌^◌, ◌<◌}
use native.Mathlib.Omega.{arith}
use mathlib.Core.Path.{◌≡◌, sym, ap, subst, ◌∙◌}
use lib.IntN.{ℤ, pos, neg_ℤ, ◌-ℤ◌, +ℤ_idl}
use mir.Syntax.{w64}
use mir.Val.{SFits, to_z, of_z}
use mir.Facts.{to_z_pos, to_z-of_z}
use Rattle.answer.specs.Answer.{Answer, done, refused}
use Rattle.encoding.specs.Encoding.{magnitude, encoded, Fits, answering}

minus_fits : (x : ℕ) → x < 2 ^ 63 → SFits w64 (neg_ℤ (pos x))
minus_fits zero h = record { sfits = omega arith }
minus_fits (suc n) h = record { sfits = omega arith }

module _ (x : ℕ) (h : x < 2 ^ 63) where
  taken : to_z w64 0 -ℤ to_z w64 x ≡ neg_ℤ (pos x)
  taken = ap (λ (z : ℤ). pos 0 -ℤ z) (to_z_pos w64 h) ∙ +ℤ_idl (neg_ℤ (pos x))

  pub minus_safe : SFits w64 (to_z w64 0 -ℤ to_z w64 x)
  minus_safe = rw taken (minus_fits x h)

  pub minus_is : to_z w64 (of_z w64 (to_z w64 0 -ℤ to_z w64 x)) ≡ neg_ℤ (pos x)
  minus_is = to_z-of_z {w = w64} minus_safe ∙ taken

encoded_fits : (a : Answer) → magnitude a < 2 ^ 63 → SFits w64 (encoded a)
encoded_fits (done l) h = record { sfits = h }
encoded_fits (refused n l) h = minus_fits _ h

pub passes : (z : ℤ) (a : Answer) → magnitude a < 2 ^ 63 → z ≡ encoded a → to_z w64 (of_z w64 z) ≡ encoded a
passes z a h e = to_z-of_z {w = w64} (subst (SFits w64) (sym e) (encoded_fits a h)) ∙ e

-- the same of an answer that is equal to another
pub fits_as : {n : ℕ} {a b : Answer} → a ≡ b → Fits n b → magnitude a < 2 ^ 63
fits_as e h = subst (λ (x : Answer). magnitude x < 2 ^ 63) (sym e) h.small

pub told : (z : ℤ) {n : ℕ} {a b : Answer} → a ≡ b → Fits n b → z ≡ encoded a → to_z w64 (of_z w64 z) ≡ encoded b
told z {b = b} e h k = passes z b h.small (k ∙ ap encoded e)

-- a token making's
pub answering_small : (n : ℕ) (a : Answer) → n < 2 ^ 63 → magnitude a < 2 ^ 63 → magnitude (answering n a) < 2 ^ 63
answering_small n (done l) h k = h
answering_small n (refused r l) h k = k

pub told_made : (n : ℕ) → n < 2 ^ 63 → (z : ℤ) {m : ℕ} {a b : Answer} → a ≡ b → Fits m b → z ≡ encoded (answering n a) → to_z w64 (of_z w64 z) ≡ encoded (answering n b)
told_made n l z {b = b} e h k = passes z (answering n b) (answering_small n b l h.small) (k ∙ ap (λ (x : Answer). encoded (answering n x)) e)
