-- The sentence of an advice that is known, and what the last arm of a match knows of the others' places.
use Prim.Native.Nat.{ℕ, ◌<◌}
use mathlib.Core.Path.{◌≡◌, refl, sym, ap, ◌∙◌}
use mathlib.Core.Bool.{Bool, true, false, cond}
use mathlib.Core.Logic.{inl, inr}
use mathlib.Core.List.{List, [], ◌∷◌}
use native.Mathlib.Omega.{arith}
use lib.Dec.{ltb}
use types.Run.{OneOf}
use borrow.Author.Tests.{ltb-true, lt-ltb}
use Rattle.advice.specs.declared.Advice.{Advice}
use Rattle.buffer.specs.Put.{Put}
use Rattle.buffer.proofs.Laws.{said}
use Rattle.messages.specs.Message.{sentence_of}

pub arm : (given : ℕ) {a b : Advice} {to after : List ℕ} {at end : ℕ} → a ≡ b → Put to at (sentence_of b given) after end → Put to at (sentence_of a given) after end
arm given e p = said (sym (ap (λ (x : Advice). sentence_of x given) e)) p

abbrev pub every : (ℕ → Bool) → List ℕ → Bool
every f [] = true
every f (k ∷ ks) = cond (f k) (every f ks) false

both : (b d : Bool) → cond b d false ≡ true → (b ≡ true) × (d ≡ true)
both true d e = (refl, e)
both false d e = (e, cc)

-- what holds of each key holds of the one that is there
pub one_of : (f : ℕ → Bool) (ks : List ℕ) (x : ℕ) → OneOf ks x → every f ks ≡ true → f x ≡ true
one_of f [] x h all = absurd h
one_of f (k ∷ []) x h all = ap f h ∙ (both (f k) true all).0
one_of f (k ∷ (l ∷ ks)) x (inl h) all = ap f h ∙ (both (f k) (every f (l ∷ ks)) all).0
one_of f (k ∷ (l ∷ ks)) x (inr h) all = one_of f (l ∷ ks) x h (both (f k) (every f (l ∷ ks)) all).1

-- the places of what is given, of the store and of its room
abbrev first : List ℕ → List ℕ
first ks = 0 ∷ 1 ∷ 2 ∷ 3 ∷ 4 ∷ 5 ∷ 6 ∷ ks

abbrev middle : List ℕ → List ℕ
middle ks = 7 ∷ 8 ∷ 9 ∷ 10 ∷ 11 ∷ 12 ∷ 13 ∷ ks

abbrev last : List ℕ
last = 14 ∷ 15 ∷ 16 ∷ 17 ∷ 18 ∷ 19 ∷ 20 ∷ []

pub past_given : {x : ℕ} → OneOf (middle last) x → 6 < x
past_given {x} h = ltb-true 6 x (one_of (ltb 6) (middle last) x h refl)

pub past_store : {x : ℕ} → OneOf (first last) x → 6 < x → 13 < x
past_store {x} h l =
    ltb-true 13 x (ap (λ b. cond b (ltb 13 x) true) (sym (lt-ltb 6 x l)) ∙ one_of (λ k. cond (ltb 6 k) (ltb 13 k) true) (first last) x h refl)

pub none_first : {x : ℕ} → OneOf (first (middle [])) x → 13 < x → ⊥
none_first {x} h l = omega (arith, ltb-true x 14 (one_of (λ k. ltb k 14) (first (middle [])) x h refl))
