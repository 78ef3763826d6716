-- The numbers below n, one after the other: a sum, a test and lists over 0 to p, as a loop goes through them.
use Prim.Native.Nat.{ℕ, zero, suc, ◌+◌, ◌*◌, ◌-◌, ◌≤◌, ◌<◌}
use mathlib.Core.Path.{◌≡◌, refl, sym, ap, ◌∙◌}
use mathlib.Core.Bool.{Bool, true, false, ◌||◌}
use mathlib.Core.List.{List, [], ◌∷◌, ◌++◌, map, map-append, append_assoc, append-nil}
use native.Mathlib.Nat.{not-suc-le-zero, add-zero, add-suc, mul-zero, mul-suc}
use native.Mathlib.Numerals.{add-one}
use native.Mathlib.Omega.{arith}
use lib.Dec.{ltb}
use lib.ListN.{length, length-append}
use borrow.Author.Tests.{ltb-true, ltb-false}
use Rattle.table.specs.Lists.{any_of, flat, sum, up_to}
use Rattle.table.proofs.Counting.{any_append}

abbrev pub below : ℕ → List ℕ
below zero = []
below (suc n) = below n ++ (n ∷ [])

pub up_to-below : (p : ℕ) → up_to p ≡ below (p + 1)
up_to-below p = go p ∙ ap below (sym (add-one p))
  where
    go : (p : ℕ) → up_to p ≡ below (suc p)
    go zero = refl
    go (suc p) = ap (λ (l : List ℕ). l ++ (suc p ∷ [])) (go p)

-- what does not fall from one number to the next
pub grows : (F : ℕ → ℕ) → ((n : ℕ) → F n ≤ F (suc n)) → (u n : ℕ) → u ≤ n → F u ≤ F n
grows F h u n l = rw (← gap) (go (n - u))
  where
    gap : u + (n - u) ≡ n
    gap = omega arith

    go : (d : ℕ) → F u ≤ F (u + d)
    go zero = rw (add-zero u) (omega arith)
    go (suc d) = rw (add-suc u d) (omega (arith, h (u + d), go d))

-- ---- lists joined

module _ {A : Type 0} where
  pub flat_append : (l r : List (List A)) → flat (l ++ r) ≡ flat l ++ flat r
  flat_append [] r = refl
  flat_append (x ∷ xs) r = ap (λ (y : List A). x ++ y) (flat_append xs r) ∙ sym (append_assoc x (flat xs) (flat r))

  -- one number further
  pub flat_next : (f : ℕ → List A) (n : ℕ) → flat (map f (below (suc n))) ≡ flat (map f (below n)) ++ f n
  flat_next f n =
      ap flat (map-append f (below n) (n ∷ [])) ∙ flat_append (map f (below n)) (f n ∷ [])
      ∙ ap (λ (l : List A). flat (map f (below n)) ++ l) (append-nil (f n))

  pub flat_grows : (f : ℕ → List A) (u n : ℕ) → u ≤ n → length (flat (map f (below u))) ≤ length (flat (map f (below n)))
  flat_grows f =
      grows (λ n. length (flat (map f (below n))))
      (λ n. omega (arith, ap length (flat_next f n), length-append (flat (map f (below n))) (f n)))

  pub flat-length-sum : (f : ℕ → List A) (l : List ℕ) → length (flat (map f l)) ≡ sum (map (λ u. length (f u)) l)
  flat-length-sum f [] = refl
  flat-length-sum f (u ∷ us) = length-append (f u) (flat (map f us)) ∙ ap (λ (n : ℕ). length (f u) + n) (flat-length-sum f us)

-- ---- sums

pub sum-le : (f g : ℕ → ℕ) → ((u : ℕ) → f u ≤ g u) → (l : List ℕ) → sum (map f l) ≤ sum (map g l)
sum-le f g h [] = omega arith
sum-le f g h (u ∷ us) = omega (arith, h u, sum-le f g h us)

sum-append : (l r : List ℕ) → sum (l ++ r) ≡ sum l + sum r
sum-append [] r = omega arith
sum-append (x ∷ xs) r = omega (arith, sum-append xs r)

pub sum_next : (f : ℕ → ℕ) (n : ℕ) → sum (map f (below (suc n))) ≡ sum (map f (below n)) + f n
sum_next f n =
    ap sum (map-append f (below n) (n ∷ [])) ∙ omega (arith, sum-append (map f (below n)) (f n ∷ []))

pub sum_grows : (f : ℕ → ℕ) (u n : ℕ) → u ≤ n → sum (map f (below u)) ≤ sum (map f (below n))
sum_grows f = grows (λ n. sum (map f (below n))) (λ n. omega (arith, sum_next f n))

-- each at most x
pub sum_most : (f : ℕ → ℕ) (x : ℕ) → ((u : ℕ) → f u ≤ x) → (n : ℕ) → sum (map f (below n)) ≤ x * n
sum_most f x h zero = omega (arith, mul-zero x)
sum_most f x h (suc n) = omega (arith, sum_next f n, h n, sum_most f x h n, mul-suc x n)

-- ---- tests

pub none_next : (p : ℕ → Bool) (n : ℕ) → any_of p (below n) ≡ false → p n ≡ false → any_of p (below (suc n)) ≡ false
none_next p n e f = any_append p (below n) (n ∷ []) ∙ rw (e, f) refl

-- one is enough
pub any_below : (p : ℕ → Bool) (u n : ℕ) → u < n → p u ≡ true → any_of p (below n) ≡ true
any_below p u zero h e = absurd (not-suc-le-zero h)
any_below p u (suc n) h e = any_append p (below n) (n ∷ []) ∙ go (ltb u n) refl (any_below p u n)
  where
    last : (a : Bool) → (a || (true || false)) ≡ true
    last true = refl
    last false = refl

    go : (b : Bool) → ltb u n ≡ b → (u < n → p u ≡ true → any_of p (below n) ≡ true) → (any_of p (below n) || (p n || false)) ≡ true
    go true q k = rw (k (ltb-true u n q) e) refl
    go false q k =
        let m : u ≡ n = omega (arith, ltb-false u n q) in
        rw (sym (ap p m) ∙ e) (last (any_of p (below n)))
