-- Laws of elements that equal an earlier one and of elements that another list lacks: where there are none, by counting.
use Prim.Native.Nat.{ℕ, ◌+◌, ◌≤◌}
use mathlib.Core.Path.{◌≡◌, refl, ap, ◌∙◌}
use mathlib.Core.Bool.{Bool, true, false, cond, not, ◌||◌}
use mathlib.Core.Option.{Option, none, some}
use mathlib.Core.List.{List, [], ◌∷◌}
use native.Mathlib.Omega.{arith}
use Rattle.table.specs.Lists.{bit, same, count, first, any_of, All, Same, repeats_after, repeats, lacking}
use Rattle.table.proofs.Counting.{same_true, same_refl, count_agree, count_none, count_any, none_first, first_passes, all_counted, all_map}

module _ {A : Type 0} where
  -- what holds of all holds of the first that passes
  first_all : (P : A → Type 0) (p : A → Bool) (l : List A) (x : A) → All P l → first p l ≡ some x → P x
  first_all P p [] x a e = absurd (let z : ◌≡◌ {A = ℕ} 0 1 = cc in omega arith)
  first_all P p (y ∷ ys) x a e = go (p y) e (first_all P p ys x a.1)
    where
      go : (b : Bool) → cond b (some y) (first p ys) ≡ some x → (first p ys ≡ some x → P x) → P x
      go true e k = let q : y ≡ x = cc in rw q at a.0
      go false e k = k e

  -- where each of the list stands once, whatever is counted does
  pub once_all : (f : A → List ℕ) (l : List A) → All (λ a. count (λ b. same (f a) (f b)) l ≤ 1) l → (y : List ℕ) → count (λ b. same y (f b)) l ≤ 1
  once_all f l a y = go (first (λ b. same y (f b)) l) refl
    where
      go : (o : Option A) → first (λ b. same y (f b)) l ≡ o → count (λ b. same y (f b)) l ≤ 1
      go none e = let c = none_first (λ b. same y (f b)) l e in omega arith
      go (some g) e =
          let q : y ≡ f g = same_true y (f g) (first_passes (λ b. same y (f b)) l g e) in
          rw q (first_all (λ a. count (λ b. same (f a) (f b)) l ≤ 1) (λ b. same y (f b)) l g a e)

-- ---- repeats

repeats_after_lem : (seen xs : List (List ℕ)) → ((y : List ℕ) → bit (any_of (same y) seen) + count (same y) xs ≤ 1) → repeats_after seen xs ≡ 0
repeats_after_lem seen [] h = refl
repeats_after_lem seen (x ∷ xs) h =
    let k = own in
    let r = repeats_after_lem (x ∷ seen) xs (λ y. go y (same y x) refl) in
    omega arith
  where
    own : bit (any_of (same x) seen) + (1 + count (same x) xs) ≤ 1
    own = let e : bit (same x x) ≡ 1 = ap bit (same_refl x) in let k = h x in omega arith

    go : (y : List ℕ) (b : Bool) → same y x ≡ b → bit (b || any_of (same y) seen) + count (same y) xs ≤ 1
    go y true e = let q : y ≡ x = same_true y x e in let k = own in rw q (omega arith)
    go y false e = let k = h y in let f : bit (same y x) ≡ 0 = ap bit e in omega arith

-- what stands at most once is not repeated
pub repeats_none : (xs : List (List ℕ)) → ((y : List ℕ) → count (same y) xs ≤ 1) → repeats xs ≡ 0
unfolding repeats
repeats_none xs h = repeats_after_lem [] xs (λ y. let k = h y in omega arith)

-- ---- lacking

-- lists of the same elements lack nothing of each other
pub lacking_same : (xs ys : List (List ℕ)) → Same xs ys → lacking xs ys ≡ 0
unfolding lacking
lacking_same xs ys s =
    s.counts (λ x. not (any_of (same x) ys))
    ∙ count_agree (λ y. any_of (same y) ys ≡ true) (λ y. not (any_of (same y) ys)) (λ y. false) (λ y e. ap not e) ys
    (all_map (λ y k. count_any (same y) ys (k (same y) (same_refl y))) ys (all_counted ys ys (λ p. omega arith)))
    ∙ count_none (λ y. false) (λ y. refl) ys
