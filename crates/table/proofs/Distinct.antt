-- The distinct elements of a list: taking one out, and how many there are, whatever the order.
use Prim.Native.Nat.{ℕ, zero, suc, ◌+◌, ◌≤◌}
use mathlib.Core.Path.{◌≡◌, refl, sym, ap, ◌∙◌}
use mathlib.Core.Bool.{Bool, true, false, cond, not, ◌&&◌, ◌||◌, true≢false, and-false, not-and_self}
use mathlib.Core.List.{List, [], ◌∷◌, ◌++◌, append-nil, append_assoc}
use native.Mathlib.Nat.{zero-add}
use native.Mathlib.Omega.{arith}
use lib.ListN.{length, length-append}
use Rattle.table.specs.Lists.{bit, same, select, count, any_of, All, Same, distinct}
use Rattle.table.proofs.Counting.{same_true, same_refl, same_sym, ne_same, count-select, count_split, count_ext, count_none, select-append, any_count, none_any, count_any, Same-select, same_length}

abbrev pub without : List ℕ → List (List ℕ) → List (List ℕ)
without x l = select (λ y. not (same y x)) l

module _ {A : Type 0} where
  select_comm : (p q : A → Bool) (l : List A) → select p (select q l) ≡ select q (select p l)
  select_comm p q [] = refl
  select_comm p q (x ∷ xs) = go (p x) (q x) refl refl (select_comm p q xs)
    where
      go : (a b : Bool) → p x ≡ a → q x ≡ b → select p (select q xs) ≡ select q (select p xs)
          → select p (cond b (x ∷ select q xs) (select q xs)) ≡ select q (cond a (x ∷ select p xs) (select p xs))
      go true true h k e = rw (h, k) (ap (λ (r : List A). x ∷ r) e)
      go true false h k e = rw k e
      go false true h k e = rw h e
      go false false h k e = e

  select_twice : (p : A → Bool) (l : List A) → select p (select p l) ≡ select p l
  select_twice p [] = refl
  select_twice p (x ∷ xs) = go (p x) refl (select_twice p xs)
    where
      go : (a : Bool) → p x ≡ a → select p (select p xs) ≡ select p xs → select p (cond a (x ∷ select p xs) (select p xs)) ≡ cond a (x ∷ select p xs) (select p xs)
      go true h e = rw h (ap (λ (r : List A). x ∷ r) e)
      go false h e = e

-- the first element taken out of its list
pub without_self : (x : List ℕ) (l : List (List ℕ)) → without x (x ∷ l) ≡ without x l
without_self x l = rw (same_refl x) refl

pub distinct_without : (x : List ℕ) (l : List (List ℕ)) → distinct (without x l) ≡ without x (distinct l)
distinct_without x [] = refl
distinct_without x (y ∷ ys) = go (same y x) refl (distinct_without x ys)
  where
    go : (b : Bool) → same y x ≡ b → distinct (without x ys) ≡ without x (distinct ys)
        → distinct (cond (not b) (y ∷ without x ys) (without x ys)) ≡ cond (not b) (y ∷ without x (without y (distinct ys))) (without x (without y (distinct ys)))
    go true h e =
        e ∙ sym (ap (λ (w : List ℕ). without x (without w (distinct ys))) (same_true y x h) ∙ select_twice (λ w. not (same w x)) (distinct ys))
    go false h e =
        ap (λ (r : List (List ℕ)). y ∷ without y r) e
        ∙ ap (λ (r : List (List ℕ)). y ∷ r) (select_comm (λ w. not (same w y)) (λ w. not (same w x)) (distinct ys))

-- an element of the list stands once among the distinct ones
distinct_once : (x : List ℕ) (l : List (List ℕ)) → count (λ y. same y x) (distinct l) ≡ bit (any_of (λ y. same y x) l)
distinct_once x [] = refl
distinct_once x (y ∷ ys) = go (same y x) refl (distinct_once x ys)
  where
    keep : same y x ≡ false → (z : List ℕ) → (not (same z y) && same z x) ≡ same z x
    keep h z = at (same z x) refl
      where
        at : (b : Bool) → same z x ≡ b → (not (same z y) && b) ≡ b
        at true e =
            let f : same z y ≡ false = ne_same z y (λ w. true≢false (sym (rw (sym w ∙ same_true z x e) (same_refl x)) ∙ h)) in
            rw f refl
        at false e = and-false (not (same z y))

    go : (b : Bool) → same y x ≡ b → count (λ z. same z x) (distinct ys) ≡ bit (any_of (λ z. same z x) ys)
        → bit b + count (λ z. same z x) (without y (distinct ys)) ≡ bit (b || any_of (λ z. same z x) ys)
    go true h e =
        let f : count (λ z. same z x) (without y (distinct ys)) ≡ 0 =
        ap (λ (w : List ℕ). count (λ z. same z x) (without w (distinct ys))) (same_true y x h)
        ∙ count-select (λ z. not (same z x)) (λ z. same z x) (distinct ys)
        ∙ count_none (λ z. not (same z x) && same z x) (λ z. not-and_self (same z x)) (distinct ys) in
        omega arith
    go false h e =
        let f : count (λ z. same z x) (without y (distinct ys)) ≡ count (λ z. same z x) (distinct ys) =
        count-select (λ z. not (same z y)) (λ z. same z x) (distinct ys)
        ∙ count_ext (λ z. not (same z y) && same z x) (λ z. same z x) (keep h) (distinct ys) in
        zero-add _ ∙ f ∙ e

-- one distinct element taken out
pub distinct_split : (x : List ℕ) (l : List (List ℕ)) → length (distinct l) ≡ bit (any_of (λ y. same y x) l) + length (distinct (without x l))
distinct_split x l =
    let a = count_split (λ y. same y x) (distinct l) in
    let b = distinct_once x l in
    let c = ap length (distinct_without x l) in
    omega arith

pub any_same : (p : List ℕ → Bool) (l r : List (List ℕ)) → Same l r → any_of p l ≡ any_of p r
any_same p l r s = go (any_of p l) refl
  where
    go : (b : Bool) → any_of p l ≡ b → b ≡ any_of p r
    go true e = let h = any_count p l e in let k = s.counts p in sym (count_any p r (omega arith))
    go false e = go2 (any_of p r) refl
      where
        go2 : (c : Bool) → any_of p r ≡ c → false ≡ c
        go2 true f = let h = any_count p r f in let k = s.counts p in absurd (true≢false (sym (count_any p l (omega arith)) ∙ e))
        go2 false f = refl

distinct_step : (n : ℕ) (l r : List (List ℕ)) → length l ≤ n → Same l r
    → ((m : ℕ) (l r : List (List ℕ)) → suc m ≤ n → length l ≤ m → Same l r → length (distinct l) ≡ length (distinct r)) → length (distinct l) ≡ length (distinct r)
distinct_step n [] [] h s k = refl
distinct_step n [] (y ∷ ys) h s k = absurd (let e = same_length [] (y ∷ ys) s in omega arith)
distinct_step n (x ∷ xs) r h s k =
    let a = count_split (λ y. same y x) xs in
    let e = ap length (without_self x xs) in
    let w = k (length xs) (without x (x ∷ xs)) (without x r) h (omega arith) (Same-select (λ y. not (same y x)) (x ∷ xs) r s) in
    let b = distinct_split x (x ∷ xs) in
    let c = distinct_split x r in
    let d : bit (any_of (λ y. same y x) (x ∷ xs)) ≡ bit (any_of (λ y. same y x) r) = ap bit (any_same (λ y. same y x) (x ∷ xs) r s) in
    omega arith

distinct_same_to : (n : ℕ) (l r : List (List ℕ)) → length l ≤ n → Same l r → length (distinct l) ≡ length (distinct r)
distinct_same_to zero l r h s = distinct_step zero l r h s (λ m l r b. absurd (omega arith))
distinct_same_to (suc n) l r h s = distinct_step (suc n) l r h s (λ m l r b h s. distinct_same_to n l r (omega arith) s)

pub distinct_same : (l r : List (List ℕ)) → Same l r → length (distinct l) ≡ length (distinct r)
distinct_same l r s = distinct_same_to (length l) l r (omega arith) s

-- one element more: a distinct one more, unless it was there
pub distinct_more : (x : List ℕ) (l : List (List ℕ)) → length (distinct (x ∷ l)) + bit (any_of (λ y. same y x) l) ≡ suc (length (distinct l))
distinct_more x l =
    let a = distinct_split x l in
    let b : length (without x (distinct l)) ≡ length (distinct (without x l)) = ap length (sym (distinct_without x l)) in
    omega arith

-- one element more at the end: it comes last, unless it was there
pub distinct_end : (x : List ℕ) (l : List (List ℕ)) → distinct (l ++ (x ∷ [])) ≡ cond (any_of (λ y. same y x) l) (distinct l) (distinct l ++ (x ∷ []))
distinct_end x [] = refl
distinct_end x (z ∷ zs) = ap (λ (r : List (List ℕ)). z ∷ without z r) (distinct_end x zs) ∙ go (any_of (λ y. same y x) zs) (same z x) refl
  where
    more : without z (distinct zs ++ (x ∷ [])) ≡ without z (distinct zs) ++ cond (not (same x z)) (x ∷ []) []
    more = select-append (λ y. not (same y z)) (distinct zs) (x ∷ [])

    go : (a b : Bool) → same z x ≡ b → z ∷ without z (cond a (distinct zs) (distinct zs ++ (x ∷ [])))
        ≡ cond (b || a) (z ∷ without z (distinct zs)) ((z ∷ without z (distinct zs)) ++ (x ∷ []))
    go true true h = refl
    go true false h = refl
    go false true h = ap (λ (r : List (List ℕ)). z ∷ r) (more ∙ rw (same_sym x z ∙ h) (append-nil (without z (distinct zs))))
    go false false h = ap (λ (r : List (List ℕ)). z ∷ r) (more ∙ rw (same_sym x z ∙ h) refl)

distinct_next : (x : List ℕ) (l : List (List ℕ)) → length (distinct l) ≤ length (distinct (l ++ (x ∷ [])))
distinct_next x l = go (any_of (λ y. same y x) l) (ap length (distinct_end x l))
  where
    go : (a : Bool) → length (distinct (l ++ (x ∷ []))) ≡ length (cond a (distinct l) (distinct l ++ (x ∷ []))) → length (distinct l) ≤ length (distinct (l ++ (x ∷ [])))
    go true e = omega arith
    go false e = omega (arith, e, length-append (distinct l) (x ∷ []))

-- a longer list has no fewer
pub distinct_grows : (l r : List (List ℕ)) → length (distinct l) ≤ length (distinct (l ++ r))
distinct_grows l [] = rw (append-nil l) (omega arith)
distinct_grows l (x ∷ xs) =
    let e = ap (λ (a : List (List ℕ)). length (distinct a)) (append_assoc l (x ∷ []) xs) in
    omega (arith, distinct_next x l, distinct_grows (l ++ (x ∷ [])) xs, e)

pub any_distinct : (x : List ℕ) (l : List (List ℕ)) → any_of (λ y. same y x) (distinct l) ≡ any_of (λ y. same y x) l
any_distinct x l = go (any_of (λ y. same y x) l) (distinct_once x l)
  where
    go : (b : Bool) → count (λ y. same y x) (distinct l) ≡ bit b → any_of (λ y. same y x) (distinct l) ≡ b
    go true e = count_any (λ y. same y x) (distinct l) (omega arith)
    go false e = none_any (λ y. same y x) (distinct l) e

-- no more than the list has, and no more than any list that has them all
pub distinct_few : (l : List (List ℕ)) → length (distinct l) ≤ length l
distinct_few [] = omega arith
distinct_few (x ∷ xs) = omega (arith, distinct_few xs, count_split (λ y. same y x) (distinct xs))

abbrev pub Within : List (List ℕ) → List (List ℕ) → Type 0
Within r l = All (λ x. any_of (λ y. same y x) r ≡ true) l

within_without : (y : List ℕ) (ys l : List (List ℕ)) → Within (y ∷ ys) l → Within ys (without y l)
within_without y ys [] h = tt
within_without y ys (x ∷ xs) h = go (same x y) refl h.0 (within_without y ys xs h.1)
  where
    go : (b : Bool) → same x y ≡ b → (same y x || any_of (λ z. same z x) ys) ≡ true → Within ys (without y xs) → Within ys (cond (not b) (x ∷ without y xs) (without y xs))
    go true e k w = w
    go false e k w = (sym (rw (same_sym y x ∙ e) refl) ∙ k, w)

pub distinct_within : (r l : List (List ℕ)) → Within r l → length (distinct l) ≤ length r
distinct_within [] [] h = omega arith
distinct_within [] (x ∷ xs) h = absurd (true≢false (sym h.0))
distinct_within (y ∷ ys) l h = go (any_of (λ z. same z y) l) (distinct_split y l) (distinct_within ys (without y l) (within_without y ys l h))
  where
    go : (b : Bool) → length (distinct l) ≡ bit b + length (distinct (without y l)) → length (distinct (without y l)) ≤ length ys → length (distinct l) ≤ suc (length ys)
    go true e k = omega arith
    go false e k = omega arith
