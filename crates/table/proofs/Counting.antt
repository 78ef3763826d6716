-- Laws of the tests on lists. Order is set aside by counting: two lists are the same where every test counts alike in both.
use Prim.Native.Nat.{ℕ, suc, ◌+◌, ◌≤◌}
use mathlib.Core.Path.{◌≡◌, refl, sym, ap, ◌∙◌}
use mathlib.Core.Bool.{Bool, true, false, cond, not, ◌&&◌, ◌||◌, true≢false}
use mathlib.Core.Logic.{◌⊎◌, inl, inr}
use mathlib.Core.Option.{Option, none, some}
use mathlib.Core.List.{List, [], ◌∷◌, ◌++◌, map}
use native.Mathlib.Omega.{arith}
use lib.Dec.{eqb}
use lib.ListN.{length}
use borrow.Author.Tests.{eqb-true, eq-eqb}
use Rattle.table.specs.Lists.{bit, same, select, count, first, any_of, All, Same}

-- ---- tests

pub both : (a b : Bool) → (a && b) ≡ true → (a ≡ true) × (b ≡ true)
both true b e = (refl, e)
both false b e = absurd (true≢false (sym e))

pub neither : (a b : Bool) → (a || b) ≡ false → (a ≡ false) × (b ≡ false)
neither true b e = absurd (true≢false e)
neither false b e = (refl, e)

pub cases : (b : Bool) → (b ≡ true) ⊎ (b ≡ false)
cases true = inl refl
cases false = inr refl

pub same_true : (a b : List ℕ) → same a b ≡ true → a ≡ b
same_true [] [] e = refl
same_true [] (y ∷ ys) e = absurd (true≢false (sym e))
same_true (x ∷ xs) [] e = absurd (true≢false (sym e))
same_true (x ∷ xs) (y ∷ ys) e =
    let h = both (eqb x y) (same xs ys) e in
    let p : x ≡ y = eqb-true x y h.0 in
    let q : xs ≡ ys = same_true xs ys h.1 in
    cc

pub same_refl : (a : List ℕ) → same a a ≡ true
same_refl [] = refl
same_refl (x ∷ xs) = rw (eq-eqb x x refl) (same_refl xs)

pub same-eq : (a b : List ℕ) → a ≡ b → same a b ≡ true
same-eq a b e = rw e (same_refl b)

pub ne_same : (a b : List ℕ) → (a ≡ b → ⊥) → same a b ≡ false
ne_same a b h = go (same a b) refl
  where
    go : (t : Bool) → same a b ≡ t → t ≡ false
    go true e = absurd (h (same_true a b e))
    go false e = refl

pub same_ne : (a b : List ℕ) → same a b ≡ false → a ≡ b → ⊥
same_ne a b e h = true≢false (sym (same-eq a b h) ∙ e)

pub same_sym : (a b : List ℕ) → same a b ≡ same b a
same_sym a b = go (same a b) refl
  where
    go : (t : Bool) → same a b ≡ t → t ≡ same b a
    go true e = sym (same-eq b a (sym (same_true a b e)))
    go false e = sym (ne_same b a (λ h. same_ne a b e (sym h)))

-- ---- counting

module _ {A : Type 0} where
  pub count-append : (p : A → Bool) (l r : List A) → count p (l ++ r) ≡ count p l + count p r
  count-append p [] r = omega arith
  count-append p (x ∷ xs) r = let e = count-append p xs r in omega arith

  pub count-length : (l : List A) → count (λ x. true) l ≡ length l
  count-length [] = refl
  count-length (x ∷ xs) = let e = count-length xs in omega arith

  pub count-le : (p : A → Bool) (l : List A) → count p l ≤ length l
  count-le p [] = omega arith
  count-le p (x ∷ xs) = go (p x) (count-le p xs)
    where
      go : (b : Bool) → count p xs ≤ length xs → bit b + count p xs ≤ suc (length xs)
      go true h = omega arith
      go false h = omega arith

  pub count-select : (p q : A → Bool) (l : List A) → count q (select p l) ≡ count (λ x. p x && q x) l
  count-select p q [] = refl
  count-select p q (x ∷ xs) = go (p x) (count-select p q xs)
    where
      go : (b : Bool) → count q (select p xs) ≡ count (λ y. p y && q y) xs → count q (cond b (x ∷ select p xs) (select p xs)) ≡ bit (b && q x) + count (λ y. p y && q y) xs
      go true e = omega arith
      go false e = omega arith

  pub select-append : (p : A → Bool) (l r : List A) → select p (l ++ r) ≡ select p l ++ select p r
  select-append p [] r = refl
  select-append p (y ∷ ys) r = go (p y) (select-append p ys r)
    where
      go : (b : Bool) → select p (ys ++ r) ≡ select p ys ++ select p r → cond b (y ∷ select p (ys ++ r)) (select p (ys ++ r)) ≡ cond b (y ∷ select p ys) (select p ys) ++ select p r
      go true e = ap (λ (l : List A). y ∷ l) e
      go false e = e

  -- those that pass and those that do not
  pub count_split : (p : A → Bool) (l : List A) → length l ≡ count p l + length (select (λ x. not (p x)) l)
  count_split p [] = refl
  count_split p (x ∷ xs) = go (p x) (count_split p xs)
    where
      go : (b : Bool) → length xs ≡ count p xs + length (select (λ y. not (p y)) xs)
          → suc (length xs) ≡ bit b + count p xs + length (cond (not b) (x ∷ select (λ y. not (p y)) xs) (select (λ y. not (p y)) xs))
      go true e = omega arith
      go false e = omega arith

  -- tests that agree where P holds
  pub count_agree : (P : A → Type 0) (p q : A → Bool) → ((x : A) → P x → p x ≡ q x) → (l : List A) → All P l → count p l ≡ count q l
  count_agree P p q h [] a = refl
  count_agree P p q h (x ∷ xs) a = let e = count_agree P p q h xs a.1 in rw (h x a.0) (ap (λ (n : ℕ). bit (q x) + n) e)

  pub count_ext : (p q : A → Bool) → ((x : A) → p x ≡ q x) → (l : List A) → count p l ≡ count q l
  count_ext p q h [] = refl
  count_ext p q h (x ∷ xs) = let e = count_ext p q h xs in rw (h x) (ap (λ (n : ℕ). bit (q x) + n) e)

  pub count_none : (p : A → Bool) → ((x : A) → p x ≡ false) → (l : List A) → count p l ≡ 0
  count_none p h [] = refl
  count_none p h (x ∷ xs) = let e = count_none p h xs in rw (h x) (omega arith)

  pub select_agree : (P : A → Type 0) (p q : A → Bool) → ((x : A) → P x → p x ≡ q x) → (l : List A) → All P l → select p l ≡ select q l
  select_agree P p q h [] a = refl
  select_agree P p q h (x ∷ xs) a = rw (h x a.0, select_agree P p q h xs a.1) refl

  pub first_agree : (P : A → Type 0) (p q : A → Bool) → ((x : A) → P x → p x ≡ q x) → (l : List A) → All P l → first p l ≡ first q l
  first_agree P p q h [] a = refl
  first_agree P p q h (x ∷ xs) a = rw (h x a.0, first_agree P p q h xs a.1) refl

  -- a stricter test counts fewer
  pub count_stricter : (p q : A → Bool) → ((x : A) → p x ≡ true → q x ≡ true) → (l : List A) → count p l ≤ count q l
  count_stricter p q h [] = omega arith
  count_stricter p q h (x ∷ xs) = go (p x) (q x) (h x) (count_stricter p q h xs)
    where
      go : (a b : Bool) → (a ≡ true → b ≡ true) → count p xs ≤ count q xs → bit a + count p xs ≤ bit b + count q xs
      go true true k e = omega arith
      go true false k e = absurd (true≢false (sym (k refl)))
      go false true k e = omega arith
      go false false k e = omega arith

  pub all_append : (P : A → Type 0) (l r : List A) → All P l → All P r → All P (l ++ r)
  all_append P [] r a b = b
  all_append P (x ∷ xs) r a b = (a.0, all_append P xs r a.1 b)

  pub all_select : (P : A → Type 0) (p : A → Bool) (l : List A) → All P l → All P (select p l)
  all_select P p [] a = tt
  all_select P p (x ∷ xs) a = go (p x) (all_select P p xs a.1)
    where
      go : (b : Bool) → All P (select p xs) → All P (cond b (x ∷ select p xs) (select p xs))
      go true r = (a.0, r)
      go false r = r

  pub all_map : {P Q : A → Type 0} → ((x : A) → P x → Q x) → (l : List A) → All P l → All Q l
  all_map h [] a = tt
  all_map h (x ∷ xs) a = (h x a.0, all_map h xs a.1)

  pub any_append : (p : A → Bool) (l r : List A) → any_of p (l ++ r) ≡ (any_of p l || any_of p r)
  any_append p [] r = refl
  any_append p (x ∷ xs) r = go (p x) (any_append p xs r)
    where
      go : (b : Bool) → any_of p (xs ++ r) ≡ (any_of p xs || any_of p r) → (b || any_of p (xs ++ r)) ≡ ((b || any_of p xs) || any_of p r)
      go true e = refl
      go false e = e

  -- a test that one element passes counts at least one
  pub any_count : (p : A → Bool) (l : List A) → any_of p l ≡ true → 1 ≤ count p l
  any_count p [] e = absurd (true≢false (sym e))
  any_count p (x ∷ xs) e = go (p x) e (any_count p xs)
    where
      go : (b : Bool) → (b || any_of p xs) ≡ true → (any_of p xs ≡ true → 1 ≤ count p xs) → 1 ≤ bit b + count p xs
      go true e k = omega arith
      go false e k = let h = k e in omega arith

  pub any_none : (p : A → Bool) (l : List A) → any_of p l ≡ false → count p l ≡ 0
  any_none p [] e = refl
  any_none p (x ∷ xs) e = let h = neither (p x) (any_of p xs) e in rw h.0 (let k = any_none p xs h.1 in omega arith)

  pub none_any : (p : A → Bool) (l : List A) → count p l ≡ 0 → any_of p l ≡ false
  none_any p l h = go (any_of p l) refl
    where
      go : (b : Bool) → any_of p l ≡ b → b ≡ false
      go true e = let k = any_count p l e in absurd (let z : 1 ≤ 0 = (rw h at k) in omega arith)
      go false e = refl

  pub count_any : (p : A → Bool) (l : List A) → 1 ≤ count p l → any_of p l ≡ true
  count_any p l h = go (any_of p l) refl
    where
      go : (b : Bool) → any_of p l ≡ b → b ≡ true
      go true e = refl
      go false e = let k = any_none p l e in absurd (omega arith)

  -- ---- the first that passes

  pub first-none : (p : A → Bool) (l : List A) → count p l ≡ 0 → first p l ≡ none
  first-none p [] e = refl
  first-none p (x ∷ xs) e = go (p x) e (first-none p xs)
    where
      go : (b : Bool) → bit b + count p xs ≡ 0 → (count p xs ≡ 0 → first p xs ≡ none) → cond b (some x) (first p xs) ≡ none
      go true e k = absurd (omega arith)
      go false e k = k (omega arith)

  pub none_first : (p : A → Bool) (l : List A) → first p l ≡ none → count p l ≡ 0
  none_first p [] e = refl
  none_first p (x ∷ xs) e = go (p x) e (none_first p xs)
    where
      go : (b : Bool) → cond b (some x) (first p xs) ≡ none → (first p xs ≡ none → count p xs ≡ 0) → bit b + count p xs ≡ 0
      go true e k = absurd (let z : ◌≡◌ {A = ℕ} 0 1 = cc in omega arith)
      go false e k = let h = k e in omega arith

  pub first_passes : (p : A → Bool) (l : List A) (x : A) → first p l ≡ some x → p x ≡ true
  first_passes p [] x e = absurd (let z : ◌≡◌ {A = ℕ} 0 1 = cc in omega arith)
  first_passes p (y ∷ ys) x e = go (p y) refl e (first_passes p ys x)
    where
      go : (b : Bool) → p y ≡ b → cond b (some y) (first p ys) ≡ some x → (first p ys ≡ some x → p x ≡ true) → p x ≡ true
      go true h e k = let q : y ≡ x = cc in rw (← q) h
      go false h e k = k e

  abbrev pub only_if : (A → Bool) → Option A → Option A
  only_if r none = none
  only_if r (some x) = cond (r x) (some x) none

  -- what passes once, among those selected
  pub first-select : (q r : A → Bool) (l : List A) → count q l ≤ 1 → first q (select r l) ≡ only_if r (first q l)
  first-select q r [] h = refl
  first-select q r (x ∷ xs) h = go (q x) (r x) refl refl h (first-select q r xs)
    where
      go : (a b : Bool) → q x ≡ a → r x ≡ b → bit a + count q xs ≤ 1 → (count q xs ≤ 1 → first q (select r xs) ≡ only_if r (first q xs))
          → first q (cond b (x ∷ select r xs) (select r xs)) ≡ only_if r (cond a (some x) (first q xs))
      go true true e f h k = rw (e, f) refl
      go true false e f h k =
          let w = count-select r q xs in
          let v = count_stricter (λ y. r y && q y) q (λ y u. (both (r y) (q y) u).1) xs in
          rw f (first-none q (select r xs) (omega arith))
      go false true e f h k = rw e (k (omega arith))
      go false false e f h k = k (omega arith)

  -- each element passes the tests that it passes
  pub all_counted : (G l : List A) → ((p : A → Bool) → count p l ≤ count p G) → All (λ g. (p : A → Bool) → p g ≡ true → 1 ≤ count p G) l
  all_counted G [] h = tt
  all_counted G (x ∷ xs) h =
      ((λ p e. let w = h p in let b : bit (p x) ≡ 1 = ap bit e in omega arith), all_counted G xs (λ p. let w = h p in omega arith))

  pub all_both : (P Q : A → Type 0) (l : List A) → All P l → All Q l → All (λ g. P g × Q g) l
  all_both P Q [] a b = tt
  all_both P Q (x ∷ xs) a b = ((a.0, b.0), all_both P Q xs a.1 b.1)

  -- ---- the same elements

  pub same_length : (l r : List A) → Same l r → length l ≡ length r
  same_length l r s = sym (count-length l) ∙ s.counts (λ x. true) ∙ count-length r

  pub Same-refl : (l : List A) → Same l l
  Same-refl l = record { counts = λ p. refl }

  pub Same-trans : (l m r : List A) → Same l m → Same m r → Same l r
  Same-trans l m r s t = record { counts = λ p. s.counts p ∙ t.counts p }

  pub Same-sym : (l r : List A) → Same l r → Same r l
  Same-sym l r s = record { counts = λ p. sym (s.counts p) }

  pub Same-cons : (x : A) (l r : List A) → Same l r → Same (x ∷ l) (x ∷ r)
  Same-cons x l r s = record { counts = λ p. ap (λ (n : ℕ). bit (p x) + n) (s.counts p) }

  pub Same-select : (q : A → Bool) (l r : List A) → Same l r → Same (select q l) (select q r)
  Same-select q l r s = record { counts = λ p. count-select q p l ∙ s.counts (λ x. q x && p x) ∙ sym (count-select q p r) }

module _ {A B : Type 0} where
  pub count_map : (f : A → B) (p : B → Bool) (l : List A) → count p (map f l) ≡ count (λ x. p (f x)) l
  count_map f p [] = refl
  count_map f p (x ∷ xs) = ap (λ (n : ℕ). bit (p (f x)) + n) (count_map f p xs)

  pub select-map : (f : A → B) (p : B → Bool) (l : List A) → select p (map f l) ≡ map f (select (λ x. p (f x)) l)
  select-map f p [] = refl
  select-map f p (x ∷ xs) = go (p (f x)) (select-map f p xs)
    where
      go : (b : Bool) → select p (map f xs) ≡ map f (select (λ y. p (f y)) xs)
          → cond b (f x ∷ select p (map f xs)) (select p (map f xs)) ≡ map f (cond b (x ∷ select (λ y. p (f y)) xs) (select (λ y. p (f y)) xs))
      go true e = ap (λ (r : List B). f x ∷ r) e
      go false e = e

  pub Same-map : (f : A → B) (l r : List A) → Same l r → Same (map f l) (map f r)
  Same-map f l r s = record { counts = λ p. count_map f p l ∙ s.counts (λ x. p (f x)) ∙ sym (count_map f p r) }

  abbrev pub on_some : (A → B) → Option A → Option B
  on_some f none = none
  on_some f (some x) = some (f x)

  pub first-map : (f : A → B) (p : B → Bool) (l : List A) → first p (map f l) ≡ on_some f (first (λ x. p (f x)) l)
  first-map f p [] = refl
  first-map f p (x ∷ xs) = go (p (f x)) (first-map f p xs)
    where
      go : (b : Bool) → first p (map f xs) ≡ on_some f (first (λ y. p (f y)) xs) → cond b (some (f x)) (first p (map f xs)) ≡ on_some f (cond b (some x) (first (λ y. p (f y)) xs))
      go true e = refl
      go false e = e

-- where a test counts one, and one that is x, the first that passes is x
first_is : (q : List ℕ → Bool) (x : List ℕ) (l : List (List ℕ)) → count q l ≡ 1 → count (λ y. q y && same y x) l ≡ 1 → first q l ≡ some x
first_is q x [] e f = absurd (omega arith)
first_is q x (y ∷ ys) e f = go (q y) (same y x) refl e f (first_is q x ys)
  where
    less : count (λ z. q z && same z x) ys ≤ count q ys
    less = count_stricter (λ z. q z && same z x) q (λ z h. (both (q z) (same z x) h).0) ys

    go : (a b : Bool) → same y x ≡ b → bit a + count q ys ≡ 1 → bit (a && b) + count (λ z. q z && same z x) ys ≡ 1
        → (count q ys ≡ 1 → count (λ z. q z && same z x) ys ≡ 1 → first q ys ≡ some x) → cond a (some y) (first q ys) ≡ some x
    go true true h e f k = ap some (same_true y x h)
    go true false h e f k = absurd (let w = less in omega arith)
    go false b h e f k = k (omega arith) (omega arith)

-- what passes once is found alike in both
pub first_same : (q : List ℕ → Bool) (l r : List (List ℕ)) → Same l r → count q l ≤ 1 → first q l ≡ first q r
first_same q l r s h = go (first q l) refl
  where
    once : (x : List ℕ) (m : List (List ℕ)) → first q m ≡ some x → count q m ≤ 1 → (count q m ≡ 1) × (count (λ y. q y && same y x) m ≡ 1)
    once x [] e h = absurd (let z : ◌≡◌ {A = ℕ} 0 1 = cc in omega arith)
    once x (y ∷ ys) e h = go (q y) e h (once x ys)
      where
        go : (b : Bool) → cond b (some y) (first q ys) ≡ some x → bit b + count q ys ≤ 1 → (first q ys ≡ some x → count q ys ≤ 1 → (count q ys ≡ 1) × (count (λ y. q y && same y x) ys ≡ 1)) → (bit b + count q ys ≡ 1) × (bit (b && same y x) + count (λ y. q y && same y x) ys ≡ 1)
        go true e h k =
            let p : y ≡ x = cc in
            let z : count q ys ≡ 0 = omega arith in
            let w : count (λ y. q y && same y x) ys ≤ count q ys = count_stricter (λ z. q z && same z x) q (λ z h. (both (q z) (same z x) h).0) ys in
            rw (same-eq y x p) (omega arith, omega arith)
        go false e h k = let w = k e (omega arith) in (omega arith, omega arith)

    go : (o : Option (List ℕ)) → first q l ≡ o → o ≡ first q r
    go none e = sym (first-none q r (sym (s.counts q) ∙ none_first q l e))
    go (some x) e =
        let w = once x l e h in
        sym (first_is q x r (sym (s.counts q) ∙ w.0) (sym (s.counts (λ y. q y && same y x)) ∙ w.1))
