-- Each id once: the ledger's list without what was seen is the store's list of distinct ids, and these are the same ids.
use Prim.Native.Nat.{ℕ}
use mathlib.Core.Path.{◌≡◌, refl, sym, ap, ◌∙◌}
use mathlib.Core.Bool.{Bool, true, false, cond, not, ◌&&◌, ◌||◌, true≢false, or-true}
use mathlib.Core.Logic.{◌⊎◌, inl, inr, ⊎_elim}
use mathlib.Core.List.Memᴰ
use mathlib.Core.List.{List, [], ◌∷◌, Memᴰ}
use Rattle.table.specs.Lists.{same, select, any_of, distinct}
use Rattle.table.proofs.Counting.{same_true, same_refl}
use Rattle.scheme.specs.Ledger.{unseen}
use Rattle.scheme.specs.Corollaries.{NoRepeats}

module _ {A : Type 0} where
  select_both : (p q : A → Bool) (l : List A) → select p (select q l) ≡ select (λ x. q x && p x) l
  select_both p q [] = refl
  select_both p q (x ∷ xs) = go (q x) (p x) refl (select_both p q xs)
    where
      go : (b a : Bool) → p x ≡ a → select p (select q xs) ≡ select (λ x. q x && p x) xs
          → select p (cond b (x ∷ select q xs) (select q xs)) ≡ cond (b && a) (x ∷ select (λ x. q x && p x) xs) (select (λ x. q x && p x) xs)
      go true true h e = rw h (ap (λ (r : List A). x ∷ r) e)
      go true false h e = rw h e
      go false a h e = e

  select_ext : (p q : A → Bool) → ((x : A) → p x ≡ q x) → (l : List A) → select p l ≡ select q l
  select_ext p q h [] = refl
  select_ext p q h (x ∷ xs) = rw (h x, select_ext p q h xs) refl

  select_all : (l : List A) → select (λ x. true) l ≡ l
  select_all [] = refl
  select_all (x ∷ xs) = ap (λ (r : List A). x ∷ r) (select_all xs)

abbrev new : List (List ℕ) → List ℕ → Bool
new seen y = not (any_of (same y) seen)

-- what was seen already is no other than what was seen
unseen_is : (seen l : List (List ℕ)) → unseen seen l ≡ select (new seen) (distinct l)
unseen_is seen [] = refl
unseen_is seen (x ∷ xs) = go (any_of (same x) seen) refl (unseen_is seen xs) (unseen_is (x ∷ seen) xs)
  where
    other : any_of (same x) seen ≡ true → (y : List ℕ) → (not (same y x) && new seen y) ≡ new seen y
    other h y = at (same y x) refl
      where
        at : (b : Bool) → same y x ≡ b → (not b && new seen y) ≡ new seen y
        at true e = sym (ap (λ (w : List ℕ). new seen w) (same_true y x e) ∙ ap not h)
        at false e = refl

    both : (y : List ℕ) → new (x ∷ seen) y ≡ (not (same y x) && new seen y)
    both y = at (same y x)
      where
        at : (b : Bool) → not (b || any_of (same y) seen) ≡ (not b && new seen y)
        at true = refl
        at false = refl

    go : (b : Bool) → any_of (same x) seen ≡ b → unseen seen xs ≡ select (new seen) (distinct xs) → unseen (x ∷ seen) xs ≡ select (new (x ∷ seen)) (distinct xs)
        → cond b (unseen seen xs) (x ∷ unseen (x ∷ seen) xs) ≡ cond (not b) (x ∷ select (new seen) (select (λ y. not (same y x)) (distinct xs))) (select (new seen) (select (λ y. not (same y x)) (distinct xs)))
    go true h e f = e ∙ sym (select_both (new seen) (λ y. not (same y x)) (distinct xs) ∙ select_ext _ _ (other h) (distinct xs))
    go false h e f =
        ap (λ (r : List (List ℕ)). x ∷ r)
        (f ∙ select_ext _ _ both (distinct xs) ∙ sym (select_both (new seen) (λ y. not (same y x)) (distinct xs)))

pub unseen-distinct : (l : List (List ℕ)) → unseen [] l ≡ distinct l
unseen-distinct l = unseen_is [] l ∙ select_all (distinct l)

-- membership as a test
pub mem_any : (id : List ℕ) (l : List (List ℕ)) → Memᴰ id l → any_of (same id) l ≡ true
mem_any id [] m = absurd (Memᴰ.not-nil m)
mem_any id (y ∷ ys) m = ⊎_elim
    (λ e. let h : same id y ≡ true = ap (same id) (sym e) ∙ same_refl id in rw h refl)
    (λ n. rw (mem_any id ys n) (or-true (same id y)))
    (Memᴰ.cases_cons m)

pub any_mem : (id : List ℕ) (l : List (List ℕ)) → any_of (same id) l ≡ true → Memᴰ id l
any_mem id [] e = absurd (true≢false (sym e))
any_mem id (y ∷ ys) e = go (same id y) refl e (any_mem id ys)
  where
    go : (b : Bool) → same id y ≡ b → (b || any_of (same id) ys) ≡ true → (any_of (same id) ys ≡ true → Memᴰ id ys) → Memᴰ id (y ∷ ys)
    go true p e k = Memᴰ.head (same_true id y p)
    go false p e k = Memᴰ.tail (k e)

-- selecting keeps what passes, and brings nothing
pub mem_select : (p : List ℕ → Bool) (id : List ℕ) → p id ≡ true → (l : List (List ℕ)) → Memᴰ id l → Memᴰ id (select p l)
mem_select p id e [] m = absurd (Memᴰ.not-nil m)
mem_select p id e (y ∷ ys) m = go (p y) refl (Memᴰ.cases_cons m) (mem_select p id e ys)
  where
    go : (b : Bool) → p y ≡ b → (id ≡ y) ⊎ Memᴰ id ys → (Memᴰ id ys → Memᴰ id (select p ys)) → Memᴰ id (cond b (y ∷ select p ys) (select p ys))
    go true h (inl q) k = Memᴰ.head q
    go true h (inr r) k = Memᴰ.tail (k r)
    go false h (inl q) k = absurd (true≢false (sym e ∙ ap p q ∙ h))
    go false h (inr r) k = k r

pub select_mem : (p : List ℕ → Bool) (id : List ℕ) (l : List (List ℕ)) → Memᴰ id (select p l) → Memᴰ id l
select_mem p id [] m = m
select_mem p id (y ∷ ys) m = go (p y) m (select_mem p id ys)
  where
    go : (b : Bool) → Memᴰ id (cond b (y ∷ select p ys) (select p ys)) → (Memᴰ id (select p ys) → Memᴰ id ys) → Memᴰ id (y ∷ ys)
    go true m k = ⊎_elim (λ q. Memᴰ.head q) (λ n. Memᴰ.tail (k n)) (Memᴰ.cases_cons m)
    go false m k = Memᴰ.tail (k m)

pub not_selected : (p : List ℕ → Bool) (id : List ℕ) → p id ≡ false → (l : List (List ℕ)) → Memᴰ id (select p l) → ⊥
not_selected p id e [] m = Memᴰ.not-nil m
not_selected p id e (y ∷ ys) m = go (p y) refl m (not_selected p id e ys)
  where
    go : (b : Bool) → p y ≡ b → Memᴰ id (cond b (y ∷ select p ys) (select p ys)) → (Memᴰ id (select p ys) → ⊥) → ⊥
    go true h m k = ⊎_elim (λ q. true≢false (sym h ∙ ap p (sym q) ∙ e)) k (Memᴰ.cases_cons m)
    go false h m k = k m

-- the distinct ids are the list's
pub distinct_has : (id : List ℕ) (l : List (List ℕ)) → Memᴰ id l → Memᴰ id (distinct l)
distinct_has id [] m = m
distinct_has id (x ∷ xs) m = go (same id x) refl (Memᴰ.cases_cons m) (distinct_has id xs)
  where
    go : (b : Bool) → same id x ≡ b → (id ≡ x) ⊎ Memᴰ id xs → (Memᴰ id xs → Memᴰ id (distinct xs)) → Memᴰ id (x ∷ select (λ y. not (same y x)) (distinct xs))
    go true h c k = Memᴰ.head (same_true id x h)
    go false h (inl q) k = Memᴰ.head q
    go false h (inr r) k = Memᴰ.tail (mem_select (λ y. not (same y x)) id (ap not h) (distinct xs) (k r))

pub distinct_mem : (id : List ℕ) (l : List (List ℕ)) → Memᴰ id (distinct l) → Memᴰ id l
distinct_mem id [] m = m
distinct_mem id (x ∷ xs) m =
    ⊎_elim (λ q. Memᴰ.head q) (λ n. Memᴰ.tail (distinct_mem id xs (select_mem (λ y. not (same y x)) id (distinct xs) n))) (Memᴰ.cases_cons m)

-- and none stands twice
no_repeats_select : (p : List ℕ → Bool) (l : List (List ℕ)) → NoRepeats l → NoRepeats (select p l)
no_repeats_select p [] h = tt
no_repeats_select p (x ∷ xs) h = go (p x) (no_repeats_select p xs h.1)
  where
    go : (b : Bool) → NoRepeats (select p xs) → NoRepeats (cond b (x ∷ select p xs) (select p xs))
    go true k = (λ m. h.0 (select_mem p x xs m), k)
    go false k = k

pub distinct_no_repeats : (l : List (List ℕ)) → NoRepeats (distinct l)
distinct_no_repeats [] = tt
distinct_no_repeats (x ∷ xs) =
    (not_selected (λ y. not (same y x)) x (ap not (same_refl x)) (distinct xs), no_repeats_select (λ y. not (same y x)) (distinct xs) (distinct_no_repeats xs))
