-- Laws of the ordered refusals: two lists one after the other, and what holds where nothing refuses.
use Prim.Native.Nat.{ℕ, ◌+◌, ◌≤◌}
use mathlib.Core.Path.{◌≡◌, refl, sym, ap, ◌∙◌}
use mathlib.Core.Bool.{Bool, true, false, cond, not, ◌||◌}
use mathlib.Core.Logic.{◌⊎◌, inl, inr}
use mathlib.Core.Option.{Option, none, some}
use mathlib.Core.List.{List, [], ◌∷◌, ◌++◌, map}
use native.Mathlib.Omega.{arith}
use lib.Dec.{eqb, ltb}
use lib.ListN.{length}
use borrow.Author.Tests.{eqb-true, eq-eqb, not-false, ltb-true, ltb-false, lt-ltb, le-ltb}
use Rattle.answer.specs.Answer.{Answer, done, refused, without_rows}
use Rattle.table.specs.Lists.{any_of, up_to}
use Rattle.scheme.specs.Refusals.{length_not}
use Rattle.answer.specs.Verdict.{Test, ◌⇒◌, ◌⇒◌carrying◌, verdict, answer_or}

abbrev pub or_else : Option Answer → Option Answer → Option Answer
or_else none o = o
or_else (some r) o = some r

pub verdict-append : (a b : List Test) → verdict (a ++ b) ≡ or_else (verdict a) (verdict b)
verdict-append [] b = refl
verdict-append ((t ⇒ n) ∷ ts) b = go t (verdict-append ts b)
  where
    go : (t : Bool) → verdict (ts ++ b) ≡ or_else (verdict ts) (verdict b) → cond t (some (refused n [])) (verdict (ts ++ b)) ≡ or_else (cond t (some (refused n [])) (verdict ts)) (verdict b)
    go true e = refl
    go false e = e
verdict-append ((t ⇒ n carrying l) ∷ ts) b = go t (verdict-append ts b)
  where
    go : (t : Bool) → verdict (ts ++ b) ≡ or_else (verdict ts) (verdict b) → cond t (some (refused n l)) (verdict (ts ++ b)) ≡ or_else (cond t (some (refused n l)) (verdict ts)) (verdict b)
    go true e = refl
    go false e = e

pub or_none : (o : Option Answer) → or_else o none ≡ o
or_none none = refl
or_none (some r) = refl

-- the view without the rows looked at changes no refusal
pub view_refused : (ts : List Test) (r : Answer) → verdict ts ≡ some r → without_rows r ≡ r
view_refused [] r e = absurd (let z : ◌≡◌ {A = ℕ} 0 1 = cc in omega arith)
view_refused ((b ⇒ n) ∷ ts) r e = go b e (view_refused ts r)
  where
    go : (b : Bool) → cond b (some (refused n [])) (verdict ts) ≡ some r → (verdict ts ≡ some r → without_rows r ≡ r) → without_rows r ≡ r
    go true f h = let g : refused n [] ≡ r = cc in rw (← g) refl
    go false f h = h f
view_refused ((b ⇒ n carrying l) ∷ ts) r e = go b e (view_refused ts r)
  where
    go : (b : Bool) → cond b (some (refused n l)) (verdict ts) ≡ some r → (verdict ts ≡ some r → without_rows r ≡ r) → without_rows r ≡ r
    go true f h = let g : refused n l ≡ r = cc in rw (← g) refl
    go false f h = h f

pub view_or : (ts : List Test) (n rows : ℕ) → without_rows (answer_or (verdict ts) (done (n ∷ rows ∷ []))) ≡ answer_or (verdict ts) (done (n ∷ []))
view_or ts n rows = go (verdict ts) refl
  where
    go : (o : Option Answer) → verdict ts ≡ o → without_rows (answer_or o (done (n ∷ rows ∷ []))) ≡ answer_or o (done (n ∷ []))
    go none e = refl
    go (some r) e = view_refused ts r e

-- where nothing refuses, the first condition does not hold, nor any later
pub passed : (t : Bool) (r : Answer) (rest : Option Answer) → cond t (some r) rest ≡ none → (t ≡ false) × (rest ≡ none)
passed true r rest e = absurd (let z : ◌≡◌ {A = ℕ} 0 1 = cc in omega arith)
passed false r rest e = (refl, e)

pub both_none : (o q : Option Answer) → or_else o q ≡ none → (o ≡ none) × (q ≡ none)
both_none none q e = (refl, e)
both_none (some r) q e = absurd (let w : ◌≡◌ {A = ℕ} 0 1 = cc in omega arith)

-- where nothing refuses, nothing after a part of the list does
pub after_none : (a b : List Test) → verdict (a ++ b) ≡ none → verdict b ≡ none
after_none a b e = (both_none (verdict a) (verdict b) (sym (verdict-append a b) ∙ e)).1

pub length_passed : (n : ℕ) (l : List ℕ) → length_not n l ≡ false → length l ≡ n
length_passed n l e = eqb-true (length l) n (not-false (eqb (length l) n) e)

-- a key in the list that 1 does not refuse is K
pub key_is : (K key : List ℕ) → (key ≡ K) ⊎ (length key ≡ 32 → ⊥) → length_not 32 key ≡ false → key ≡ K
key_is K key (inl p) e = p
key_is K key (inr n) e = absurd (n (length_passed 32 key e))

pub length_refused : (n : ℕ) (l : List ℕ) → length l ≡ n → length_not n l ≡ false
length_refused n l e = ap not (eq-eqb (length l) n e)

-- a free row fewer than j is a used row more than fits
pub shift : (a h m j : ℕ) → a + h ≡ m → ltb a j ≡ ltb m (h + j)
shift a h m j e = go (ltb a j) refl
  where
    go : (b : Bool) → ltb a j ≡ b → b ≡ ltb m (h + j)
    go true f = let w = ltb-true a j f in sym (lt-ltb m (h + j) (omega arith))
    go false f = let w = ltb-false a j f in sym (le-ltb m (h + j) (omega arith))

pub map-up_to : {A : Type 0} (n : ℕ) (f g : ℕ → A) → ((u : ℕ) → u ≤ n → f u ≡ g u) → map f (up_to n) ≡ map g (up_to n)
map-up_to ℕ.zero f g h = ap (λ y. y ∷ []) (h 0 (omega arith))
map-up_to (ℕ.suc n) f g h =
    map-append f (up_to n) (ℕ.suc n ∷ [])
    ∙ ap (λ l. l ++ (f (ℕ.suc n) ∷ [])) (map-up_to n f g (λ u l. h u (omega arith)))
    ∙ ap (λ y. map g (up_to n) ++ (y ∷ [])) (h (ℕ.suc n) (omega arith))
    ∙ sym (map-append g (up_to n) (ℕ.suc n ∷ []))
  where
    map-append : {A B : Type 0} (f : A → B) (l r : List A) → map f (l ++ r) ≡ map f l ++ map f r
    map-append f [] r = refl
    map-append f (y ∷ ys) r = ap (λ l. f y ∷ l) (map-append f ys r)

pub none_up_to : (n : ℕ) (p : ℕ → Bool) → ((u : ℕ) → u ≤ n → p u ≡ false) → any_of p (up_to n) ≡ false
none_up_to ℕ.zero p h = rw (h 0 (omega arith)) refl
none_up_to (ℕ.suc n) p h = any_append (up_to n) (none_up_to n p (λ u l. h u (omega arith)))
  where
    any_append : (l : List ℕ) → any_of p l ≡ false → any_of p (l ++ (ℕ.suc n ∷ [])) ≡ false
    any_append [] e = rw (h (ℕ.suc n) (omega arith)) refl
    any_append (y ∷ ys) e = go (p y) e (any_append ys)
      where
        go : (b : Bool) → (b || any_of p ys) ≡ false → (any_of p ys ≡ false → any_of p (ys ++ (ℕ.suc n ∷ [])) ≡ false) → (b || any_of p (ys ++ (ℕ.suc n ∷ []))) ≡ false
        go true e k = e
        go false e k = k e
