-- Lists with tests that compute: equality of byte lists, selection, counting, the first that passes, the distinct ones.
-- What the definitions of document 01's "Store" are written in.
use Rattle.std.specs.Prelude.{ℕ, zero, suc, ◌+◌, ◌≡◌, Bool, true, false, cond, not, ◌&&◌, ◌||◌, List, [], ◌∷◌, ◌++◌}
use Rattle.std.proofs.Math.Option.{Option, none, some}
pub use Rattle.octets.specs.Compare.{bit, same}

module _ {A : Type 0} where
  -- the elements that pass, in order
  abbrev pub select : (A → Bool) → List A → List A
  select p [] = []
  select p (x ∷ xs) = cond (p x) (x ∷ select p xs) (select p xs)

  -- how many pass
  abbrev pub count : (A → Bool) → List A → ℕ
  count p [] = 0
  count p (x ∷ xs) = bit (p x) + count p xs

  -- the first that passes
  abbrev pub first : (A → Bool) → List A → Option A
  first p [] = none
  first p (x ∷ xs) = cond (p x) (some x) (first p xs)

  -- whether one passes
  abbrev pub any_of : (A → Bool) → List A → Bool
  any_of p [] = false
  any_of p (x ∷ xs) = p x || any_of p xs

  -- whether all pass
  abbrev pub all_of : (A → Bool) → List A → Bool
  all_of p [] = true
  all_of p (x ∷ xs) = p x && all_of p xs

  abbrev pub is_some : Option A → Bool
  is_some none = false
  is_some (some x) = true

  -- the lists one after the other
  abbrev pub flat : List (List A) → List A
  flat [] = []
  flat (x ∷ xs) = x ++ flat xs

  -- P holds of every element
  abbrev pub All : (A → Type 0) → List A → Type 0
  All P [] = Unit {0}
  All P (x ∷ xs) = P x × All P xs

  -- the same elements, repeats counted, in whatever order
  pub record Same (l r : List A) : Type 0 where
    pub counts : (p : A → Bool) → count p l ≡ count p r

abbrev pub sum : List ℕ → ℕ
sum [] = 0
sum (n ∷ ns) = n + sum ns

-- 0 to n
abbrev pub up_to : ℕ → List ℕ
up_to zero = zero ∷ []
up_to (suc n) = up_to n ++ (suc n ∷ [])

-- each element once, in the order of its first place
abbrev pub distinct : List (List ℕ) → List (List ℕ)
distinct [] = []
distinct (x ∷ xs) = x ∷ select (λ y. not (same y x)) (distinct xs)

-- how many elements equal an earlier one, where some were seen before the list
abbrev pub repeats_after : List (List ℕ) → List (List ℕ) → ℕ
repeats_after seen [] = 0
repeats_after seen (x ∷ xs) = bit (any_of (same x) seen) + repeats_after (x ∷ seen) xs

-- how many elements equal an earlier one
unfoldable pub repeats : List (List ℕ) → ℕ
repeats xs = repeats_after [] xs

-- how many elements of the first list equal none of the second
unfoldable pub lacking : List (List ℕ) → List (List ℕ) → ℕ
lacking xs ys = count (λ x. not (any_of (same x) ys)) xs
