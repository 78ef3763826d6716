-- Two different fields never have the same label bytes, whatever their lengths: the length's groups end where their high bit is clear.
use Prim.Native.Nat.{ℕ, zero, suc, ◌+◌, ◌/◌, ◌%◌, ◌≤◌}
use mathlib.Core.Path.{◌≡◌, refl, sym, ap, ◌∙◌}
use mathlib.Core.Bool.{Bool, true, false}
use mathlib.Core.List.{List, [], ◌∷◌, ◌++◌, head-eq_of_cons-eq, tail-eq_of_cons-eq}
use native.Mathlib.Omega.{arith}
use lib.Dec.{ltb}
use lib.ListN.{length, take, drop}
use lib.Seq.{take_at, drop_at}
use borrow.Author.Tests.{ltb-true, ltb-false}
use Rattle.scheme.specs.Labels.{Field, groups, sevens, label}

groups_end : (f g n m : ℕ) (x y : List ℕ) → n ≤ f → m ≤ g → groups f n ++ x ≡ groups g m ++ y → (n ≡ m) × (x ≡ y)
groups_end zero zero n m x y hn hm e = (omega arith, tail-eq_of_cons-eq e)
groups_end zero (suc g) n m x y hn hm e = go (ltb m 128) refl e
  where
    go : (b : Bool) → ltb m 128 ≡ b → (n ∷ x) ≡ (elim b as (λ b. List ℕ) [ true ↦ m ∷ [] | false ↦ (128 + m % 128) ∷ groups g (m / 128) ]) ++ y → (n ≡ m) × (x ≡ y)
    go true h e = (head-eq_of_cons-eq e, tail-eq_of_cons-eq e)
    go false h e = absurd (let k = head-eq_of_cons-eq e in omega arith)
groups_end (suc f) zero n m x y hn hm e = go (ltb n 128) refl e
  where
    go : (b : Bool) → ltb n 128 ≡ b → (elim b as (λ b. List ℕ) [ true ↦ n ∷ [] | false ↦ (128 + n % 128) ∷ groups f (n / 128) ]) ++ x ≡ (m ∷ y) → (n ≡ m) × (x ≡ y)
    go true h e = (head-eq_of_cons-eq e, tail-eq_of_cons-eq e)
    go false h e = absurd (let k = head-eq_of_cons-eq e in omega arith)
groups_end (suc f) (suc g) n m x y hn hm e = go (ltb n 128) (ltb m 128) refl refl e (groups_end f g (n / 128) (m / 128) x y)
  where
    go : (b c : Bool) → ltb n 128 ≡ b → ltb m 128 ≡ c
        → (elim b as (λ b. List ℕ) [ true ↦ n ∷ [] | false ↦ (128 + n % 128) ∷ groups f (n / 128) ]) ++ x
        ≡ (elim c as (λ b. List ℕ) [ true ↦ m ∷ [] | false ↦ (128 + m % 128) ∷ groups g (m / 128) ]) ++ y
        → (n / 128 ≤ f → m / 128 ≤ g → groups f (n / 128) ++ x ≡ groups g (m / 128) ++ y → (n / 128 ≡ m / 128) × (x ≡ y))
        → (n ≡ m) × (x ≡ y)
    go true true h k e r = (head-eq_of_cons-eq e, tail-eq_of_cons-eq e)
    go true false h k e r = absurd (let w = head-eq_of_cons-eq e in let v = ltb-true n 128 h in omega arith)
    go false true h k e r = absurd (let w = head-eq_of_cons-eq e in let v = ltb-true m 128 k in omega arith)
    go false false h k e r =
        let v = ltb-false n 128 h in
        let w = ltb-false m 128 k in
        let a = head-eq_of_cons-eq e in
        let s = r (omega arith) (omega arith) (tail-eq_of_cons-eq e) in
        (omega arith, s.1)

-- [01:LB9]
pub labels_differ : (f g : Field) → label f ≡ label g → f ≡ g
unfolding label sevens
labels_differ f g e =
    let s = groups_end (length f.name) (length g.name) (length f.name) (length g.name) (f.name ++ f.value) (g.name ++ g.value) (omega arith) (omega arith) e in
    let a : f.name ≡ g.name = sym (take_at f.name f.value (length g.name) s.0) ∙ ap (take (length g.name)) s.1 ∙ take_at g.name g.value (length g.name) refl in
    let b : f.value ≡ g.value = sym (drop_at f.name f.value (length g.name) s.0) ∙ ap (drop (length g.name)) s.1 ∙ drop_at g.name g.value (length g.name) refl in
    λ i. record { name = a i; value = b i }
