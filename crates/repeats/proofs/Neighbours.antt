-- In a list that ascends, an element equals an earlier one just where it equals the one before it.
use Prim.Native.Nat.{ℕ, suc, ◌+◌, ◌-◌, ◌≤◌, ◌<◌}
use mathlib.Core.Path.{◌≡◌, refl, sym, ap, ap₂, ◌∙◌}
use mathlib.Core.Bool.{Bool, true, false, ◌||◌, true≢false}
use mathlib.Core.List.{List, [], ◌∷◌}
use native.Mathlib.Nat.{add-zero}
use native.Mathlib.Numerals.{add-one}
use native.Mathlib.Omega.{arith}
use lib.ListN.{length, get_or, drop, drop_of_length-le}
use lib.Seq.{drop-cons}
use Rattle.table.specs.Lists.{bit, same, any_of, All, repeats_after, repeats}
use Rattle.table.specs.Order.{precedes}
use Rattle.table.proofs.Counting.{same_sym, ne_same, same-eq, all_map}
use Rattle.table.proofs.Order.{neither_before, not_before_trans, all_none}
use Rattle.repeats.proofs.Keys.{Rising}

-- how many elements equal the one before them, after x
abbrev pub next : List ℕ → List (List ℕ) → ℕ
next x [] = 0
next x (y ∷ ys) = bit (same x y) + next y ys

any_is : (x y : List ℕ) (seen : List (List ℕ)) → All (λ s. precedes x s ≡ false) seen → precedes y x ≡ false → any_of (same y) (x ∷ seen) ≡ same x y
any_is x y seen a e = go (same y x) refl
  where
    go : (b : Bool) → same y x ≡ b → (b || any_of (same y) seen) ≡ same x y
    go true q = sym (same_sym x y ∙ q)
    go false q =
        all_none (same y) seen (all_map (λ s k. ne_same y s (λ (p : y ≡ s). true≢false (sym (same-eq y x (neither_before y x e (rw (sym p) at k))) ∙ q))) seen a)
        ∙ sym (same_sym x y ∙ q)

repeats_next : (x : List ℕ) (seen xs : List (List ℕ)) → All (λ s. precedes x s ≡ false) seen → Rising (x ∷ xs) → repeats_after (x ∷ seen) xs ≡ next x xs
repeats_next x seen [] a r = refl
repeats_next x seen (y ∷ ys) a r =
    let e : precedes y x ≡ false = r 0 1 (omega arith) (omega arith) in
    ap₂ (λ (m n : ℕ). m + n) (ap bit (any_is x y seen a e))
    (repeats_next y (x ∷ seen) ys (e, all_map (λ s k. not_before_trans s x y k e) seen a) (λ i j h k. r (suc i) (suc j) (omega arith) (omega arith)))

pub repeats_start : (l : List (List ℕ)) → Rising l → 0 + next (get_or l 0 []) (drop 1 l) ≡ repeats l
unfolding repeats
repeats_start [] r = refl
repeats_start (x ∷ xs) r = ap (λ (n : ℕ). 0 + n) (sym (repeats_next x [] xs tt r))

pub repeats_turn : (l : List (List ℕ)) (i : ℕ) → i < length l
    → next (get_or l (i - 1) []) (drop i l) ≡ bit (same (get_or l (i - 1) []) (get_or l i [])) + next (get_or l (i + 1 - 1) []) (drop (i + 1) l)
repeats_turn l i h =
    let e : i + 1 - 1 ≡ i = omega arith in
    rw (e, add-one i) (ap (next (get_or l (i - 1) [])) (drop-cons l i [] h))

pub repeats_end : (l : List (List ℕ)) (i r : ℕ) → length l ≤ i → r + next (get_or l (i - 1) []) (drop i l) ≡ repeats l → r ≡ repeats l
repeats_end l i r h e = sym (add-zero r) ∙ ap (λ (x : List (List ℕ)). r + next (get_or l (i - 1) []) x) (sym (drop_of_length-le l h)) ∙ e
