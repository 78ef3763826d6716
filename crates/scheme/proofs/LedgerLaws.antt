-- Laws of the ledger's entries: a pair's entry after one is set or an id is removed, and all ids listed.
use Prim.Native.Nat.{ℕ, suc, ◌+◌}
use mathlib.Core.Path.{◌≡◌, refl, sym, ap, ◌∙◌}
use mathlib.Core.Bool.{Bool, true, false, cond, not}
use mathlib.Core.List.{List, [], ◌∷◌, ◌++◌, map}
use native.Mathlib.Omega.{arith}
use lib.ListN.{length}
use Rattle.table.specs.Lists.{bit, same, select, count, any_of}
use Rattle.table.proofs.Counting.{count-append, select-append}
use Rattle.scheme.specs.Ledger.{Pair, same_pair, Entry, entry_of, with_entry, listed, removed, with_pair}
use Rattle.scheme.proofs.Setting.{same_pair-true, same_pair_refl, same_pair_ne}

pub entry_own : (e : Entry) (es : List Entry) → entry_of e.pair (with_entry e es) ≡ e
entry_own e [] = rw (same_pair_refl e.pair) refl
entry_own e (y ∷ ys) = go (same_pair y.pair e.pair) refl (entry_own e ys)
  where
    go : (b : Bool) → same_pair y.pair e.pair ≡ b → entry_of e.pair (with_entry e ys) ≡ e → entry_of e.pair (cond b (e ∷ ys) (y ∷ with_entry e ys)) ≡ e
    go true h k = rw (same_pair_refl e.pair) refl
    go false h k = rw h k

pub entry_other : (e : Entry) (es : List Entry) (q : Pair) → (q ≡ e.pair → ⊥) → entry_of q (with_entry e es) ≡ entry_of q es
entry_other e [] q ne = rw (same_pair_ne e.pair q (λ w. ne (sym w))) refl
entry_other e (y ∷ ys) q ne = go (same_pair y.pair e.pair) refl (entry_other e ys q ne)
  where
    go : (b : Bool) → same_pair y.pair e.pair ≡ b → entry_of q (with_entry e ys) ≡ entry_of q ys → entry_of q (cond b (e ∷ ys) (y ∷ with_entry e ys)) ≡ entry_of q (y ∷ ys)
    go true h k =
        let p = same_pair-true y.pair e.pair h in
        rw (same_pair_ne e.pair q (λ w. ne (sym w)), same_pair_ne y.pair q (λ w. ne (sym w ∙ p))) refl
    go false h k = ap (cond (same_pair y.pair q) y) k

-- ids appended to a pair's list are listed once more
pub listed_more : (new : List (List ℕ)) (e : Entry) (es : List Entry) → e.ids ≡ (entry_of e.pair es).ids ++ new → (p : List ℕ → Bool) → count p (listed (with_entry e es)) ≡ count p new + count p (listed es)
listed_more new e [] h p =
    let a : count p e.ids ≡ count p new = ap (count p) h in
    let b = count-append p e.ids [] in
    omega arith
listed_more new e (y ∷ ys) h p = go (same_pair y.pair e.pair) refl h (λ k. listed_more new e ys k p)
  where
    go : (b : Bool) → same_pair y.pair e.pair ≡ b → e.ids ≡ (cond b y (entry_of e.pair ys)).ids ++ new
        → (e.ids ≡ (entry_of e.pair ys).ids ++ new → count p (listed (with_entry e ys)) ≡ count p new + count p (listed ys))
        → count p (listed (cond b (e ∷ ys) (y ∷ with_entry e ys))) ≡ count p new + count p (listed (y ∷ ys))
    go true b h k =
        let a : count p e.ids ≡ count p (y.ids ++ new) = ap (count p) h in
        let c = count-append p y.ids new in
        let d = count-append p e.ids (listed ys) in
        let f = count-append p y.ids (listed ys) in
        omega arith
    go false b h k =
        let a = k h in
        let d = count-append p y.ids (listed (with_entry e ys)) in
        let f = count-append p y.ids (listed ys) in
        omega arith

pub entry_removed : (id : List ℕ) (q : Pair) (es : List Entry) → entry_of q (map (removed id) es) ≡ removed id (entry_of q es)
unfolding removed
entry_removed id q [] = refl
entry_removed id q (y ∷ ys) = go (same_pair y.pair q) (entry_removed id q ys)
  where
    go : (b : Bool) → entry_of q (map (removed id) ys) ≡ removed id (entry_of q ys) → cond b (removed id y) (entry_of q (map (removed id) ys)) ≡ removed id (cond b y (entry_of q ys))
    go true e = refl
    go false e = e

pub listed-removed : (id : List ℕ) (es : List Entry) → listed (map (removed id) es) ≡ select (λ y. not (same y id)) (listed es)
unfolding removed
listed-removed id [] = refl
listed-removed id (y ∷ ys) =
    ap (λ (r : List (List ℕ)). select (λ x. not (same x id)) y.ids ++ r) (listed-removed id ys)
    ∙ sym (select-append (λ x. not (same x id)) y.ids (listed ys))

-- a pair put into the set
pub with_length : (pr : Pair) (T : List Pair) → length (with_pair pr T) + bit (any_of (same_pair pr) T) ≡ suc (length T)
unfolding with_pair
with_length pr T = go (any_of (same_pair pr) T)
  where
    go : (b : Bool) → length (cond b T (pr ∷ T)) + bit b ≡ suc (length T)
    go true = omega arith
    go false = omega arith

pub with_own : (pr : Pair) (T : List Pair) → any_of (same_pair pr) (with_pair pr T) ≡ true
unfolding with_pair
with_own pr T = go (any_of (same_pair pr) T) refl
  where
    go : (b : Bool) → any_of (same_pair pr) T ≡ b → any_of (same_pair pr) (cond b T (pr ∷ T)) ≡ true
    go true e = e
    go false e = rw (same_pair_refl pr) refl

pub with_other : (pr : Pair) (T : List Pair) (q : Pair) → (q ≡ pr → ⊥) → any_of (same_pair q) (with_pair pr T) ≡ any_of (same_pair q) T
unfolding with_pair
with_other pr T q ne = go (any_of (same_pair pr) T)
  where
    go : (b : Bool) → any_of (same_pair q) (cond b T (pr ∷ T)) ≡ any_of (same_pair q) T
    go true = refl
    go false = rw (same_pair_ne q pr ne) refl
