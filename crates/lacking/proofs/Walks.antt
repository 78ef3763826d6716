-- A walk through two lists that ascend: what it has passed in the second is not above what is left of the first, so an element of the first
-- that comes before all that is left is in the second just where the element before is it.
use Prim.Native.Nat.{ℕ, zero, suc, ◌+◌, ◌-◌, ◌≤◌, ◌<◌}
use mathlib.Core.Path.{◌≡◌, refl, sym, ap, ◌∙◌}
use mathlib.Core.Bool.{Bool, true, false, cond, not, true≢false, or-true}
use mathlib.Core.List.{List, [], ◌∷◌}
use native.Mathlib.Nat.{add-zero, zero-add, not-suc-le-zero}
use native.Mathlib.Numerals.{add-one}
use native.Mathlib.Omega.{arith}
use lib.Dec.{ltb}
use lib.ListN.{length, get_or, drop, drop_of_length-le}
use lib.Seq.{drop-cons}
use borrow.Author.Tests.{ltb-true, ltb-false, lt-ltb, le-ltb}
use Rattle.std.specs.declared.cmp.Ordering.{Ordering}
use Rattle.std.specs.declared.cmp.Ordering.TheVariants.{Less, Equal, Greater}
use Rattle.std.specs.Ordering.{nat_cmp, is_lt, is_eq}
use Rattle.std.specs.Cmp.Lexicographic.{slice_cmp}
use Rattle.std.proofs.lemmas.Bool.Decides.{nat_tests}
use Rattle.std.proofs.lemmas.Cmp.{same_from_slice_cmp}
use Rattle.table.specs.Lists.{bit, same, count, any_of, lacking}
use Rattle.table.specs.Order.{precedes}
use Rattle.table.proofs.Counting.{same_true, same_sym, ne_same, same-eq}
use Rattle.table.proofs.Order.{neither_before, not_before_trans, precedes_not, all_none}
use Rattle.lacking.specs.Meetings.{met_before, meeting_of}
use Rattle.repeats.proofs.Keys.{Rising, all_from, bit_le}

pub any_at : (p : List ℕ → Bool) (l : List (List ℕ)) (i : ℕ) → i < length l → p (get_or l i []) ≡ true → any_of p l ≡ true
any_at p [] i h e = absurd (not-suc-le-zero h)
any_at p (x ∷ xs) zero h e = rw e refl
any_at p (x ∷ xs) (suc i) h e = rw (any_at p xs i (omega arith) e) (or-true (p x))

none_at : (p : List ℕ → Bool) (l : List (List ℕ)) → ((i : ℕ) → i < length l → p (get_or l i []) ≡ false) → any_of p l ≡ false
none_at p l h = all_none p l (all_from (λ x. p x ≡ false) l h)

-- not above, as a walk has passed them
abbrev pub Passed : List (List ℕ) → List (List ℕ) → ℕ → ℕ → Type 0
Passed xs ys i j = (k m : ℕ) → k < j → i ≤ m → m < length xs → precedes (get_or xs m []) (get_or ys k []) ≡ false

-- a text that comes before all that is left
pub met : (x : List ℕ) (ys : List (List ℕ)) (j : ℕ) → Rising ys → ((k : ℕ) → k < j → precedes x (get_or ys k []) ≡ false) → j ≤ length ys
    → ((k : ℕ) → j ≤ k → k < length ys → same x (get_or ys k []) ≡ false) → any_of (same x) ys ≡ met_before x ys j
unfolding met_before
met x ys zero r low le high = none_at (same x) ys (λ k h. high k (omega arith) h)
met x ys (suc j) r low le high = rw (lt-ltb 0 (suc j) (omega arith)) (go (same x (get_or ys j [])) refl)
  where
    e : suc j - 1 ≡ j
    e = omega arith

    go : (b : Bool) → same x (get_or ys j []) ≡ b → any_of (same x) ys ≡ same x (get_or ys (suc j - 1) [])
    go true q = any_at (same x) ys j (omega arith) q ∙ sym (rw e q)
    go false q = none_at (same x) ys (λ k h. each k h (ltb j k) refl) ∙ sym (rw e q)
      where
        each : (k : ℕ) → k < length ys → (c : Bool) → ltb j k ≡ c → same x (get_or ys k []) ≡ false
        each k h true c = high k (ltb-true j k c) h
        each k h false c =
            let l : k ≤ j = ltb-false j k c in
            ne_same x (get_or ys k []) (λ (p : x ≡ get_or ys k []).
            true≢false (sym (same-eq x (get_or ys j []) (neither_before x (get_or ys j []) (low j (omega arith)) (rw (sym p) at (r k j l (omega arith))))) ∙ q))

-- how far a walk has come: r elements of the first list were not in the second
pub record Walking (xs ys : List (List ℕ)) (i j r : ℕ) : Type 0 where
  pub told : r + count (λ x. not (any_of (same x) ys)) (drop i xs) ≡ lacking xs ys
  pub passed : Passed xs ys i j
  pub at : i ≤ length xs
  pub by : j ≤ length ys
  pub most : r ≤ i

pub walk_start : (xs ys : List (List ℕ)) → Walking xs ys 0 0 0
unfolding lacking
walk_start xs ys = record { told = zero-add (count (λ x. not (any_of (same x) ys)) xs); passed = λ k m h. absurd (not-suc-le-zero h); at = omega arith; by = omega arith; most = omega arith }

pub walk_end : (xs ys : List (List ℕ)) (i j r : ℕ) → length xs ≤ i → Walking xs ys i j r → r ≡ lacking xs ys
walk_end xs ys i j r h w =
    sym (add-zero r) ∙ ap (λ (l : List (List ℕ)). r + count (λ x. not (any_of (same x) ys)) l) (sym (drop_of_length-le xs h)) ∙ w.told

module _ (xs ys : List (List ℕ)) (rx : Rising xs) (ry : Rising ys) (i j r : ℕ) (w : Walking xs ys i j r) (h : i < length xs) where
  -- one element further
  step : (b : Bool) → any_of (same (get_or xs i [])) ys ≡ b → (r + bit (not b)) + count (λ x. not (any_of (same x) ys)) (drop (i + 1) xs) ≡ lacking xs ys
  step b e =
      let f : count (λ x. not (any_of (same x) ys)) (drop i xs) ≡ bit (not b) + count (λ x. not (any_of (same x) ys)) (drop (i + 1) xs) =
      rw (add-one i) (ap (count (λ x. not (any_of (same x) ys))) (drop-cons xs i [] h) ∙ ap (λ (c : Bool). bit (not c) + count (λ x. not (any_of (same x) ys)) (drop (suc i) xs)) e) in
      let t = w.told in
      omega arith

  -- the element is the one that the walk has come to
  pub walk_same : j < length ys → same (get_or xs i []) (get_or ys j []) ≡ true → Walking xs ys (i + 1) (j + 1) r
  walk_same k e = record {
    told = let t = step true (any_at (same (get_or xs i [])) ys j k e) in rw (add-zero r) at t;
    passed = λ a m l n o. go a m (omega arith) o (ltb a j) refl l;
    at = omega arith;
    by = omega arith;
    most = omega (arith, w.most);
  }
    where
      go : (a m : ℕ) → i ≤ m → m < length xs → (b : Bool) → ltb a j ≡ b → a < j + 1 → precedes (get_or xs m []) (get_or ys a []) ≡ false
      go a m n o true b l = w.passed a m (ltb-true a j b) n o
      go a m n o false b l =
          let q : a ≡ j = omega (arith, ltb-false a j b) in
          let p : get_or xs i [] ≡ get_or ys j [] = same_true (get_or xs i []) (get_or ys j []) e in
          rw (q, sym p) (rx i m n o)

  -- the walk has come to one that is before the element
  pub walk_before : j < length ys → precedes (get_or ys j []) (get_or xs i []) ≡ true → Walking xs ys i (j + 1) r
  walk_before k e = record {
    told = w.told;
    passed = λ a m l n o. go a m n o (ltb a j) refl l;
    at = w.at;
    by = omega arith;
    most = w.most;
  }
    where
      go : (a m : ℕ) → i ≤ m → m < length xs → (b : Bool) → ltb a j ≡ b → a < j + 1 → precedes (get_or xs m []) (get_or ys a []) ≡ false
      go a m n o true b l = w.passed a m (ltb-true a j b) n o
      go a m n o false b l =
          let q : a ≡ j = omega (arith, ltb-false a j b) in
          rw q (not_before_trans (get_or ys j []) (get_or xs i []) (get_or xs m []) (precedes_not (get_or ys j []) (get_or xs i []) e) (rx i m n o))

  -- the walk is past the element, which is neither the one it has come to nor one after it
  is_met : (j < length ys → (same (get_or xs i []) (get_or ys j []) ≡ false) × (precedes (get_or ys j []) (get_or xs i []) ≡ false)) → any_of (same (get_or xs i [])) ys ≡ met_before (get_or xs i []) ys j
  is_met q = met (get_or xs i []) ys j ry (λ k l. w.passed k i l (omega arith) h) w.by (λ k l o.
      let c = q (omega arith) in
      ne_same (get_or xs i []) (get_or ys k []) (λ (p : get_or xs i [] ≡ get_or ys k []).
      true≢false (sym (same-eq (get_or xs i []) (get_or ys j []) (sym (neither_before (get_or ys j []) (get_or xs i []) c.1 (rw (sym p) at (ry j k l o))))) ∙ c.0)))

  pub walk_past : (b : Bool) → (j < length ys → (same (get_or xs i []) (get_or ys j []) ≡ false) × (precedes (get_or ys j []) (get_or xs i []) ≡ false)) → met_before (get_or xs i []) ys j ≡ b
      → Walking xs ys (i + 1) j (r + bit (not b))
  walk_past b q e = record {
    told = step b (is_met q ∙ e);
    passed = λ a m l n o. w.passed a m l (omega arith) o;
    at = omega arith;
    by = w.by;
    most = omega (arith, w.most, bit_le (not b));
  }

-- ---- how the text that the walk has come to stands to a text

-- what the library's comparison of two texts tells
cmp_precedes : (y x : List ℕ) (o : Ordering) → o ≡ slice_cmp nat_cmp y x → is_lt o ≡ precedes y x
cmp_precedes =
    same_from_slice_cmp nat_cmp is_lt precedes refl (λ _ _. refl) (λ _ _. refl) (λ x y xs ys o h. grind (arith, nat_tests))

cmp_same : (y x : List ℕ) (o : Ordering) → o ≡ slice_cmp nat_cmp y x → is_eq o ≡ same y x
cmp_same =
    same_from_slice_cmp nat_cmp is_eq same refl (λ _ _. refl) (λ _ _. refl) (λ x y xs ys o h. grind (arith, nat_tests))

pub meeting_none : (x : List ℕ) (l : List (List ℕ)) (j : ℕ) → length l ≤ j → meeting_of x l j ≡ Greater
unfolding meeting_of
meeting_none x l j h = rw (le-ltb j (length l) h) refl

pub meeting_here : (x : List ℕ) (l : List (List ℕ)) (j : ℕ) → j < length l → meeting_of x l j ≡ slice_cmp nat_cmp (get_or l j []) x
unfolding meeting_of
meeting_here x l j h = rw (lt-ltb j (length l) h) refl

-- what each case says
abbrev pub Says : List ℕ → List (List ℕ) → ℕ → Ordering → Type 0
Says x l j Equal = (j < length l) × (same x (get_or l j []) ≡ true)
Says x l j Less = (j < length l) × (precedes (get_or l j []) x ≡ true)
Says x l j Greater = j < length l → (same x (get_or l j []) ≡ false) × (precedes (get_or l j []) x ≡ false)

pub says : (x : List ℕ) (l : List (List ℕ)) (j : ℕ) → Says x l j (meeting_of x l j)
unfolding meeting_of
says x l j = go (ltb j (length l)) refl (slice_cmp nat_cmp (get_or l j []) x) refl
  where
    go : (c : Bool) → ltb j (length l) ≡ c → (o : Ordering) → o ≡ slice_cmp nat_cmp (get_or l j []) x → Says x l j (cond c o Greater)
    go true c Equal e = (ltb-true j (length l) c, same_sym x (get_or l j []) ∙ sym (cmp_same (get_or l j []) x Equal e))
    go true c Less e = (ltb-true j (length l) c, sym (cmp_precedes (get_or l j []) x Less e))
    go true c Greater e = λ h. (same_sym x (get_or l j []) ∙ sym (cmp_same (get_or l j []) x Greater e), sym (cmp_precedes (get_or l j []) x Greater e))
    go false c o e = λ h. absurd (omega (arith, ltb-false j (length l) c))
