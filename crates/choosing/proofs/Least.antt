-- Chosen part after part, the part is the one at the place of the least number; or one of the parts is damaged.
use Prim.Native.Nat.{ℕ, zero, suc, ◌-◌, ◌≤◌, ◌<◌}
use mathlib.Core.Path.{◌≡◌, refl, sym, ap, ap₂, ◌∙◌}
use mathlib.Core.Bool.{Bool, true, false, cond, ◌||◌, true≢false, or-true}
use mathlib.Core.List.{List, [], ◌∷◌, ◌++◌, map, map-append}
use native.Mathlib.Nat.{not-suc-le-zero}
use native.Mathlib.Omega.{arith}
use lib.Dec.{ltb}
use lib.ListN.{length, get_or, take, length-map}
use lib.Seq.{take-suc, get_or-take, length-take-le}
use borrow.Author.Tests.{ltb-true, ltb-false, lt-ltb}
use Rattle.std.specs.Prelude.{Option, Some, None, Result, Ok, Err, is_none}
use Rattle.table.specs.Lists.{any_of}
use Rattle.table.proofs.Counting.{neither, any_append}
use Rattle.scheme.specs.JointFind.{least_at}
use Rattle.find.specs.declared.Counts.{Counts}
use Rattle.choosing.specs.declared.Choice.{Choice}
use Rattle.choosing.specs.Choice.{choice, better_of, first_of, next_of, chosen_to}

-- ---- the place of the least number

abbrev below : ℕ → List ℕ → Bool
below n ns = any_of (λ k. ltb k n) ns

least_inside : (n : ℕ) (ns : List ℕ) → least_at (n ∷ ns) ≤ length ns
least_inside n [] = omega arith
least_inside n (m ∷ ms) = go (below n (m ∷ ms)) (least_inside m ms)
  where
    go : (b : Bool) → least_at (m ∷ ms) ≤ length ms → cond b (suc (least_at (m ∷ ms))) zero ≤ suc (length ms)
    go true h = omega arith
    go false h = omega arith

-- none is below n
none_below : (n : ℕ) (ns : List ℕ) → below n ns ≡ false → (i : ℕ) → i < length ns → n ≤ get_or ns i 0
none_below n [] e i h = absurd (not-suc-le-zero h)
none_below n (m ∷ ms) e zero h = ltb-false m n (neither (ltb m n) (below n ms) e).0
none_below n (m ∷ ms) e (suc i) h = none_below n ms (neither (ltb m n) (below n ms) e).1 i (omega arith)

-- with one number more at the end
least_more : (n : ℕ) (ns : List ℕ) (k : ℕ) → least_at (n ∷ (ns ++ (k ∷ []))) ≡ cond (ltb k (get_or (n ∷ ns) (least_at (n ∷ ns)) 0)) (suc (length ns)) (least_at (n ∷ ns))
least_more n [] k = go (ltb k n)
  where
    go : (b : Bool) → cond (b || false) (suc zero) zero ≡ cond b (suc zero) zero
    go true = refl
    go false = refl
least_more n (m ∷ ms) k =
    ap (λ (b : Bool). cond b (suc (least_at (m ∷ (ms ++ (k ∷ []))))) zero) (any_append (λ k. ltb k n) (m ∷ ms) (k ∷ []))
    ∙ go (below n (m ∷ ms)) (ltb k n) (ltb k (get_or (m ∷ ms) (least_at (m ∷ ms)) 0)) refl refl refl (least_more m ms k)
  where
    go : (a b c : Bool) → below n (m ∷ ms) ≡ a → ltb k n ≡ b → ltb k (get_or (m ∷ ms) (least_at (m ∷ ms)) 0) ≡ c
        → least_at (m ∷ (ms ++ (k ∷ []))) ≡ cond c (suc (length ms)) (least_at (m ∷ ms))
        → cond (a || (b || false)) (suc (least_at (m ∷ (ms ++ (k ∷ []))))) zero ≡ cond (ltb k (get_or (n ∷ m ∷ ms) (cond a (suc (least_at (m ∷ ms))) zero) 0)) (suc (suc (length ms))) (cond a (suc (least_at (m ∷ ms))) zero)
    go true b true ea eb ec h = rw (ec, h) refl
    go true b false ea eb ec h = rw (ec, h) refl
    go false true true ea eb ec h = rw (eb, h) refl
    go false true false ea eb ec h =
        absurd (true≢false (sym (lt-ltb k (get_or (m ∷ ms) (least_at (m ∷ ms)) 0) (omega (arith, ltb-true k n eb, none_below n (m ∷ ms) ea (least_at (m ∷ ms)) (omega (arith, least_inside m ms))))) ∙ ec))
    go false false c ea eb ec h = rw eb refl

least_end : (ns : List ℕ) (k : ℕ) → 1 ≤ length ns → least_at (ns ++ (k ∷ [])) ≡ cond (ltb k (get_or ns (least_at ns) 0)) (length ns) (least_at ns)
least_end [] k h = absurd (not-suc-le-zero h)
least_end (n ∷ ns) k h = least_more n ns k

-- ---- the part chosen of the first ones

get_d_map : (g : List ℕ → ℕ) (l : List (List ℕ)) (i : ℕ) → i < length l → get_or (map g l) i 0 ≡ g (get_or l i [])
get_d_map g [] i h = absurd (not-suc-le-zero h)
get_d_map g (x ∷ xs) zero h = refl
get_d_map g (x ∷ xs) (suc i) h = get_d_map g xs i (omega arith)

-- what is counted, and 0 of a damaged part
abbrev pub sum_in : Option Counts → ℕ
sum_in None = 0
sum_in (Some k) = k.sum

module _ (f : List ℕ → Option Counts) (ps : List (List ℕ)) where
  -- ---- one part more

  pub choice_next : (i : ℕ) (o : Result Choice ℕ) (x : Option Counts) → 1 ≤ i → o ≡ chosen_to f ps (i - 1) → x ≡ f (get_or ps i []) → next_of o i x ≡ chosen_to f ps i
  choice_next zero o x h e q = absurd (not-suc-le-zero h)
  choice_next (suc i) o x h e q =
      let n : suc i - 1 ≡ i = omega arith in
      let p : o ≡ chosen_to f ps i = e ∙ ap (λ (j : ℕ). chosen_to f ps j) n in
      ap₂ (λ (r : Result Choice ℕ) (y : Option Counts). next_of r (suc i) y) p q

  -- ---- a part that is damaged, the first of them: it stays, whatever comes after it

  stays : (n i j : ℕ) → i ≤ n → Err j ≡ chosen_to f ps i → Err j ≡ chosen_to f ps n
  stays zero i j h e = let m : i ≡ 0 = omega arith in e ∙ ap (λ (k : ℕ). chosen_to f ps k) m
  stays (suc n) i j h e = go (ltb i (suc n)) refl (λ m. stays n i j m e)
    where
      go : (b : Bool) → ltb i (suc n) ≡ b → (i ≤ n → Err j ≡ chosen_to f ps n) → Err j ≡ next_of (chosen_to f ps n) (suc n) (f (get_or ps (suc n) []))
      go true q r =
          let h : i < suc n = ltb-true i (suc n) q in
          ap (λ (o : Result Choice ℕ). next_of o (suc n) (f (get_or ps (suc n) []))) (r (omega arith))
      go false q r =
          let m : i ≡ suc n = omega (arith, ltb-false i (suc n) q) in e ∙ ap (λ (k : ℕ). chosen_to f ps k) m

  pub first_damaged : (n : ℕ) → None ≡ f (get_or ps 0 []) → Err 0 ≡ chosen_to f ps n
  first_damaged n e = stays n 0 0 (omega arith) (ap (λ (o : Option Counts). first_of o) e)

  pub later_damaged : (n i : ℕ) (c : Choice) → 1 ≤ i → i ≤ n → Ok c ≡ chosen_to f ps (i - 1) → None ≡ f (get_or ps i []) → Err i ≡ chosen_to f ps n
  later_damaged n i c h m e q = stays n i i m (choice_next i (Ok c) None h e q)

  -- ---- the part at the place of the least number

  abbrev damaged_to : ℕ → Bool
  damaged_to n = any_of (λ p. is_none (f p)) (take n ps)

  abbrev sums_to : ℕ → List ℕ
  sums_to n = map (λ p. sum_in (f p)) (take n ps)

  -- of the parts 0 to i none is damaged
  pub record Sound (i : ℕ) (c : Choice) : Type 0 where
    pub none_damaged : damaged_to (suc i) ≡ false
    pub at_least : c.at ≡ least_at (sums_to (suc i))
    pub counts_are : Some c.counts ≡ f (get_or ps c.at [])
    pub at_most : c.at ≤ i

  abbrev pub Chosen : ℕ → Result Choice ℕ → Type 0
  Chosen i (Err j) = damaged_to (suc i) ≡ true
  Chosen i (Ok c) = Sound i c

  module _ (i : ℕ) (h : i < length ps) where
    next_part : take (suc i) ps ≡ take i ps ++ (get_or ps i [] ∷ [])
    next_part = take-suc ps i [] h

    damaged_next : damaged_to (suc i) ≡ (damaged_to i || (is_none (f (get_or ps i [])) || false))
    damaged_next = ap (any_of (λ p. is_none (f p))) next_part ∙ any_append (λ p. is_none (f p)) (take i ps) (get_or ps i [] ∷ [])

    sums_next : sums_to (suc i) ≡ sums_to i ++ (sum_in (f (get_or ps i [])) ∷ [])
    sums_next = ap (map (λ p. sum_in (f p))) next_part ∙ map-append (λ p. sum_in (f p)) (take i ps) (get_or ps i [] ∷ [])

    sums_length : length (sums_to i) ≡ i
    sums_length = length-map (take i ps) (λ p. sum_in (f p)) ∙ length-take-le i ps (omega arith)

  -- the number that was least is what the part chosen counts
  least_is : (i : ℕ) (c : Choice) → i < length ps → Sound i c → get_or (sums_to (suc i)) (least_at (sums_to (suc i))) 0 ≡ c.counts.sum
  least_is i c h s =
      ap (λ (k : ℕ). get_or (sums_to (suc i)) k 0) (sym s.at_least)
      ∙ get_d_map (λ p. sum_in (f p)) (take (suc i) ps) c.at (omega (arith, s.at_most, length-take-le (suc i) ps h))
      ∙ ap (λ (p : List ℕ). sum_in (f p)) (get_or-take (suc i) ps c.at [] (omega (arith, s.at_most))) ∙ ap (λ (k : Option Counts). sum_in k) (sym s.counts_are)

  better_is : (i : ℕ) (o : Result Choice ℕ) (k : Option Counts) → suc i < length ps → k ≡ f (get_or ps (suc i) []) → Chosen i o → Chosen (suc i) (next_of o (suc i) k)
  unfolding better_of
  better_is i (Err j) k h e w = damaged_next (suc i) h ∙ ap (λ (x : Bool). x || (is_none (f (get_or ps (suc i) [])) || false)) w
  better_is i (Ok c) None h e w =
      damaged_next (suc i) h ∙ ap (λ (x : Option Counts). damaged_to (suc i) || (is_none x || false)) (sym e) ∙ or-true (damaged_to (suc i))
  better_is i (Ok c) (Some k) h e w = go (ltb k.sum c.counts.sum) refl
    where
      none : damaged_to (suc (suc i)) ≡ false
      none = damaged_next (suc i) h ∙ ap₂ (λ (x : Bool) (y : Option Counts). x || (is_none y || false)) w.none_damaged (sym e)

      place : least_at (sums_to (suc (suc i))) ≡ cond (ltb k.sum c.counts.sum) (suc i) c.at
      place =
          ap least_at (sums_next (suc i) h) ∙ ap (λ (x : Option Counts). least_at (sums_to (suc i) ++ (sum_in x ∷ []))) (sym e)
          ∙ least_end (sums_to (suc i)) k.sum (omega (arith, sums_length (suc i) h))
          ∙ ap₂ (λ (x y : ℕ). cond (ltb k.sum x) y (least_at (sums_to (suc i)))) (least_is i c (omega arith) w) (sums_length (suc i) h)
          ∙ ap (λ (y : ℕ). cond (ltb k.sum c.counts.sum) (suc i) y) (sym w.at_least)

      go : (l : Bool) → ltb k.sum c.counts.sum ≡ l → Sound (suc i) (cond l (choice (suc i) k) c)
      go true el = record { none_damaged = none; at_least = sym (place ∙ ap (λ (b : Bool). cond b (suc i) c.at) el); counts_are = e; at_most = omega arith }
      go false el = record { none_damaged = none; at_least = sym (place ∙ ap (λ (b : Bool). cond b (suc i) c.at) el); counts_are = w.counts_are; at_most = omega (arith, w.at_most) }

  pub chosen_is : (i : ℕ) → i < length ps → Chosen i (chosen_to f ps i)
  chosen_is zero h = go (f (get_or ps zero [])) refl
    where
      go : (k : Option Counts) → k ≡ f (get_or ps zero []) → Chosen zero (first_of k)
      go None e = damaged_next zero h ∙ ap (λ (x : Option Counts). is_none x || false) (sym e)
      go (Some k) e = record {
        none_damaged = damaged_next zero h ∙ ap (λ (x : Option Counts). is_none x || false) (sym e);
        at_least = sym (ap least_at (sums_next zero h));
        counts_are = e;
        at_most = omega arith;
      }
  chosen_is (suc i) h = better_is i (chosen_to f ps i) (f (get_or ps (suc i) [])) h refl (chosen_is i (omega arith))
