-- A row that is the first with its tag has a flag just where the tag is one of those that were reached.
use Prim.Native.Nat.{ℕ, zero, suc, ◌+◌, ◌≤◌, ◌<◌}
use mathlib.Core.Path.{◌≡◌, refl, sym, ap, ◌∙◌}
use mathlib.Core.Bool.{Bool, true, false, cond, not, ◌||◌, true≢false}
use mathlib.Core.Option.{some}
use mathlib.Core.List.{List, [], ◌∷◌, map}
use native.Mathlib.Nat.{zero-add, add-zero}
use native.Mathlib.Numerals.{add-one}
use native.Mathlib.Omega.{arith}
use lib.Dec.{eqb, ltb}
use lib.ListN.{length, get_or, take, drop, drop_of_length-le, set, replicate, length-set, length-replicate, length-drop, get_or-replicate}
use lib.Seq.{get_or-set_same, get_or-set_other, length-take-le, drop-cons}
use borrow.Author.Tests.{ltb-true, ltb-false}
use Rattle.table.specs.Lists.{bit, same, count, first, any_of, is_some, All, lacking}
use Rattle.table.specs.Table.{Table, body, used, has_tag, lookup, holds, place_of}
use Rattle.table.specs.Order.{Searchable}
use Rattle.table.proofs.Counting.{same_true, same_sym, same_refl, count_map, count_agree}
use Rattle.table.proofs.Rows.{all_at}
use Rattle.table.proofs.Walk.{place_holds}
use Rattle.matching.specs.Matching.{bucket_of, hinted, reached, unflagged}
use Rattle.repeats.proofs.Keys.{all_from, used-length, place_has, place_le, get_d_map, body_at, few, bit_le}

-- a tag is one of a table's just where it has a place
any_first : (x : List ℕ) (l : List (List ℕ)) → any_of (same x) (map (take 32) l) ≡ is_some (first (has_tag x) l)
any_first x [] = refl
any_first x (b ∷ bs) = go (same (take 32 b) x) (same_sym x (take 32 b)) (any_first x bs)
  where
    go : (c : Bool) → same x (take 32 b) ≡ c → any_of (same x) (map (take 32) bs) ≡ is_some (first (has_tag x) bs)
        → (same x (take 32 b) || any_of (same x) (map (take 32) bs)) ≡ is_some (cond c (some b) (first (has_tag x) bs))
    go true e k = rw e refl
    go false e k = rw e k

pub any_place : (x : List ℕ) (t : Table) → any_of (same x) (map (take 32) (used t)) ≡ ltb (place_of x t) (length t)
any_place x t = any_first x (used t) ∙ (unfold holds lookup in (place_holds x t))

pub reached-length : (t : Table) (xs : List (List ℕ)) (flags : List ℕ) → length (reached t xs flags) ≡ length flags
reached-length t [] flags = refl
reached-length t (x ∷ xs) flags = reached-length t xs (cond (ltb (place_of x t) (length t)) (set flags (place_of x t) 1) flags) ∙ go (ltb (place_of x t) (length t))
  where
    go : (b : Bool) → length (cond b (set flags (place_of x t) 1) flags) ≡ length flags
    go true = length-set flags (place_of x t) 1
    go false = refl

pub hinted-length : (i : ℕ) (t : Table) (hints : List ℕ) → length (hinted i t hints) ≡ length hints
hinted-length zero t hints = refl
hinted-length (suc i) t hints = hinted-length i t (set hints (bucket_of (body (get_or t i []))) i) ∙ length-set hints (bucket_of (body (get_or t i []))) i

module _ (w u : ℕ) (t : Table) (s : Searchable w u t) where
  -- a tag's place, by which tags are told apart
  abbrev At : List ℕ → Type 0
  At x = (length x ≡ 32) × (place_of x t < u)

  apart : (x y : List ℕ) → At x → length y ≡ 32 → same x y ≡ false → place_of x t ≡ place_of y t → ⊥
  apart x y a l e q =
      let f : same (get_or (map (take 32) (used t)) (place_of x t) []) x ≡ true = place_has w u t s x a.0 (place_of x t) a.1 refl in
      let g : same (get_or (map (take 32) (used t)) (place_of x t) []) y ≡ true = place_has w u t s y l (place_of x t) a.1 (sym q) in
      let k : List ℕ = get_or (map (take 32) (used t)) (place_of x t) [] in
      let p : x ≡ y = sym (same_true k x f) ∙ same_true k y g in
      true≢false (sym (rw p (same_refl y)) ∙ e)

  flag_is : (x : List ℕ) → At x → (xs : List (List ℕ)) → All (λ y. length y ≡ 32) xs → (flags : List ℕ) → length t ≤ length flags
      → get_or (reached t xs flags) (place_of x t) 0 ≡ cond (any_of (same x) xs) 1 (get_or flags (place_of x t) 0)
  flag_is x a [] l flags m = refl
  flag_is x a (y ∷ ys) l flags m = go (same x y) refl (ltb (place_of y t) (length t)) refl (λ f k. flag_is x a ys l.1 f k)
    where
      one : (c : Bool) → ◌≡◌ {A = ℕ} (cond c 1 1) 1
      one true = refl
      one false = refl

      go : (b : Bool) → same x y ≡ b → (c : Bool) → ltb (place_of y t) (length t) ≡ c
          → ((f : List ℕ) → length t ≤ length f → get_or (reached t ys f) (place_of x t) 0 ≡ cond (any_of (same x) ys) 1 (get_or f (place_of x t) 0))
          → get_or (reached t ys (cond c (set flags (place_of y t) 1) flags)) (place_of x t) 0 ≡ cond (b || any_of (same x) ys) 1 (get_or flags (place_of x t) 0)
      go true e true k h =
          let p : x ≡ y = same_true x y e in
          let n : place_of y t < length flags = omega (arith, ltb-true (place_of y t) (length t) k) in
          let g : get_or (set flags (place_of y t) 1) (place_of x t) 0 ≡ 1 = rw p (get_or-set_same flags (place_of y t) 1 0 n) in
          h (set flags (place_of y t) 1) (omega (arith, length-set flags (place_of y t) 1)) ∙ rw g (one (any_of (same x) ys))
      go true e false k h =
          let p : x ≡ y = same_true x y e in
          let n : place_of y t < u = rw p at a.1 in
          absurd (omega (arith, ltb-false (place_of y t) (length t) k, few w u t s))
      go false e true k h =
          h (set flags (place_of y t) 1) (omega (arith, length-set flags (place_of y t) 1))
          ∙ ap (cond (any_of (same x) ys) 1) (get_or-set_other flags (place_of y t) (place_of x t) 1 0 (apart x y a l.0 e))
      go false e false k h = h flags m

  -- each used row's tag has a place
  held : All (λ b. At (take 32 b)) (used t) → (xs : List (List ℕ)) → All (λ y. length y ≡ 32) xs → (n : ℕ) → length t ≤ n
      → unflagged t (reached t xs (replicate n 0)) ≡ lacking (map (take 32) (used t)) xs
  unfolding unflagged lacking
  held a xs l n m =
      count_agree (λ b. At (take 32 b)) (λ b. eqb (get_or (reached t xs (replicate n 0)) (place_of (take 32 b) t) 0) 0) (λ b. not (any_of (same (take 32 b)) xs)) agree (used t) a
      ∙ sym (count_map (take 32) (λ x. not (any_of (same x) xs)) (used t))
    where
      zero_or : (c : Bool) → eqb (cond {A = ℕ} c 1 0) 0 ≡ not c
      zero_or true = refl
      zero_or false = refl

      agree : (b : List ℕ) → At (take 32 b) → eqb (get_or (reached t xs (replicate n 0)) (place_of (take 32 b) t) 0) 0 ≡ not (any_of (same (take 32 b)) xs)
      agree b k =
          let r : ◌≡◌ {A = ℕ} (get_or (replicate n 0) (place_of (take 32 b) t) 0) 0 = get_or-replicate n (place_of (take 32 b) t) 0 0 (omega (arith, k.1, few w u t s)) in
          ap (λ (f : ℕ). eqb f 0) (flag_is (take 32 b) k xs l (replicate n 0) (omega (arith, length-replicate {A = ℕ} n 0)) ∙ ap (cond (any_of (same (take 32 b)) xs) 1) r)
          ∙ zero_or (any_of (same (take 32 b)) xs)

  -- the flags of the tags that were reached tell which tags are lacking
  pub unflagged-lacking : 33 ≤ w → All (λ (r : List ℕ). length r ≡ w) t → (xs : List (List ℕ)) → All (λ y. length y ≡ 32) xs → (n : ℕ) → length t ≤ n
      → unflagged t (reached t xs (replicate n 0)) ≡ lacking (map (take 32) (used t)) xs
  unflagged-lacking h wide = held (all_from (λ b. At (take 32 b)) (used t) each)
    where
      each : (i : ℕ) → i < length (used t) → At (take 32 (get_or (used t) i []))
      each i k =
          let l : i < u = omega (arith, used-length w u t s) in
          let b = body_at w u t s i l in
          let d = all_at (λ (r : List ℕ). length r ≡ w) t i (omega (arith, few w u t s)) wide in
          let e : length (take 32 (get_or (used t) i [])) ≡ 32 = length-take-le 32 (get_or (used t) i []) (rw b (omega (arith, length-drop 1 (get_or t i [])))) in
          (e, omega (arith, place_le w u t s (take 32 (get_or (used t) i [])) e i l (ap (λ (x : List ℕ). same x (take 32 (get_or (used t) i []))) (get_d_map (take 32) (used t) i k) ∙ same_refl (take 32 (get_or (used t) i [])))))

-- ---- the rows that a count of flags has still to go over

pub unflagged_start : (t : Table) (flags : List ℕ) → 0 + count (λ b. eqb (get_or flags (place_of (take 32 b) t) 0) 0) (drop 0 (used t)) ≡ unflagged t flags
unfolding unflagged
unflagged_start t flags = zero-add (count (λ b. eqb (get_or flags (place_of (take 32 b) t) 0) 0) (used t))

pub unflagged_turn : (t : Table) (flags : List ℕ) (i : ℕ) → i < length (used t)
    → count (λ b. eqb (get_or flags (place_of (take 32 b) t) 0) 0) (drop i (used t))
    ≡ bit (eqb (get_or flags (place_of (get_or (map (take 32) (used t)) i []) t) 0) 0) + count (λ b. eqb (get_or flags (place_of (take 32 b) t) 0) 0) (drop (i + 1) (used t))
unflagged_turn t flags i h =
    rw (add-one i, get_d_map (take 32) (used t) i h) (ap (count (λ b. eqb (get_or flags (place_of (take 32 b) t) 0) 0)) (drop-cons (used t) i [] h))

pub unflagged_end : (t : Table) (flags : List ℕ) (i r : ℕ) → length (used t) ≤ i → r + count (λ b. eqb (get_or flags (place_of (take 32 b) t) 0) 0) (drop i (used t)) ≡ unflagged t flags → r ≡ unflagged t flags
unflagged_end t flags i r h e =
    sym (add-zero r) ∙ ap (λ (l : List (List ℕ)). r + count (λ b. eqb (get_or flags (place_of (take 32 b) t) 0) 0) l) (sym (drop_of_length-le (used t) h)) ∙ e

-- ---- the tags that are still to be reached

pub record Reaching (t : Table) (xs : List (List ℕ)) (flags₀ : List ℕ) (j lost : ℕ) (flags : List ℕ) : Type 0 where
  pub told : lost + count (λ x. not (any_of (same x) (map (take 32) (used t)))) (drop j xs) ≡ lacking xs (map (take 32) (used t))
  pub flagged : reached t (drop j xs) flags ≡ reached t xs flags₀
  pub long : length flags ≡ length flags₀
  pub most : lost ≤ j

pub reach_start : (t : Table) (xs : List (List ℕ)) (flags : List ℕ) → Reaching t xs flags 0 0 flags
unfolding lacking
reach_start t xs flags = record { told = zero-add (count (λ x. not (any_of (same x) (map (take 32) (used t)))) xs); flagged = refl; long = refl; most = omega arith }

module _ (t : Table) (xs : List (List ℕ)) (flags₀ : List ℕ) (j lost : ℕ) (flags : List ℕ) (r : Reaching t xs flags₀ j lost flags) where
  pub reach_end : length xs ≤ j → (lost ≡ lacking xs (map (take 32) (used t))) × (flags ≡ reached t xs flags₀)
  reach_end h =
      let e : drop j xs ≡ [] = drop_of_length-le xs h in (
        sym (add-zero lost) ∙ ap (λ (l : List (List ℕ)). lost + count (λ x. not (any_of (same x) (map (take 32) (used t)))) l) (sym e) ∙ r.told,
        ap (λ (l : List (List ℕ)). reached t l flags) (sym e) ∙ r.flagged,
      )

  pub reach_turn : j < length xs → (b : Bool) → ltb (place_of (get_or xs j []) t) (length t) ≡ b
      → Reaching t xs flags₀ (j + 1) (lost + bit (not b)) (cond b (set flags (place_of (get_or xs j []) t) 1) flags)
  reach_turn h b e =
      let d : drop j xs ≡ get_or xs j [] ∷ drop (j + 1) xs = drop-cons xs j [] h ∙ ap (λ (i : ℕ). get_or xs j [] ∷ drop i xs) (sym (add-one j)) in
      let f : count (λ x. not (any_of (same x) (map (take 32) (used t)))) (drop j xs) ≡ bit (not b) + count (λ x. not (any_of (same x) (map (take 32) (used t)))) (drop (j + 1) xs) =
      ap (count (λ x. not (any_of (same x) (map (take 32) (used t))))) d
      ∙ ap (λ (c : Bool). bit (not c) + count (λ x. not (any_of (same x) (map (take 32) (used t)))) (drop (j + 1) xs)) (any_place (get_or xs j []) t ∙ e) in
      let q = r.told in
      record {
        told = omega arith;
        flagged = ap (λ (c : Bool). reached t (drop (j + 1) xs) (cond c (set flags (place_of (get_or xs j []) t) 1) flags)) (sym e) ∙ ap (λ (l : List (List ℕ)). reached t l flags) (sym d) ∙ r.flagged;
        long = same-long b ∙ r.long;
        most = omega (arith, r.most, bit_le (not b));
      }
    where
      same-long : (c : Bool) → length (cond c (set flags (place_of (get_or xs j []) t) 1) flags) ≡ length flags
      same-long true = length-set flags (place_of (get_or xs j []) t) 1
      same-long false = refl
