-- Laws of the check of form: the first eight bytes as a number order rows, neighbours decide whether rows ascend, and the free rows
-- are all zero where every byte behind the first n - free rows is.
use Prim.Native.Nat.{ℕ, zero, suc, ◌+◌, ◌*◌, ◌-◌, ◌≤◌, ◌<◌}
use mathlib.Core.Path.{◌≡◌, refl, sym, ap, ap₂, subst, ◌∙◌}
use mathlib.Core.Bool.{Bool, true, false, not, ◌&&◌, ◌||◌}
use mathlib.Core.List.{List, [], ◌∷◌, ◌++◌}
use native.Mathlib.Nat.{mul-suc, mul-add}
use native.Mathlib.Numerals.{add-one}
use native.Mathlib.Omega.{arith}
use lib.Bits.{bit_or, or_add_and, and_le_l, and_le_r, or_zero_l}
use lib.Dec.{eqb, ltb}
use lib.ListN.{length, get_or, take, drop, replicate, length-take, length-drop, length-replicate, drop_of_length-le, take-append-drop, get_or-eq_default}
use lib.Seq.{drop-cons, take_at, drop_at, get_or-take, length-take-le}
use borrow.Author.Tests.{eq-eqb, eqb-true, eqb-false, ltb-true, ltb-false, not-true}
use Rattle.octets.specs.Number.{continued, number}
use Rattle.table.specs.Lists.{same, count, flat, All}
use Rattle.table.specs.Table.{Row, Table, rows, is_free, free_rows, zero_row}
use Rattle.table.specs.Order.{precedes, ascending, used_rows, in_form}
use Rattle.table.proofs.Counting.{both, same_true, same-eq, count-append, count-le, none_any, all_map}
use Rattle.table.proofs.Rows.{rows-length, rows_zero}
use Rattle.table.proofs.Walk.{flat_rows, row_part}
use Rattle.table.proofs.Cuts.{rows_behind, rows_blank}
use Rattle.table.proofs.Order.{precedes_not, not_before_trans, Ascending, ascending-true, true-ascending, none_all, Used, rows_counted, filled_free, filled_form, InForm, form_true, true_form}
use Rattle.table.proofs.Search.{take-precedes}

-- ---- eight bytes as one number

-- a number that is less stays less, whatever bytes follow
continued_less : (a b : ℕ) (x y : List ℕ) → length x ≡ length y → ((i : ℕ) → get_or x i 0 < 256) → a < b → continued a x < continued b y
unfolding continued
continued_less a b [] [] l h e = e
continued_less a b [] (y ∷ ys) l h e = absurd (omega arith)
continued_less a b (x ∷ xs) [] l h e = absurd (omega arith)
continued_less a b (x ∷ xs) (y ∷ ys) l h e = let k : x < 256 = h 0 in continued_less (a * 256 + x) (b * 256 + y) xs ys (omega arith) (λ i. h (suc i)) (omega arith)

continued-precedes : (a : ℕ) (x y : List ℕ) → length x ≡ length y → ((i : ℕ) → get_or x i 0 < 256) → ((i : ℕ) → get_or y i 0 < 256)
    → continued a x < continued a y → precedes x y ≡ true
unfolding continued
continued-precedes a [] [] l h k e = absurd (omega arith)
continued-precedes a [] (y ∷ ys) l h k e = refl
continued-precedes a (x ∷ xs) [] l h k e = absurd (omega arith)
continued-precedes a (x ∷ xs) (y ∷ ys) l h k e = go (ltb x y) (eqb x y) refl refl (λ m. continued-precedes (a * 256 + x) xs ys (omega arith) (λ i. h (suc i)) (λ i. k (suc i)) m) (λ m. continued_less (a * 256 + y) (a * 256 + x) ys xs (omega arith) (λ i. k (suc i)) m)
  where
    go : (p q : Bool) → ltb x y ≡ p → eqb x y ≡ q → (continued (a * 256 + x) xs < continued (a * 256 + x) ys → precedes xs ys ≡ true)
        → (a * 256 + y < a * 256 + x → continued (a * 256 + y) ys < continued (a * 256 + x) xs) → (p || (q && precedes xs ys)) ≡ true
    go true q m n rest less = refl
    go false true m n rest less = rest (rw (eqb-true x y n) (rw (eqb-true x y n) at e))
    go false false m n rest less =
        let o = ltb-false x y m in
        let d = eqb-false x y n in
        absurd (omega (arith, less (above x y o d)))
      where
        above : (x y : ℕ) → y ≤ x → (x ≡ y → ⊥) → a * 256 + y < a * 256 + x
        above x y o d = at (ltb y x) refl
          where
            at : (b : Bool) → ltb y x ≡ b → a * 256 + y < a * 256 + x
            at true b = omega (arith, ltb-true y x b)
            at false b = absurd (d (omega (arith, ltb-false y x b)))

-- rows are ordered by their first eight bytes, where these differ
pub eight_before : (x y : List ℕ) → length x ≡ length y → 8 ≤ length x → ((i : ℕ) → get_or x i 0 < 256) → ((i : ℕ) → get_or y i 0 < 256)
    → number (take 8 x) < number (take 8 y) → precedes x y ≡ true
eight_before x y l e h k n =
    take-precedes 8 x y
    (continued-precedes 0 (take 8 x) (take 8 y) (omega (arith, length-take-le 8 x e, length-take-le 8 y (omega arith))) (λ i. part x i (h i)) (λ i. part y i (k i)) n)
  where
    part : (x : List ℕ) (i : ℕ) → get_or x i 0 < 256 → get_or (take 8 x) i 0 < 256
    part x i h = go (ltb i 8) refl
      where
        go : (b : Bool) → ltb i 8 ≡ b → get_or (take 8 x) i 0 < 256
        go true b = rw (get_or-take 8 x i 0 (ltb-true i 8 b)) h
        go false b = rw (get_or-eq_default (take 8 x) 0 {n = i} (omega (arith, length-take 8 x, ltb-false i 8 b))) (omega arith)

pub eight_after : (x y : List ℕ) → length x ≡ length y → 8 ≤ length x → ((i : ℕ) → get_or x i 0 < 256) → ((i : ℕ) → get_or y i 0 < 256)
    → number (take 8 y) < number (take 8 x) → precedes x y ≡ false
eight_after x y l e h k n = precedes_not y x (eight_before y x (sym l) (omega arith) k h n)

-- ---- neighbours

-- no row comes before the one in front of it
abbrev pub rising : List Row → Bool
rising [] = true
rising (r ∷ []) = true
rising (r ∷ s ∷ rest) = not (precedes s r) && rising (s ∷ rest)

agree : (a b : Bool) → (a ≡ true → b ≡ true) → (b ≡ true → a ≡ true) → a ≡ b
agree true b f g = sym (f refl)
agree false true f g = g refl
agree false false f g = refl

pub rising-ascending : (l : List Row) → rising l ≡ ascending l
rising-ascending l = agree (rising l) (ascending l) (λ e. true-ascending l (up l e)) (λ e. down l (ascending-true l e))
  where
    up : (l : List Row) → rising l ≡ true → Ascending l
    up [] e = tt
    up (r ∷ []) e = (tt, tt)
    up (r ∷ s ∷ rest) e =
        let h = both (not (precedes s r)) (rising (s ∷ rest)) e in
        let f : precedes s r ≡ false = not-true (precedes s r) h.0 in
        let a = up (s ∷ rest) h.1 in
        ((f, all_map (λ y g. not_before_trans r s y f g) rest a.0), a)

    down : (l : List Row) → Ascending l → rising l ≡ true
    down [] a = refl
    down (r ∷ []) a = refl
    down (r ∷ s ∷ rest) a = rw a.0.0 (down (s ∷ rest) a.1)

-- one pair further
pub rising_next : (l : List Row) (i : ℕ) → 0 < i → i < length l → rising (drop (i - 1) l) ≡ (not (precedes (get_or l i []) (get_or l (i - 1) [])) && rising (drop i l))
rising_next l zero p h = absurd (omega arith)
rising_next l (suc i) p h =
    let e : suc i - 1 ≡ i = omega arith in
    rw (e, drop-cons l i [] (omega arith), drop-cons l (suc i) [] h)

pub rising_end : (l : List Row) (i : ℕ) → length l ≤ i → rising (drop (i - 1) l) ≡ true
rising_end l i h = go (drop (i - 1) l) (omega (arith, length-drop (i - 1) l))
  where
    go : (l : List Row) → length l ≤ 1 → rising l ≡ true
    go [] h = refl
    go (r ∷ []) h = refl
    go (r ∷ s ∷ rest) h = absurd (omega arith)

pub one_back : (i : ℕ) → i + 1 - 1 ≡ i
one_back i = omega arith

-- the row before a row; as a part of the bytes
pub row_before : (w i : ℕ) → 0 < i → w * i ≡ w * (i - 1) + w
row_before w zero p = absurd (omega arith)
row_before w (suc i) p = let e : suc i - 1 ≡ i = omega arith in rw e (omega (arith, mul-suc w i))

pub part_before : (w n i : ℕ) (t : List ℕ) → 0 < i → i < n → take (w * i - (w * i - w)) (drop (w * i - w) t) ≡ get_or (rows w n t) (i - 1) []
part_before w n i t p h =
    let e : w * i - w ≡ w * (i - 1) = omega (arith, row_before w i p) in
    rw (e, row_before w i p) (row_part w n (i - 1) t (omega arith))

-- ---- zeros

abbrev pub zeros : List ℕ → Bool
zeros l = same l (replicate (length l) 0)

or_zero : (a b : ℕ) → eqb (bit_or a b) 0 ≡ (eqb a 0 && eqb b 0)
or_zero a b = agree (eqb (bit_or a b) 0) (eqb a 0 && eqb b 0) fwd back
  where
    fwd : eqb (bit_or a b) 0 ≡ true → (eqb a 0 && eqb b 0) ≡ true
    fwd e =
        let o = eqb-true (bit_or a b) 0 e in
        let s = or_add_and a b in
        let l = and_le_l a b in
        let r = and_le_r a b in
        rw (eq-eqb a 0 (omega arith), eq-eqb b 0 (omega arith)) refl

    back : (eqb a 0 && eqb b 0) ≡ true → eqb (bit_or a b) 0 ≡ true
    back e =
        let h = both (eqb a 0) (eqb b 0) e in
        eq-eqb (bit_or a b) 0 (ap₂ (λ (x y : ℕ). bit_or x y) (eqb-true a 0 h.0) (eqb-true b 0 h.1) ∙ or_zero_l 0)

pub zeros_next : (s i : ℕ) (t : List ℕ) → i < length t → (eqb (bit_or s (get_or t i 0)) 0 && zeros (drop (i + 1) t)) ≡ (eqb s 0 && zeros (drop i t))
zeros_next s i t h = rw (add-one i, drop-cons t i 0 h, or_zero s (get_or t i 0)) (go (eqb s 0))
  where
    go : (b : Bool) → ((b && eqb (get_or t i 0) 0) && zeros (drop (suc i) t)) ≡ (b && (eqb (get_or t i 0) 0 && zeros (drop (suc i) t)))
    go true = refl
    go false = refl

pub zeros_end : (s i : ℕ) (t : List ℕ) (z : Bool) → length t ≤ i → (eqb s 0 && zeros (drop i t)) ≡ z → eqb s 0 ≡ z
zeros_end s i t z h e = go (eqb s 0) (sym (ap (λ (l : List ℕ). eqb s 0 && zeros l) (drop_of_length-le t h)) ∙ e)
  where
    go : (b : Bool) → (b && true) ≡ z → b ≡ z
    go true e = e
    go false e = e

-- ---- the check

module _ (w n free : ℕ) (t : List ℕ) (l : length t ≡ w * n) (f : free ≡ free_rows (rows w n t)) where
  pub free_most : free ≤ n
  free_most = omega (arith, count-le is_free (rows w n t), rows-length w n t)

  -- the rows behind the used ones, as bytes
  behind : drop (w * (n - free)) t ≡ flat (drop (n - free) (rows w n t))
  behind =
      let e : w * n ≡ w * (n - free) + w * (n - (n - free)) =
      ap (λ (k : ℕ). w * k) (let e : n ≡ n - free + (n - (n - free)) = omega arith in e) ∙ mul-add w (n - free) (n - (n - free)) in
      sym (ap flat (rows_behind w n (n - free) t (omega arith))
      ∙ flat_rows w (n - (n - free)) (drop (w * (n - free)) t) (omega (arith, length-drop (w * (n - free)) t)))

  front_asc : InForm w (rows w n t) → take (n - free) (rows w n t) ≡ used_rows (rows w n t)
  front_asc g =
      ap (take (n - free)) g.filled
      ∙ take_at (used_rows (rows w n t)) (replicate (free_rows (rows w n t)) (zero_row w)) (n - free) (omega (arith, rows_counted (rows w n t), rows-length w n t))

  back_zero : InForm w (rows w n t) → drop (n - free) (rows w n t) ≡ replicate (free_rows (rows w n t)) (zero_row w)
  back_zero g =
      ap (drop (n - free)) g.filled
      ∙ drop_at (used_rows (rows w n t)) (replicate (free_rows (rows w n t)) (zero_row w)) (n - free) (omega (arith, rows_counted (rows w n t), rows-length w n t))

  in_form_lem : InForm w (rows w n t) → (ascending (take (n - free) (rows w n t)) && zeros (drop (w * (n - free)) t)) ≡ true
  in_form_lem g =
      let k = free_rows (rows w n t) in
      let z : drop (w * (n - free)) t ≡ replicate (w * k) 0 = behind ∙ ap flat (back_zero g) ∙ rows_zero w k in
      rw (front_asc g, true-ascending (used_rows (rows w n t)) g.order)
      (same-eq (drop (w * (n - free)) t) (replicate (length (drop (w * (n - free)) t)) 0)
      (z ∙ ap (λ (m : ℕ). replicate m 0) (sym (ap length z ∙ length-replicate (w * k) 0))))

  checked : (ascending (take (n - free) (rows w n t)) && zeros (drop (w * (n - free)) t)) ≡ true → InForm w (rows w n t)
  checked e = subst (InForm w) whole (filled_form w free us used (ascending-true us h.0))
    where
      us : List Row
      us = take (n - free) (rows w n t)

      h : (ascending (take (n - free) (rows w n t)) ≡ true) × (zeros (drop (w * (n - free)) t) ≡ true)
      h = both (ascending (take (n - free) (rows w n t))) (zeros (drop (w * (n - free)) t)) e

      bytes : drop (w * (n - free)) t ≡ replicate (w * free) 0
      bytes =
          let p : w * n ≡ w * (n - free) + w * free = ap (λ (k : ℕ). w * k) (let e : n ≡ n - free + free = omega (arith, free_most) in e) ∙ mul-add w (n - free) free in
          same_true (drop (w * (n - free)) t) (replicate (length (drop (w * (n - free)) t)) 0) h.1
          ∙ ap (λ (m : ℕ). replicate m 0) (let q : length (drop (w * (n - free)) t) ≡ w * free = omega (arith, length-drop (w * (n - free)) t) in q)

      rest : drop (n - free) (rows w n t) ≡ replicate free (zero_row w)
      rest =
          rows_behind w n (n - free) t (omega arith)
          ∙ ap₂ (λ (m : ℕ) (l : List ℕ). rows w m l) (let d : n - (n - free) ≡ free = omega (arith, free_most) in d) bytes ∙ rows_blank w free

      whole : take (n - free) (rows w n t) ++ replicate free (zero_row w) ≡ rows w n t
      whole = ap (λ (l : Table). take (n - free) (rows w n t) ++ l) (sym rest) ∙ take-append-drop (n - free) (rows w n t)

      used : All Used (take (n - free) (rows w n t))
      used =
          let a = count-append is_free (take (n - free) (rows w n t)) (replicate free (zero_row w)) in
          let b = filled_free w free [] tt in
          let c : count is_free (take (n - free) (rows w n t) ++ replicate free (zero_row w)) ≡ free = ap (count is_free) whole ∙ sym f in
          none_all is_free (take (n - free) (rows w n t)) (none_any is_free (take (n - free) (rows w n t)) (omega arith))

  -- ascending used rows and nothing but zeros behind them [02:W2.1 W2.2 W2.3]
  pub form_is : in_form w (rows w n t) ≡ (ascending (take (n - free) (rows w n t)) && zeros (drop (w * (n - free)) t))
  form_is =
      agree (in_form w (rows w n t)) (ascending (take (n - free) (rows w n t)) && zeros (drop (w * (n - free)) t))
      (λ e. in_form_lem (form_true w (rows w n t) e)) (λ e. true_form w (rows w n t) (checked e))
