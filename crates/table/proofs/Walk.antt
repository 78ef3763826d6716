-- Laws for the code: the row at an index as a part of the bytes, one row further in a walk over the rows, and a row that was
-- lent and has come back.
use Prim.Native.Nat.{ℕ, zero, suc, ◌+◌, ◌*◌, ◌-◌, ◌≤◌, ◌<◌}
use mathlib.Core.Path.{◌≡◌, refl, sym, ap, ap₂, ◌∙◌}
use mathlib.Core.Bool.{Bool, true, false, cond, not, ◌&&◌, ◌||◌, true≢false}
use mathlib.Core.Option.{Option, none, some}
use mathlib.Core.List.{List, [], ◌∷◌, ◌++◌, append_assoc}
use native.Mathlib.Nat.{mul-zero, mul-suc, add-zero, mul-le-mul_left, add-sub_cancel_left, not-suc-le-zero, le_of_suc-le-suc}
use native.Mathlib.Numerals.{add-one}
use native.Mathlib.Omega.{arith}
use lib.Dec.{eqb, ltb}
use lib.ListN.{length, get_or, take, drop, set, length-drop, drop_of_length-le, take-append-drop}
use lib.Pointwise.{pointwise}
use lib.Seq.{take_all, take_at, drop_at, take-add, take-take, drop-drop, drop-cons, get_or-take, get_or-drop, take-nil, length-take-le}
use borrow.Author.Tests.{ne_eqb, le-ltb, ltb-true, ltb-false}
use Rattle.std.specs.List.{starts_with}
use Rattle.octets.specs.Part.{back}
use Rattle.octets.proofs.Parts.{length_part}
use Rattle.table.specs.Lists.{bit, same, count, first, is_some, flat}
use Rattle.table.specs.Table.{Row, Table, rows, mark_of, mark_bad, is_free, body, used, has_tag, lookup, holds, index_of, place_of}
use Rattle.table.proofs.Counting.{same_sym}
use Rattle.table.proofs.Rows.{rows-length, place_held}

-- ---- the row at an index

-- a row ends within its table
pub row_end : (w n i : ℕ) → i < n → w * i + w ≤ w * n
row_end w n i h = omega (arith, mul-le-mul_left w h, mul-suc w i)

pub row_at : (w n i : ℕ) (t : List ℕ) → i < n → get_or (rows w n t) i [] ≡ take w (drop (w * i) t)
row_at w zero i t h = absurd (not-suc-le-zero h)
row_at w (suc n) zero t h = rw (mul-zero w)
row_at w (suc n) (suc i) t h =
    let e : w + w * i ≡ w * suc i = omega (arith, mul-suc w i) in
    row_at w n i (drop w t) (le_of_suc-le-suc h) ∙ ap (take w) (drop-drop (w * i) w t ∙ ap (λ (k : ℕ). drop k t) e)

-- the part from a row's start to its end is the row
pub row_part : (w n i : ℕ) (t : List ℕ) → i < n → take (w * i + w - w * i) (drop (w * i) t) ≡ get_or (rows w n t) i []
row_part w n i t h = ap (λ (k : ℕ). take k (drop (w * i) t)) (add-sub_cancel_left (w * i) w) ∙ sym (row_at w n i t h)

pub row_length : (w n i : ℕ) (t : List ℕ) → i < n → length t ≡ w * n → length (take (w * i + w - w * i) (drop (w * i) t)) ≡ w
row_length w n i t h e =
    length_part t (w * i) (w * i + w) (omega (arith, row_end w n i h)) ∙ add-sub_cancel_left (w * i) w

pub drop-take : (a w : ℕ) (l : List ℕ) → drop a (take w l) ≡ take (w - a) (drop a l)
drop-take zero w l = ap (λ (m : ℕ). take m l) (let e : w ≡ w - 0 = omega arith in e)
drop-take (suc a) zero l = ap (λ (m : ℕ). take m (drop (suc a) l)) (let e : 0 ≡ 0 - suc a = omega arith in e)
drop-take (suc a) (suc w) [] = sym (take-nil (suc w - suc a))
drop-take (suc a) (suc w) (x ∷ xs) = drop-take a w xs ∙ ap (λ (m : ℕ). take m (drop a xs)) (let e : w - a ≡ suc w - suc a = omega arith in e)

-- a row from its byte a on; k bytes of it; the same of a row without its mark
pub tail_at : (w n i a : ℕ) (t : List ℕ) → i < n → drop a (get_or (rows w n t) i []) ≡ take (w - a) (drop (w * i + a) t)
tail_at w n i a t h =
    ap (λ (r : Row). drop a r) (row_at w n i t h) ∙ drop-take a w (drop (w * i) t) ∙ ap (λ (l : List ℕ). take (w - a) l) (drop-drop a (w * i) t)

pub field_at : (w n i a k : ℕ) (t : List ℕ) → i < n → a + k ≤ w → take k (drop a (get_or (rows w n t) i [])) ≡ take k (drop (w * i + a) t)
field_at w n i a k t h f = ap (λ (l : List ℕ). take k l) (tail_at w n i a t h) ∙ take-take k (w - a) (drop (w * i + a) t) (omega arith)

pub body_tail : (w n i a : ℕ) (t : List ℕ) → i < n → drop a (body (get_or (rows w n t) i [])) ≡ take (w - (1 + a)) (drop (w * i + (1 + a)) t)
body_tail w n i a t h = drop-drop a 1 (get_or (rows w n t) i []) ∙ tail_at w n i (1 + a) t h

pub body_field : (w n i a k : ℕ) (t : List ℕ) → i < n → 1 + a + k ≤ w → take k (drop a (body (get_or (rows w n t) i []))) ≡ take k (drop (w * i + (1 + a)) t)
body_field w n i a k t h f = ap (λ (l : List ℕ). take k l) (drop-drop a 1 (get_or (rows w n t) i [])) ∙ field_at w n i (1 + a) k t h f

pub mark_at : (w n i : ℕ) (t : List ℕ) → 1 ≤ w → i < n → mark_of (get_or (rows w n t) i []) ≡ get_or t (w * i) 0
mark_at w n i t p h =
    ap mark_of (row_at w n i t h) ∙ get_or-take w (drop (w * i) t) 0 0 p ∙ get_or-drop (w * i) t 0 0
    ∙ ap (λ (k : ℕ). get_or t k 0) (add-zero (w * i))

-- what `starts_with` tells of a used row's body
pub starts_said : (key row : List ℕ) (r : Bool) → length key < length row → (get_or row 0 0 ≡ 0 → ⊥)
    → r ≡ starts_with eqb (take (length row - 1) (drop 1 row)) key → r ≡ (not (is_free row) && same (take (length key) (body row)) key)
starts_said key row r h u e =
    rw (ne_eqb (get_or row 0 0) 0 u)
    (e ∙ ap (λ (l : List ℕ). starts_with eqb l key) (take_all (length row - 1) (drop 1 row) (omega (arith, length-drop 1 row)))
    ∙ go key (take (length key) (drop 1 row)) ∙ same_sym key (take (length key) (drop 1 row)))
  where
    go : (a b : List ℕ) → pointwise eqb a b ≡ same a b
    go [] [] = refl
    go [] (y ∷ ys) = refl
    go (x ∷ xs) [] = refl
    go (x ∷ xs) (y ∷ ys) = ap (λ (t : Bool). eqb x y && t) (go xs ys)

-- the rows, one after the other, are the bytes
pub flat_rows : (w n : ℕ) (t : List ℕ) → length t ≡ w * n → flat (rows w n t) ≡ t
flat_rows w zero t h = sym (empty t (h ∙ mul-zero w))
  where
    empty : (l : List ℕ) → length l ≡ 0 → l ≡ []
    empty [] e = refl
    empty (x ∷ xs) e = absurd (omega arith)
flat_rows w (suc n) t h =
    ap (λ (l : List ℕ). take w t ++ l) (flat_rows w n (drop w t) (omega (arith, length-drop w t, mul-suc w n))) ∙ take-append-drop w t

-- only the first rows' bytes count
pub rows_take : (w n k : ℕ) (t : List ℕ) → w * n ≤ k → rows w n (take k t) ≡ rows w n t
rows_take w zero k t h = refl
rows_take w (suc n) k t h =
    let m = mul-suc w n in
    ap₂ (λ (r : Row) (rs : Table). r ∷ rs) (take-take w k t (omega arith))
    (ap (rows w n) (drop-take w k t) ∙ rows_take w n (k - w) (drop w t) (omega arith))

-- ---- one row further

-- counting by the mark
pub count_turn : (p : ℕ → Bool) (w n i : ℕ) (t : List ℕ) → 1 ≤ w → i < n
    → count (λ r. p (mark_of r)) (drop i (rows w n t)) ≡ bit (p (get_or t (w * i) 0)) + count (λ r. p (mark_of r)) (drop (i + 1) (rows w n t))
count_turn p w n i t q h =
    rw (add-one i, drop-cons (rows w n t) i [] (rw (rows-length w n t) h))
    (ap (λ (x : ℕ). bit (p x) + count (λ r. p (mark_of r)) (drop (suc i) (rows w n t))) (mark_at w n i t q h))

pub count_end : (p : Row → Bool) (w n i x z : ℕ) (t : List ℕ) → n ≤ i → x + count p (drop i (rows w n t)) ≡ z → x ≡ z
count_end p w n i x z t h e =
    let l : length (rows w n t) ≤ i = rw (rows-length w n t) h in
    sym (add-zero x) ∙ ap (λ (r : Table). x + count p r) (sym (drop_of_length-le (rows w n t) l)) ∙ e

-- the same of a mark above the greatest
pub bad_turn : (most w n i : ℕ) (t : List ℕ) (b : Bool) → 1 ≤ w → i < n
    → ((b || ltb most (get_or t (w * i) 0)) || mark_bad most (drop (i + 1) (rows w n t))) ≡ (b || mark_bad most (drop i (rows w n t)))
bad_turn most w n i t b q h =
    rw (add-one i, drop-cons (rows w n t) i [] (rw (rows-length w n t) h), mark_at w n i t q h) (either b _ _)
  where
    either : (b c d : Bool) → ((b || c) || d) ≡ (b || (c || d))
    either true c d = refl
    either false c d = refl

pub bad_end : (most w n i : ℕ) (t : List ℕ) (b z : Bool) → n ≤ i → (b || mark_bad most (drop i (rows w n t))) ≡ z → b ≡ z
bad_end most w n i t b z h e =
    let l : length (rows w n t) ≤ i = rw (rows-length w n t) h in
    go b (rw (drop_of_length-le (rows w n t) l) at e)
  where
    go : (b : Bool) → (b || false) ≡ z → b ≡ z
    go true e = e
    go false e = e

-- ---- what an index tells

-- the row at a tag's place is what a lookup finds [01:ST13]
pub place_found : (tag : List ℕ) (t : Table) → place_of tag t < length t → lookup tag t ≡ some (body (get_or t (place_of tag t) []))
unfolding place_of lookup
place_found tag t h = found t h
  where
    at : Table → ℕ
    at t = index_of (λ r. not (is_free r) && has_tag tag (body r)) t

    found : (t : Table) → index_of (λ r. not (is_free r) && has_tag tag (body r)) t < length t → first (has_tag tag) (used t) ≡ some (body (get_or t (index_of (λ r. not (is_free r) && has_tag tag (body r)) t) []))
    found [] h = absurd (not-suc-le-zero h)
    found (r ∷ rs) h = go (is_free r) h (found rs)
      where
        go : (b : Bool) → cond (not b && has_tag tag (body r)) zero (suc (at rs)) < suc (length rs)
            → (at rs < length rs → first (has_tag tag) (used rs) ≡ some (body (get_or rs (at rs) [])))
            → first (has_tag tag) (cond b (used rs) (body r ∷ used rs)) ≡ some (body (get_or (r ∷ rs) (cond (not b && has_tag tag (body r)) zero (suc (at rs))) []))
        go true h k = k (le_of_suc-le-suc h)
        go false h k = has (has_tag tag (body r)) h
          where
            has : (d : Bool) → cond d zero (suc (at rs)) < suc (length rs)
                → cond d (some (body r)) (first (has_tag tag) (used rs)) ≡ some (body (get_or (r ∷ rs) (cond d zero (suc (at rs))) []))
            has true h = refl
            has false h = k (le_of_suc-le-suc h)

pub place_holds : (tag : List ℕ) (t : Table) → holds tag t ≡ ltb (place_of tag t) (length t)
place_holds tag t = go (ltb (place_of tag t) (length t)) refl
  where
    go : (b : Bool) → ltb (place_of tag t) (length t) ≡ b → holds tag t ≡ b
    go true e = unfold holds in ap is_some (place_found tag t (ltb-true (place_of tag t) (length t) e))
    go false e = missing (holds tag t) refl
      where
        missing : (b : Bool) → holds tag t ≡ b → b ≡ false
        missing true h = absurd (omega (arith, (place_held tag t h).inside, ltb-false (place_of tag t) (length t) e))
        missing false h = refl

pub place_none : (tag : List ℕ) (t : Table) → length t ≤ place_of tag t → lookup tag t ≡ none
place_none tag t h = go (lookup tag t) (unfold holds in (place_holds tag t ∙ le-ltb (place_of tag t) (length t) h))
  where
    go : (o : Option (List ℕ)) → is_some o ≡ false → o ≡ none
    go none e = refl
    go (some x) e = absurd (true≢false e)

-- ---- a row that was lent and has come back

back_later : (w a e : ℕ) (t ys : List ℕ) → back t (w + a) (w + e) ys ≡ take w t ++ back (drop w t) a e ys
back_later w a e t ys =
    let d : w + e - (w + a) ≡ e - a = omega arith in
    rw (take-add w a t, d, ← drop-drop a w t) (append_assoc (take w t) (take a (drop w t)) (ys ++ drop (e - a) (drop a (drop w t))))

pub rows_back : (w n i : ℕ) (t ys : List ℕ) → i < n → length ys ≡ w → w * n ≤ length t → rows w n (back t (w * i) (w * i + w) ys) ≡ set (rows w n t) i ys
rows_back w zero i t ys h l f = absurd (not-suc-le-zero h)
rows_back w (suc n) zero t ys h l f =
    let d : 0 + w - 0 ≡ w = omega arith in
    rw (mul-zero w, d, take_at ys (drop w t) w l, drop_at ys (drop w t) w l) refl
rows_back w (suc n) (suc i) t ys h l f =
    let a : w * suc i ≡ w + w * i = omega (arith, mul-suc w i) in
    let e : w * suc i + w ≡ w + (w * i + w) = omega arith in
    let m = mul-suc w n in
    let k : length (take w t) ≡ w = length-take-le w t (omega arith) in
    rw (e, a, back_later w (w * i) (w * i + w) t ys, take_at (take w t) (back (drop w t) (w * i) (w * i + w) ys) w k, drop_at (take w t) (back (drop w t) (w * i) (w * i + w) ys) w k)
    (ap (λ (r : Table). take w t ∷ r) (rows_back w n i (drop w t) ys (le_of_suc-le-suc h) l (omega (arith, length-drop w t))))
