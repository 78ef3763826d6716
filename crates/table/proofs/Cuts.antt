-- Laws of a table cut between two rows: the first rows, the rows behind them, and rows of zeros.
use Prim.Native.Nat.{ℕ, zero, suc, ◌+◌, ◌*◌, ◌-◌, ◌≤◌}
use mathlib.Core.Path.{◌≡◌, refl, sym, ap, ap₂, ◌∙◌}
use mathlib.Core.List.{List, [], ◌∷◌, ◌++◌, append-nil}
use native.Mathlib.Nat.{mul-zero, mul-suc, mul-add, mul-le-mul_left, zero-add, not-suc-le-zero, le_of_suc-le-suc}
use native.Mathlib.Omega.{arith}
use lib.ListN.{length, take, drop, replicate, length-replicate, length-drop}
use lib.Seq.{drop-drop, take-append-le, drop-append-le, length-take-le}
use Rattle.octets.specs.Part.{back}
use Rattle.table.specs.Lists.{flat}
use Rattle.table.specs.Table.{Table, rows, free_rows, zero_row}
use Rattle.table.specs.Order.{used_rows}
use Rattle.table.proofs.Walk.{rows_take}
use Rattle.table.proofs.Order.{rows_counted}
use Rattle.table.proofs.Rows.{rows-length, rows-flat, rows_zero, all_replicate}

pub rows_front : (w n k : ℕ) (t : List ℕ) → k ≤ n → take k (rows w n t) ≡ rows w k t
rows_front w n zero t h = refl
rows_front w zero (suc k) t h = absurd (not-suc-le-zero h)
rows_front w (suc n) (suc k) t h = ap (λ (l : Table). take w t ∷ l) (rows_front w n k (drop w t) (le_of_suc-le-suc h))

pub rows_behind : (w n k : ℕ) (t : List ℕ) → k ≤ n → drop k (rows w n t) ≡ rows w (n - k) (drop (w * k) t)
rows_behind w n zero t h = let e : n ≡ n - 0 = omega arith in rw (mul-zero w) (ap (λ (m : ℕ). rows w m t) e)
rows_behind w zero (suc k) t h = absurd (not-suc-le-zero h)
rows_behind w (suc n) (suc k) t h =
    let d : n - k ≡ suc n - suc k = omega arith in
    let e : w + w * k ≡ w * suc k = omega (arith, mul-suc w k) in
    rows_behind w n k (drop w t) (le_of_suc-le-suc h)
    ∙ ap₂ (λ (m : ℕ) (l : List ℕ). rows w m l) d (drop-drop (w * k) w t ∙ ap (λ (m : ℕ). drop m t) e)

-- how many rows are used, where it is known how many are free
pub rows_used : (w n : ℕ) (t : List ℕ) → length (used_rows (rows w n t)) ≡ n - free_rows (rows w n t)
rows_used w n t = omega (arith, rows_counted (rows w n t), rows-length w n t)

-- zeros are rows of zeros
pub rows_blank : (w k : ℕ) → rows w k (replicate (w * k) 0) ≡ replicate k (zero_row w)
rows_blank w k =
    let z = replicate k (zero_row w) in
    ap₂ (λ (m : ℕ) (l : List ℕ). rows w m l) (sym (length-replicate k (zero_row w))) (sym (rows_zero w k) ∙ sym (append-nil (flat z)))
    ∙ rows-flat w z [] (all_replicate (λ r. length r ≡ w) k (zero_row w) (length-replicate w 0))

-- rows of two texts, one after the other
pub rows_append : (w a b : ℕ) (x y : List ℕ) → length x ≡ w * a → rows w (a + b) (x ++ y) ≡ rows w a x ++ rows w b y
rows_append w zero b x y h = rw (zero-add b, empty x (h ∙ mul-zero w)) refl
  where
    empty : (l : List ℕ) → length l ≡ 0 → l ≡ []
    empty [] e = refl
    empty (x ∷ xs) e = absurd (omega arith)
rows_append w (suc a) b x y h =
    let m = mul-suc w a in
    let e : suc a + b ≡ suc (a + b) = omega arith in
    let l : w ≤ length x = omega arith in
    rw (e, take-append-le w x y l, drop-append-le w x y l)
    (ap (λ (r : Table). take w x ∷ r) (rows_append w a b (drop w x) y (omega (arith, length-drop w x))))

-- rows between two that were zeroed
pub rows_wiped : (w n a e : ℕ) (t : List ℕ) → a ≤ e → e ≤ n → length t ≡ w * n
    → rows w n (back t (w * a) (w * e) (replicate (w * e - w * a) 0)) ≡ take a (rows w n t) ++ (replicate (e - a) (zero_row w) ++ drop e (rows w n t))
rows_wiped w n a e t h k l =
    let p : w * e ≡ w * a + w * (e - a) = ap (λ (m : ℕ). w * m) (let q : e ≡ a + (e - a) = omega arith in q) ∙ mul-add w a (e - a) in
    let m : n ≡ a + ((e - a) + (n - e)) = omega arith in
    let z : w * e - w * a ≡ w * (e - a) = omega arith in
    let d : w * a + (w * e - w * a) ≡ w * e = omega arith in
    let f = mul-le-mul_left w (let q : a ≤ n = omega arith in q) in
    ap₂ (λ (m : ℕ) (l : List ℕ). rows w m l) m
    (ap₂ (λ (m : ℕ) (r : List ℕ). take (w * a) t ++ (replicate m 0 ++ r)) z (drop-drop (w * e - w * a) (w * a) t ∙ ap (λ (m : ℕ). drop m t) d))
    ∙ rows_append w a ((e - a) + (n - e)) (take (w * a) t) (replicate (w * (e - a)) 0 ++ drop (w * e) t) (length-take-le (w * a) t (omega arith))
    ∙ ap₂ (λ (x y : Table). x ++ y) (rows_take w a (w * a) t (omega arith) ∙ sym (rows_front w n a t (omega arith)))
    (rows_append w (e - a) (n - e) (replicate (w * (e - a)) 0) (drop (w * e) t) (length-replicate (w * (e - a)) 0)
    ∙ ap₂ (λ (x y : Table). x ++ y) (rows_blank w (e - a)) (sym (rows_behind w n e t k)))
