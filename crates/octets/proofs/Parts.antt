-- Laws of a part that was lent and has come back (specs/Part): what stands before, in and after it.
use mathlib.Core.Path.{◌≡◌, refl, sym, ap, ap₂, ◌∙◌}
use mathlib.Core.List.{List, [], ◌∷◌, ◌++◌, map, map-append, append_assoc, append-nil}
use Prim.Native.Nat.{ℕ, suc, ◌+◌, ◌-◌, ◌<◌, ◌≤◌}
use native.Mathlib.Omega.{arith}
use native.Mathlib.Numerals.{add-one}
use lib.ListN.{length, length-append, length-take, length-drop, length-map, drop_of_length-le, take, drop, set, get_or, take-append-drop}
use lib.Seq.{take-suc, take_all, take_at, drop_at, drop-cons, drop-drop, get_or_at, set_at, length-take-le}
use Rattle.octets.specs.Part.{back, written}

-- how long a lent part is
pub length_part : (xs : List ℕ) (a e : ℕ) → e ≤ length xs → length (take (e - a) (drop a xs)) ≡ e - a
length_part xs a e h = length-take-le (e - a) (drop a xs) (omega (arith, length-drop a xs))

module _ (xs : List ℕ) (a e : ℕ) (ys : List ℕ) (ae : a ≤ e) (el : e ≤ length xs) (same : length ys ≡ e - a) where
  pub length_back : length (back xs a e ys) ≡ length xs
  length_back =
      length-append (take a xs) (ys ++ drop (e - a) (drop a xs))
      ∙ omega (arith, length-append ys (drop (e - a) (drop a xs)), length-drop (e - a) (drop a xs), length-drop a xs, length-take-le a xs (omega arith))

  -- before the part
  pub take_back : take a (back xs a e ys) ≡ take a xs
  take_back = take_at (take a xs) (ys ++ drop (e - a) (drop a xs)) a (length-take-le a xs (omega arith))

  -- the part
  pub part_back : take (e - a) (drop a (back xs a e ys)) ≡ ys
  part_back =
      ap (take (e - a)) (drop_at (take a xs) (ys ++ drop (e - a) (drop a xs)) a (length-take-le a xs (omega arith)))
      ∙ take_at ys (drop (e - a) (drop a xs)) (e - a) same

  -- after the part
  pub drop-back : drop e (back xs a e ys) ≡ drop e xs
  drop-back =
      ap (λ (n : ℕ). drop n (back xs a e ys)) (sum) ∙ sym (drop-drop (e - a) a (back xs a e ys))
      ∙ ap (drop (e - a)) (drop_at (take a xs) (ys ++ drop (e - a) (drop a xs)) a (length-take-le a xs (omega arith)))
      ∙ drop_at ys (drop (e - a) (drop a xs)) (e - a) same ∙ drop-drop (e - a) a xs ∙ ap (λ (n : ℕ). drop n xs) (sym sum)
    where
      sum : e ≡ a + (e - a)
      sum = omega arith

-- a part that comes back as it was lent changes nothing
pub back_same : (xs : List ℕ) (a e : ℕ) → back xs a e (take (e - a) (drop a xs)) ≡ xs
back_same xs a e = ap (λ (l : List ℕ). take a xs ++ l) (take-append-drop (e - a) (drop a xs)) ∙ take-append-drop a xs

-- parts that are written one after the other: the part behind front comes back as ys
pub back_next : (front junk ys : List ℕ) (a e : ℕ) → length front ≡ a
    → back (front ++ junk) a e ys ≡ (front ++ ys) ++ drop (e - a) junk
back_next front junk ys a e f = rw (take_at front junk a f, drop_at front junk a f) (sym (append_assoc front ys (drop (e - a) junk)))

-- ---- loops that change each byte in place

-- the first i elements changed by f
abbrev pub partly : (ℕ → ℕ) → ℕ → List ℕ → List ℕ
partly f i xs = map f (take i xs) ++ drop i xs

module _ (f : ℕ → ℕ) (i : ℕ) (xs : List ℕ) where
  pub length-partly : length (partly f i xs) ≡ length xs
  length-partly =
      length-append (map f (take i xs)) (drop i xs)
      ∙ omega (arith, length-map (take i xs) f, length-take i xs, length-drop i xs)

  pub partly_all : length xs ≤ i → partly f i xs ≡ map f xs
  partly_all h =
      ap₂ (λ (l r : List ℕ). map f l ++ r) (take_all i xs h) (drop_of_length-le xs h) ∙ append-nil (map f xs)

  module _ (h : i < length xs) where
    front : length (map f (take i xs)) ≡ i
    front = length-map (take i xs) f ∙ length-take-le i xs (omega arith)

    -- the next element is still as it was
    pub partly_at : get_or (partly f i xs) i 0 ≡ get_or xs i 0
    partly_at =
        ap (λ (l : List ℕ). get_or (map f (take i xs) ++ l) i 0) (drop-cons xs i 0 h)
        ∙ get_or_at (map f (take i xs)) (get_or xs i 0) (drop (suc i) xs) 0 i front

    pub partly_more : (to : List ℕ) → to ≡ partly f i xs → set to i (f (get_or to i 0)) ≡ partly f (i + 1) xs
    partly_more to e =
        ap₂ (λ (l : List ℕ) (x : ℕ). set l i (f x)) e (ap (λ (l : List ℕ). get_or l i 0) e ∙ partly_at)
        ∙ ap (λ (l : List ℕ). set (map f (take i xs) ++ l) i (f (get_or xs i 0))) (drop-cons xs i 0 h)
        ∙ set_at (map f (take i xs)) (get_or xs i 0) (drop (suc i) xs) (f (get_or xs i 0)) i front
        ∙ sym (append_assoc (map f (take i xs)) (f (get_or xs i 0) ∷ []) (drop (suc i) xs))
        ∙ rw (add-one i, take-suc xs i 0 h, map-append f (take i xs) (get_or xs i 0 ∷ []))

-- ---- pieces written one after the other

pub written_next : (front junk ys : List ℕ) (a : ℕ) → length front ≡ a → written (front ++ junk) a ys ≡ (front ++ ys) ++ drop (length ys) junk
written_next front junk ys a f =
    back_next front junk ys a (a + length ys) f ∙ ap (λ (k : ℕ). (front ++ ys) ++ drop k junk) (gap a (length ys))
  where
    gap : (a n : ℕ) → a + n - a ≡ n
    gap a n = omega arith

pub length-written : (xs ys : List ℕ) (a : ℕ) → a + length ys ≤ length xs → length (written xs a ys) ≡ length xs
length-written xs ys a h = length_back xs a (a + length ys) ys (omega arith) h (omega arith)

-- nothing is written; a piece after another
pub written_none : (xs : List ℕ) (a : ℕ) → written xs a [] ≡ xs
written_none xs a =
    ap (λ (k : ℕ). take a xs ++ drop k (drop a xs)) (let e : a + 0 - a ≡ 0 = omega arith in e) ∙ take-append-drop a xs

pub written_more : (xs ys zs : List ℕ) (a : ℕ) → a ≤ length xs → written (written xs a ys) (a + length ys) zs ≡ written xs a (ys ++ zs)
written_more xs ys zs a h =
    let rest = drop a xs in
    let f : length (take a xs ++ ys) ≡ a + length ys = length-append (take a xs) ys ∙ ap (λ (k : ℕ). k + length ys) (length-take-le a xs h) in
    ap (λ (l : List ℕ). written l (a + length ys) zs) (sym (append_assoc (take a xs) ys (drop (a + length ys - a) rest)))
    ∙ written_next (take a xs ++ ys) (drop (a + length ys - a) rest) zs (a + length ys) f
    ∙ ap₂ (λ (l r : List ℕ). l ++ r) (append_assoc (take a xs) ys zs)
    (drop-drop (length zs) (a + length ys - a) rest ∙ ap (λ (k : ℕ). drop k rest) (let e : a + length ys - a + length zs ≡ a + length (ys ++ zs) - a = omega (arith, length-append ys zs) in e))
    ∙ append_assoc (take a xs) (ys ++ zs) (drop (a + length (ys ++ zs) - a) rest)

-- three pieces fill a list
pub three_written : (to a b c x y z : List ℕ) → length to ≡ length a + (length b + length c)
    → x ≡ written to 0 a → y ≡ written x (length a) b → z ≡ written y (length a + length b) c → z ≡ a ++ (b ++ c)
three_written to a b c x y z h e f g =
    g ∙ ap (λ (l : List ℕ). written l (length a + length b) c)
    (f ∙ ap (λ (l : List ℕ). written l (length a) b) (e ∙ written_next [] to a 0 refl) ∙ written_next a (drop (length a) to) b (length a) refl)
    ∙ written_next (a ++ b) (drop (length b) (drop (length a) to)) c (length a + length b) (length-append a b)
    ∙ ap₂ (λ (l r : List ℕ). l ++ r) (append_assoc a b c)
    (drop_of_length-le (drop (length b) (drop (length a) to)) {i = length c} (omega (arith, length-drop (length b) (drop (length a) to), length-drop (length a) to)))
    ∙ append-nil (a ++ (b ++ c))

-- a list at the start of another: as many elements, read again
pub front_le : (n : ℕ) (l r whole : List ℕ) → n ≡ length l → whole ≡ l ++ r → n ≤ length whole
front_le n l r whole e f = omega (arith, ap length f, length-append l r)

pub front_is : (n : ℕ) (l r whole : List ℕ) → n ≡ length l → whole ≡ l ++ r → take n whole ≡ l
front_is n l r whole e f = ap (take n) f ∙ take_at l r n (sym e)

-- two parts that fill a list
pub halves : (to x y : List ℕ) (a e : ℕ) → length to ≡ e → length x ≡ a → back (back to 0 a x) a e y ≡ x ++ y
halves to x y a e h k =
    back_next x (drop (a - 0) to) y a e k
    ∙ ap (λ (l : List ℕ). (x ++ y) ++ l)
    (drop_of_length-le (drop (a - 0) to) {i = e - a} (omega (arith, length-drop (a - 0) to)))
    ∙ append-nil (x ++ y)

-- ---- pieces written behind a mark, one after the other

module _ (x : ℕ) (to : List ℕ) where
  pub marked_one : (a p : List ℕ) → length to ≡ length a → p ≡ written (x ∷ to) 1 a → p ≡ x ∷ a
  marked_one a p h e =
      e ∙ written_next (x ∷ []) to a 1 refl ∙ ap (λ (l : List ℕ). x ∷ a ++ l) (drop_of_length-le to {i = length a} (omega arith)) ∙ append-nil (x ∷ a)

  pub marked_two : (a b p q : List ℕ) (i : ℕ) → length a ≡ i → length to ≡ i + length b
      → p ≡ written (x ∷ to) 1 a → q ≡ written p (suc i) b → q ≡ x ∷ a ++ b
  marked_two a b p q i f h d e =
      let k : suc i ≡ 1 + length a = omega arith in
      marked_one (a ++ b) q (omega (arith, length-append a b)) (e ∙ ap₂ (λ (l : List ℕ) (j : ℕ). written l j b) d k ∙ written_more (x ∷ to) a b 1 (omega arith))

  pub marked_three : (a b c p q r : List ℕ) (i j : ℕ) → length a ≡ i → i + length b ≡ j → length to ≡ j + length c
      → p ≡ written (x ∷ to) 1 a → q ≡ written p (suc i) b → r ≡ written q (suc j) c → r ≡ x ∷ a ++ (b ++ c)
  marked_three a b c p q r i j f g h d e k =
      let n : suc i ≡ 1 + length a = omega arith in
      marked_two (a ++ b) c q r j (omega (arith, length-append a b)) h (e ∙ ap₂ (λ (l : List ℕ) (j : ℕ). written l j b) d n ∙ written_more (x ∷ to) a b 1 (omega arith)) k
      ∙ ap (λ (l : List ℕ). x ∷ l) (append_assoc a b c)
