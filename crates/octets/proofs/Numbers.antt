-- Laws of numbers as bytes, over every width: how many bytes, and reading gives back what was written.
use mathlib.Core.Path.{◌≡◌, refl, sym, ap, subst, ◌∙◌}
use mathlib.Core.List.{List, [], ◌∷◌, ◌++◌, append_assoc}
use Prim.Native.Nat.{ℕ, zero, suc, ◌+◌, ◌-◌, ◌*◌, ◌/◌, ◌%◌, ◌^◌, ◌<◌, ◌≤◌}
use native.Mathlib.Omega.{arith}
use native.Mathlib.Nat.{pow-suc, one-le-pow, mod-one, mod-eq_of_lt, not-suc-le-zero, lt_of_lt_of_le, mul-add}
use native.Mathlib.Numerals.{add-one}
use lib.ListN.{length, length-append, length-set, drop, set, get_or, drop_of_length-le}
use lib.Seq.{drop-cons, get_or-set_same, drop-set-lt}
use lib.Arith.{mod-mul, digits_lt}
use lib.Pow.{pow-add, pow_mono}
use lib.Dec.{lit<}
use Rattle.octets.specs.Number.{bytes, continued, number}

pub length-bytes : (n x : ℕ) → length (bytes n x) ≡ n
unfolding bytes
length-bytes zero x = refl
length-bytes (suc n) x = length-append (bytes n (x / 256)) (x % 256 ∷ []) ∙ omega (arith, length-bytes n (x / 256))

pub continued-append : (a : ℕ) (xs ys : List ℕ) → continued a (xs ++ ys) ≡ continued (continued a xs) ys
unfolding continued
continued-append a [] ys = refl
continued-append a (x ∷ xs) ys = continued-append (a * 256 + x) xs ys

pub number-bytes : (n x : ℕ) → number (bytes n x) ≡ x % 256 ^ n
unfolding bytes continued
number-bytes zero x = sym (mod-one x)
number-bytes (suc n) x =
    continued-append 0 (bytes n (x / 256)) (x % 256 ∷ []) ∙ ap (λ (y : ℕ). y * 256 + x % 256) (number-bytes n (x / 256))
    ∙ sym (mod-mul x (one-le-pow n 256 (lit< tt)) (lit< tt)) ∙ ap (λ (y : ℕ). x % y) (sym (pow-suc 256 n))

-- reading gives back what was written
pub read_back : (n x : ℕ) → x < 256 ^ n → number (bytes n x) ≡ x
read_back n x h = number-bytes n x ∙ mod-eq_of_lt h

suc-sub-one : (n : ℕ) → suc n - 1 ≡ n
suc-sub-one n = omega arith

-- writing from the last byte to the first: the bytes of what is left, then those that stand
pub put_byte : (i x : ℕ) (to : List ℕ) → 0 < i → i ≤ length to
    → bytes (i - 1) (x / 256) ++ drop (i - 1) (set to (i - 1) (x % 256)) ≡ bytes i x ++ drop i to
unfolding bytes
put_byte zero x to p h = absurd (not-suc-le-zero p)
put_byte (suc n) x to p h =
    rw (suc-sub-one n)
    (ap (λ (l : List ℕ). bytes n (x / 256) ++ l)
    (drop-cons (set to n (x % 256)) n 0 (rw (length-set to n (x % 256)) h)
    ∙ rw (get_or-set_same to n (x % 256) 0 h, drop-set-lt (suc n) to n (x % 256) (omega arith)))
    ∙ sym (append_assoc (bytes n (x / 256)) (x % 256 ∷ []) (drop (suc n) to)))

pub put_done : (i x : ℕ) (to l : List ℕ) → i ≤ 0 → bytes i x ++ drop i to ≡ l → to ≡ l
unfolding bytes
put_done zero x to l p e = e
put_done (suc i) x to l p e = absurd (not-suc-le-zero p)

-- reading from the first byte to the last: what is left decides
pub get_byte : (i x : ℕ) (from : List ℕ) → i < length from
    → continued (x * 256 + get_or from i 0) (drop (i + 1) from) ≡ continued x (drop i from)
unfolding continued
get_byte i x from h = rw (add-one i, drop-cons from i 0 h)

pub get_done : (i x z : ℕ) (from : List ℕ) → length from ≤ i → continued x (drop i from) ≡ z → x ≡ z
unfolding continued
get_done i x z from h e = sym (ap (continued x) (drop_of_length-le from h)) ∙ e

-- one byte more, of a number of i bytes
pub one_more : (i x b : ℕ) → x < 2 ^ (8 * i) → b < 256 → x * 256 + b < 2 ^ (8 * (i + 1))
one_more i x b h k =
    subst (λ (n : ℕ). x * 256 + b < n) (sym (ap (λ (n : ℕ). 2 ^ n) (mul-add 8 i 1) ∙ pow-add 2 (8 * i) 8))
    (digits_lt h k)

pub fits_eight : (i x b : ℕ) → i < 8 → x < 2 ^ (8 * i) → b < 256 → x * 256 + b < 2 ^ 64
fits_eight i x b l h k = lt_of_lt_of_le (one_more i x b h k) (pow_mono {i = 8 * (i + 1)} {j = 64} (omega arith))
