-- What is written as digits is read back: the text of bytes stands for these bytes.
use Prim.Native.Nat.{ℕ, zero, suc, ◌+◌, ◌*◌, ◌-◌, ◌/◌, ◌%◌, ◌≤◌, ◌<◌}
use mathlib.Core.Path.{◌≡◌, refl, sym, ap, ap₂, ◌∙◌}
use mathlib.Core.Bool.{Bool, true, false, cond}
use mathlib.Core.List.{List, [], ◌∷◌, ◌++◌}
use native.Mathlib.Omega.{arith}
use lib.Dec.{ltb, eqb}
use lib.ListN.{length, get_or, take, length-append, get_or-append}
use lib.Seq.{get_or_at, take-suc, take_all}
use borrow.Author.Tests.{ltb-true, ltb-false, lt-ltb, le-ltb, eq-eqb, ne_eqb}
use Rattle.std.specs.Prelude.{Option, Some, is_some, unwrap_or}
use Rattle.std.proofs.lemmas.List.Folds.{list_all-append}
use Rattle.text.specs.Tabulate.{tabulate}
use Rattle.text.specs.Hex.{nibble_of, is_digit, all_hex, is_hex_of, pair_of, pair_at, unhex_of, glyph, digit_at, hex_of}

-- a text given place by place: its length, its places, and where it is another list's start
length-tabulate : (f : ℕ → ℕ) (n : ℕ) → length (tabulate f n) ≡ n
unfolding tabulate
length-tabulate f zero = refl
length-tabulate f (suc n) = omega (arith, length-append (tabulate f n) (f n ∷ []), length-tabulate f n)

get_d_tabulate : (f : ℕ → ℕ) (n i : ℕ) → i < n → get_or (tabulate f n) i 0 ≡ f i
unfolding tabulate
get_d_tabulate f zero i h = absurd (omega arith)
get_d_tabulate f (suc n) i h = go (ltb i n) refl (get_d_tabulate f n i)
  where
    go : (b : Bool) → ltb i n ≡ b → (i < n → get_or (tabulate f n) i 0 ≡ f i) → get_or (tabulate f n ++ (f n ∷ [])) i 0 ≡ f i
    go true e k =
        let l = ltb-true i n e in
        get_or-append (tabulate f n) (f n ∷ []) 0 i (omega (arith, length-tabulate f n, l)) ∙ k l
    go false e k =
        let l : n ≡ i = omega (arith, ltb-false i n e) in
        get_or_at (tabulate f n) (f n) [] 0 i (length-tabulate f n ∙ l) ∙ ap f l

tabulate-take : (f : ℕ → ℕ) (bs : List ℕ) (n : ℕ) → n ≤ length bs → ((i : ℕ) → i < n → f i ≡ get_or bs i 0) → tabulate f n ≡ take n bs
unfolding tabulate
tabulate-take f bs zero h k = refl
tabulate-take f bs (suc n) h k =
    ap₂ (λ (xs : List ℕ) (y : ℕ). xs ++ (y ∷ [])) (tabulate-take f bs n (omega arith) (λ i l. k i (omega arith))) (k n (omega arith))
    ∙ sym (take-suc bs n 0 (omega arith))

-- a digit's value is what it was made of
nibble_glyph : (d : ℕ) → d < 16 → nibble_of (glyph d) ≡ Some d
nibble_glyph d h = go (ltb d 10) refl
  where
    go : (b : Bool) → ltb d 10 ≡ b → nibble_of (cond b (48 + d) (87 + d)) ≡ Some d
    go true e =
        let l = ltb-true d 10 e in
        simp (le-ltb (48 + d) 48 (omega arith), lt-ltb (48 + d) 58 (omega (arith, l))) (ap Some (let z : (48 + d) - 48 ≡ d = omega arith in z))
    go false e =
        let l = ltb-false d 10 e in
        simp (le-ltb (87 + d) 48 (omega arith), le-ltb (87 + d) 58 (omega arith), le-ltb (87 + d) 65 (omega arith), le-ltb (87 + d) 71 (omega arith), le-ltb (87 + d) 97 (omega (arith, l)), lt-ltb (87 + d) 103 (omega (arith, h))) (ap Some (let z : (87 + d) - 87 ≡ d = omega arith in z))

-- one digit more
hex_more : (xs : List ℕ) (b : ℕ) → all_hex xs ≡ true → is_digit b ≡ true → all_hex (xs ++ (b ∷ [])) ≡ true
hex_more xs b e h = rw (list_all-append is_digit xs (b ∷ []), e, h)

module _ (bs : List ℕ) (bytes : (i : ℕ) → get_or bs i 0 < 256) where
  -- the two digits of a byte
  high : (i : ℕ) → digit_at bs (2 * i) ≡ glyph (get_or bs i 0 / 16)
  high i =
      let e : 2 * i % 2 ≡ 0 = omega arith in
      let d : 2 * i / 2 ≡ i = omega arith in
      simp (eq-eqb (2 * i % 2) 0 e) (ap (λ (k : ℕ). glyph (get_or bs k 0 / 16)) d)

  low : (i : ℕ) → digit_at bs (2 * i + 1) ≡ glyph (get_or bs i 0 % 16)
  low i =
      let e : (2 * i + 1) % 2 ≡ 0 → ⊥ = λ z. absurd (omega arith) in
      let d : (2 * i + 1) / 2 ≡ i = omega arith in
      simp (ne_eqb ((2 * i + 1) % 2) 0 e) (ap (λ (k : ℕ). glyph (get_or bs k 0 % 16)) d)

  pair_back : (n i : ℕ) → i < n → pair_at (hex_of bs (2 * n)) i ≡ get_or bs i 0
  pair_back n i h =
      ap₂ pair_of (get_d_tabulate (digit_at bs) (2 * n) (2 * i) (omega arith) ∙ high i) (get_d_tabulate (digit_at bs) (2 * n) (2 * i + 1) (omega arith) ∙ low i)
      ∙ ap₂ (λ (a b : Option ℕ). unwrap_or a 0 * 16 + unwrap_or b 0) (nibble_glyph (get_or bs i 0 / 16) (omega (arith, bytes i))) (nibble_glyph (get_or bs i 0 % 16) (omega arith))
      ∙ (let z : get_or bs i 0 / 16 * 16 + get_or bs i 0 % 16 ≡ get_or bs i 0 = omega (arith, bytes i) in z)

  pub unhex_back : unhex_of (hex_of bs (2 * length bs)) (length bs) ≡ bs
  unhex_back =
      tabulate-take (pair_at (hex_of bs (2 * length bs))) bs (length bs) (omega arith) (pair_back (length bs)) ∙ take_all (length bs) bs (omega arith)

  digit_is : (j : ℕ) → is_digit (digit_at bs j) ≡ true
  digit_is j = go (eqb (j % 2) 0)
    where
      is : (d : ℕ) → d < 16 → is_digit (glyph d) ≡ true
      is d h = ap is_some (nibble_glyph d h)

      go : (t : Bool) → is_digit (cond t (glyph (get_or bs (j / 2) 0 / 16)) (glyph (get_or bs (j / 2) 0 % 16))) ≡ true
      go true = is (get_or bs (j / 2) 0 / 16) (omega (arith, bytes (j / 2)))
      go false = is (get_or bs (j / 2) 0 % 16) (omega arith)

  all_digits : (n : ℕ) → all_hex (hex_of bs n) ≡ true
  unfolding tabulate
  all_digits zero = refl
  all_digits (suc n) = hex_more (hex_of bs n) (digit_at bs n) (all_digits n) (digit_is n)

  pub is_digits : is_hex_of (2 * length bs) (hex_of bs (2 * length bs)) ≡ true
  is_digits =
      ap (λ (b : Bool). cond b (all_hex (hex_of bs (2 * length bs))) false) (eq-eqb (length (hex_of bs (2 * length bs))) (2 * length bs) (length-tabulate (digit_at bs) (2 * length bs)))
      ∙ all_digits (2 * length bs)
