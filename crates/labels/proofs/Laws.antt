-- Label bytes by the name's length, labels put together piece by piece, and what valid lengths tell.
use mathlib.Core.Path.{◌≡◌, refl, sym, ap, ap₂, ◌∙◌}
use mathlib.Core.Bool.{Bool, true, false, ◌||◌, true≢false}
use mathlib.Core.List.{List, [], ◌∷◌, ◌++◌, append_assoc}
use Prim.Native.Nat.{ℕ, zero, suc, ◌+◌, ◌/◌, ◌%◌, ◌<◌, ◌≤◌}
use native.Mathlib.Omega.{arith}
use borrow.Author.Tests.{lt-ltb, le-ltb, ltb-true, ltb-false}
use lib.Dec.{ltb}
use lib.ListN.{length, length-append, drop, set}
use lib.Seq.{drop-drop}
use Rattle.octets.specs.Part.{written}
use Rattle.octets.proofs.Parts.{written_next}
use Rattle.scheme.specs.Labels.{field_lengths_bad, groups, sevens, label}
use Rattle.labels.specs.Field.{field_of}

-- one group, and one group more
groups_one : (f n : ℕ) → n < 128 → groups f n ≡ n ∷ []
groups_one zero n h = refl
groups_one (suc f) n h = go (ltb n 128) (lt-ltb n 128 h)
  where
    go : (b : Bool) → b ≡ true → (elim b as (λ b. List ℕ) [ true ↦ n ∷ [] | false ↦ (128 + n % 128) ∷ groups f (n / 128) ]) ≡ n ∷ []
    go true e = refl
    go false e = absurd (true≢false (sym e))

groups_more : (f n : ℕ) → 128 ≤ n → groups (suc f) n ≡ (128 + n % 128) ∷ groups f (n / 128)
groups_more f n h = go (ltb n 128) (le-ltb n 128 h)
  where
    go : (b : Bool) → b ≡ false
        → (elim b as (λ b. List ℕ) [ true ↦ n ∷ [] | false ↦ (128 + n % 128) ∷ groups f (n / 128) ]) ≡ (128 + n % 128) ∷ groups f (n / 128)
    go true e = absurd (true≢false e)
    go false e = refl

pub sevens_one : (n : ℕ) → n < 128 → sevens n ≡ n ∷ []
unfolding sevens
sevens_one n h = groups_one n n h

pub sevens_two : (n : ℕ) → 128 ≤ n → n < 16384 → sevens n ≡ (128 + n % 128) ∷ n / 128 ∷ []
unfolding sevens
sevens_two zero h k = absurd (omega arith)
sevens_two (suc n) h k =
    groups_more n (suc n) h ∙ ap (λ (l : List ℕ). (128 + suc n % 128) ∷ l) (groups_one n (suc n / 128) (omega arith))

pub length-sevens : (n : ℕ) → n < 16384 → length (sevens n) ≤ 2
length-sevens n k = go (ltb n 128) refl
  where
    go : (b : Bool) → ltb n 128 ≡ b → length (sevens n) ≤ 2
    go true e = omega (arith, ap length (sevens_one n (ltb-true n 128 e)))
    go false e = omega (arith, ap length (sevens_two n (ltb-false n 128 e) k))

-- the groups written over the first bytes
pub one_written : (n : ℕ) (to : List ℕ) → 2 ≤ length to → n < 128
    → (1 ≡ length (sevens n)) × (set to 0 n ≡ sevens n ++ drop (length (sevens n)) to)
one_written n [] h k = absurd (omega arith)
one_written n (x ∷ xs) h k = rw (sevens_one n k) (refl, refl)

pub two_written : (n : ℕ) (to : List ℕ) → 2 ≤ length to → 128 ≤ n → n < 16384
    → (2 ≡ length (sevens n)) × (set (set to 0 (128 + n % 128)) 1 (n / 128) ≡ sevens n ++ drop (length (sevens n)) to)
two_written n [] h k l = absurd (omega arith)
two_written n (x ∷ []) h k l = absurd (omega arith)
two_written n (x ∷ y ∷ ys) h k l = rw (sevens_two n k l) (refl, refl)

-- the groups, the name and the value, one after the other
module _ (name value to : List ℕ) where
  pub named : (sv : List ℕ) → sv ≡ sevens (length name) ++ drop (length (sevens (length name))) to
      → written sv (length (sevens (length name))) name
      ≡ (sevens (length name) ++ name) ++ drop (length (sevens (length name)) + length name) to
  named sv e =
      ap (λ (l : List ℕ). written l (length (sevens (length name))) name) e
      ∙ written_next (sevens (length name)) (drop (length (sevens (length name))) to) name (length (sevens (length name))) refl
      ∙ ap (λ (l : List ℕ). (sevens (length name) ++ name) ++ l) (drop-drop (length name) (length (sevens (length name))) to)

  pub length_label : length (label (record { name = name; value = value })) ≡ length (sevens (length name)) + length name + length value
  unfolding label
  length_label =
      length-append (sevens (length name)) (name ++ value)
      ∙ omega (arith, length-append name value)

  pub labelled : (nm : List ℕ) → nm ≡ (sevens (length name) ++ name) ++ drop (length (sevens (length name)) + length name) to
      → written nm (length (sevens (length name)) + length name) value
      ≡ label (record { name = name; value = value }) ++ drop (length (label (record { name = name; value = value }))) to
  unfolding label
  labelled nm e =
      ap (λ (l : List ℕ). written l (length (sevens (length name)) + length name) value) e
      ∙ written_next (sevens (length name) ++ name) (drop (length (sevens (length name)) + length name) to) value
      (length (sevens (length name)) + length name) (length-append (sevens (length name)) name)
      ∙ ap₂ (λ (l r : List ℕ). l ++ r) (append_assoc (sevens (length name)) name value)
      (drop-drop (length value) (length (sevens (length name)) + length name) to
      ∙ ap (λ (k : ℕ). drop k to) (sym length_label))

pub label_short : (name value : List ℕ) → length name ≤ 255 → length value ≤ 1024 → length (label (record { name = name; value = value })) ≤ 1281
label_short name value h k = omega (arith, length_label name value [], length-sevens (length name) (omega arith))

-- what a field of valid lengths tells
pub in_range : (name value : List ℕ) → field_lengths_bad (field_of name value) ≡ false → (length name ≤ 255) × (length value ≤ 1024)
unfolding field_lengths_bad
in_range name value e = go (ltb (length name) 1) (ltb 255 (length name)) (ltb 1024 (length value)) refl refl e
  where
    go : (a b c : Bool) → ltb 255 (length name) ≡ b → ltb 1024 (length value) ≡ c → a || b || c ≡ false → (length name ≤ 255) × (length value ≤ 1024)
    go false false false f g h = (ltb-false 255 (length name) f, ltb-false 1024 (length value) g)
    go true b c f g h = absurd (true≢false h)
    go false true c f g h = absurd (true≢false h)
    go false false true f g h = absurd (true≢false h)
