-- The keys of a table's used rows, as a list: where each stands in the bytes, that they ascend, and where a tag first stands.
use Prim.Native.Nat.{ℕ, zero, suc, ◌+◌, ◌*◌, ◌-◌, ◌≤◌, ◌<◌}
use mathlib.Core.Path.{◌≡◌, refl, sym, ap, ap₂, ◌∙◌}
use mathlib.Core.Bool.{Bool, true, false, not, ◌&&◌, true≢false}
use mathlib.Core.Logic.{◌⊎◌, inl, inr}
use mathlib.Core.List.{List, [], ◌∷◌, map}
use native.Mathlib.Nat.{not-suc-le-zero, le_of_suc-le-suc, mul-suc}
use native.Mathlib.Omega.{arith}
use lib.Dec.{eqb}
use lib.ListN.{length, get_or, take, drop, length-map, length-drop}
use lib.Seq.{length-take-le}
use borrow.Author.Tests.{eq-eqb, eqb-true}
use Rattle.table.specs.Lists.{bit, same, All}
use Rattle.table.specs.Table.{Table, rows, body, used, place_of}
use Rattle.table.specs.Order.{precedes, used_rows, Searchable}
use Rattle.table.proofs.Counting.{same_true, same_refl, same-eq, ne_same}
use Rattle.table.proofs.Rows.{index_holds, rows-length}
use Rattle.table.proofs.Order.{InForm, form_true, neither_before, used_is, used_rows-length, rows_counted}
use Rattle.table.proofs.Search.{starts_with, used_at, used_row, parts_ascend, index_is, index_le, place_starts}
use Rattle.table.proofs.Walk.{row_end, body_field, body_tail}

pub get_d_map : (f : List ℕ → List ℕ) (l : List (List ℕ)) (i : ℕ) → i < length l → get_or (map f l) i [] ≡ f (get_or l i [])
get_d_map f [] i h = absurd (not-suc-le-zero h)
get_d_map f (x ∷ xs) zero h = refl
get_d_map f (x ∷ xs) (suc i) h = get_d_map f xs i (le_of_suc-le-suc h)

-- what holds of each element of a list holds of all
pub all_from : (P : List ℕ → Type 0) (l : List (List ℕ)) → ((i : ℕ) → i < length l → P (get_or l i [])) → All P l
all_from P [] h = tt
all_from P (x ∷ xs) h = (h 0 (omega arith), all_from P xs (λ i k. h (suc i) (omega arith)))

-- a list that ascends, by its indices
abbrev pub Rising : List (List ℕ) → Type 0
Rising l = (i j : ℕ) → i ≤ j → j < length l → precedes (get_or l j []) (get_or l i []) ≡ false

-- what stands between equals is equal to them
pub between : (l : List (List ℕ)) → Rising l → (i j k : ℕ) → i ≤ j → j ≤ k → k < length l → get_or l i [] ≡ get_or l k [] → get_or l j [] ≡ get_or l k []
between l r i j k h m n e =
    neither_before (get_or l j []) (get_or l k []) (rw e at (r i j h (omega arith))) (r j k m n)

pub bit_le : (b : Bool) → bit b ≤ 1
bit_le true = omega arith
bit_le false = omega arith

-- one row before
pub row_reach : (w i : ℕ) → 0 < i → w ≤ w * i
row_reach w zero h = absurd (not-suc-le-zero h)
row_reach w (suc i) h = omega (arith, mul-suc w i)

pub row_before : (w i : ℕ) → 0 < i → w * i + 1 - w ≡ w * (i - 1) + 1
row_before w zero h = absurd (not-suc-le-zero h)
row_before w (suc i) h =
    let e = mul-suc w i in
    let f : suc i - 1 ≡ i = omega arith in
    rw f (omega (arith, e))

module _ (w u : ℕ) (t : Table) (s : Searchable w u t) where
  form : InForm w t
  form = form_true w t s.form

  pub used-length : length (used t) ≡ u
  used-length = sym (used_rows-length t) ∙ sym s.number

  pub few : u ≤ length t
  few = omega (arith, s.number, rows_counted t)

  pub body_at : (i : ℕ) → i < u → get_or (used t) i [] ≡ body (get_or t i [])
  body_at i h =
      let l : i < length (used_rows t) = omega (arith, s.number) in
      ap (λ (x : List (List ℕ)). get_or x i []) (used_is t)
      ∙ get_d_map body (used_rows t) i l
      ∙ ap body (sym (used_at w t form i l))

  module _ (f : List ℕ → List ℕ) where
    pub keys_length : length (map f (used t)) ≡ u
    keys_length = length-map (used t) f ∙ used-length

    pub key_at : (i : ℕ) → i < u → get_or (map f (used t)) i [] ≡ f (body (get_or t i []))
    key_at i h = get_d_map f (used t) i (omega (arith, used-length)) ∙ ap f (body_at i h)

  pub rising : (k : ℕ) → Rising (map (take k) (used t))
  rising k i j h l =
      let m : j < u = omega (arith, keys_length (take k)) in
      ap₂ precedes (key_at (take k) j m) (key_at (take k) i (omega arith))
      ∙ parts_ascend w t form s.marks k i j h (omega (arith, s.number))

  -- ---- where a tag first stands

  module _ (tag : List ℕ) (long : length tag ≡ 32) where
    abbrev l : List (List ℕ)
    l = map (take 32) (used t)

    starts_is : (i : ℕ) → i < u → starts_with tag (get_or t i []) ≡ same (get_or l i []) tag
    starts_is i h =
        ap (λ (b : Bool). not b && same (take (length tag) (body (get_or t i []))) tag) (used_row w t form i (omega (arith, s.number)))
        ∙ ap (λ (k : ℕ). same (take k (body (get_or t i []))) tag) long
        ∙ ap (λ (x : List ℕ). same x tag) (sym (key_at (take 32) i h))

    -- the first of its rows
    pub place_is : (i : ℕ) → i < u → same (get_or l i []) tag ≡ true → (i ≡ 0) ⊎ (same (get_or l (i - 1) []) tag ≡ false) → place_of tag t ≡ i
    place_is i h e b = place_starts tag t long ∙ index_is (starts_with tag) t i (λ j k. none j k b) (omega (arith, few)) (starts_is i h ∙ e)
      where
        none : (j : ℕ) → j < i → (i ≡ 0) ⊎ (same (get_or l (i - 1) []) tag ≡ false) → starts_with tag (get_or t j []) ≡ false
        none j k (inl z) = absurd (omega arith)
        none j k (inr f) = starts_is j (omega arith) ∙ ne_same (get_or l j []) tag (λ q.
            let x : get_or l i [] ≡ tag = same_true (get_or l i []) tag e in
            let y : get_or l (i - 1) [] ≡ get_or l i [] = between l (rising 32) j (i - 1) i (omega arith) (omega arith) (omega (arith, keys_length (take 32))) (q ∙ sym x) in
            true≢false (sym (same-eq (get_or l (i - 1) []) tag (y ∙ x)) ∙ f))

    -- no row but one with the tag, and none after another with it
    pub place_has : (i : ℕ) → i < u → place_of tag t ≡ i → same (get_or l i []) tag ≡ true
    place_has i h e =
        let p : place_of tag t < length t = omega (arith, few) in
        sym (starts_is i h)
        ∙ ap (λ (j : ℕ). starts_with tag (get_or t j [])) (sym e ∙ place_starts tag t long)
        ∙ index_holds (starts_with tag) t (rw (place_starts tag t long) at p)

    pub place_le : (i : ℕ) → i < u → same (get_or l i []) tag ≡ true → place_of tag t ≤ i
    place_le i h e = rw (place_starts tag t long) (index_le (starts_with tag) t i (omega (arith, few)) (starts_is i h ∙ e))

    -- what a row that has the tag or not, and the one before it, tell of its place
    pub begins_not : (i : ℕ) → i < u → same (get_or l i []) tag ≡ false → eqb i (place_of tag t) ≡ false
    begins_not i h e = go (eqb i (place_of tag t)) refl
      where
        go : (b : Bool) → eqb i (place_of tag t) ≡ b → b ≡ false
        go true q = absurd (true≢false (sym (place_has i h (sym (eqb-true i (place_of tag t) q))) ∙ e))
        go false q = refl

    pub begins_first : (i : ℕ) → i < u → i < 1 → same (get_or l i []) tag ≡ true → eqb i (place_of tag t) ≡ true
    begins_first i h z e = eq-eqb i (place_of tag t) (sym (place_is i h e (inl (omega arith))))

    pub begins_by : (i : ℕ) → i < u → 0 < i → same (get_or l i []) tag ≡ true → (b : Bool) → same (get_or l (i - 1) []) tag ≡ b → eqb i (place_of tag t) ≡ not b
    begins_by i h z e true q = go (eqb i (place_of tag t)) refl
      where
        go : (b : Bool) → eqb i (place_of tag t) ≡ b → b ≡ false
        go true f = absurd (omega (arith, place_le (i - 1) (omega arith) q, eqb-true i (place_of tag t) f))
        go false f = refl
    begins_by i h z e false q = eq-eqb i (place_of tag t) (sym (place_is i h e (inr q)))

  -- the place of a row's own tag: that of the row before it where it has the same tag, else its own
  pub place_same : (i : ℕ) → i < u → length (get_or (map (take 32) (used t)) i []) ≡ 32 → 0 < i → same (get_or (map (take 32) (used t)) (i - 1) []) (get_or (map (take 32) (used t)) i []) ≡ false
      → place_of (get_or (map (take 32) (used t)) i []) t ≡ i
  place_same i h n z e = place_is (get_or (map (take 32) (used t)) i []) n i h (same_refl (get_or (map (take 32) (used t)) i [])) (inr e)

  pub place_first : (i : ℕ) → i < u → length (get_or (map (take 32) (used t)) i []) ≡ 32 → i < 1 → place_of (get_or (map (take 32) (used t)) i []) t ≡ i
  place_first i h n z = place_is (get_or (map (take 32) (used t)) i []) n i h (same_refl (get_or (map (take 32) (used t)) i [])) (inl (omega arith))

-- ---- in the bytes

module _ (w n u : ℕ) (b : List ℕ) (s : Searchable w u (rows w n b)) where
  -- a used row is one of the table's, and ends within it
  pub inside : length b ≡ w * n → (i : ℕ) → i < u → (i < n) × (w * i + w ≤ length b)
  inside e i h =
      let k : i < n = omega (arith, few w u (rows w n b) s, rows-length w n b) in
      (k, omega (arith, row_end w n i k))

  pub key_text : length b ≡ w * n → (k i : ℕ) → 1 + k ≤ w → i < u → get_or (map (take k) (used (rows w n b))) i [] ≡ take k (drop (w * i + 1) b)
  key_text e k i h l = key_at w u (rows w n b) s (take k) i l ∙ body_field w n i 0 k b (inside e i l).0 h

  pub key_before : length b ≡ w * n → (k i : ℕ) → 1 + k ≤ w → 0 < i → i < u → get_or (map (take k) (used (rows w n b))) (i - 1) [] ≡ take k (drop (w * i + 1 - w) b)
  key_before e k i h z l = key_text e k (i - 1) h (omega arith) ∙ ap (λ (a : ℕ). take k (drop a b)) (sym (row_before w i z))

  pub key_long : length b ≡ w * n → (k i : ℕ) → 1 + k ≤ w → i < u → length (get_or (map (take k) (used (rows w n b))) i []) ≡ k
  key_long e k i h l = ap length (key_text e k i h l) ∙ length-take-le k (drop (w * i + 1) b) (omega (arith, length-drop (w * i + 1) b, (inside e i l).1))

  -- the last 32 bytes of a row
  pub tail_text : length b ≡ w * n → (i : ℕ) → 33 ≤ w → i < u → get_or (map (drop (w - 33)) (used (rows w n b))) i [] ≡ take (w * i + w - (w * i + w - 32)) (drop (w * i + w - 32) b)
  tail_text e i h l =
      let p : w - (1 + (w - 33)) ≡ w * i + w - (w * i + w - 32) = omega arith in
      let q : w * i + (1 + (w - 33)) ≡ w * i + w - 32 = omega arith in
      key_at w u (rows w n b) s (drop (w - 33)) i l ∙ body_tail w n i (w - 33) b (inside e i l).0 ∙ ap₂ (λ (x y : ℕ). take x (drop y b)) p q

  pub tail_long : length b ≡ w * n → (i : ℕ) → 33 ≤ w → i < u → length (get_or (map (drop (w - 33)) (used (rows w n b))) i []) ≡ 32
  tail_long e i h l =
      ap length (tail_text e i h l) ∙ length-take-le (w * i + w - (w * i + w - 32)) (drop (w * i + w - 32) b) (omega (arith, length-drop (w * i + w - 32) b, (inside e i l).1)) ∙ omega arith
