-- A walk down a bucket's chain meets every id that is kept in it, and an id put at the head keeps the chains whole.
use Prim.Native.Nat.{ℕ, zero, suc, ◌+◌, ◌*◌, ◌%◌, ◌≤◌, ◌<◌}
use mathlib.Core.Path.{◌≡◌, refl, sym, ap, ap₂, subst, ◌∙◌}
use mathlib.Core.Bool.{Bool, true, false, cond, ◌||◌, or-true, or-false}
use mathlib.Core.List.{List, [], ◌∷◌, ◌++◌, append-nil}
use native.Mathlib.Numerals.{add-one}
use native.Mathlib.Omega.{arith}
use lib.Dec.{eqb}
use lib.ListN.{length, get_or, length-drop, length-append}
use borrow.Author.Tests.{eqb-true, eqb-false}
use Rattle.octets.specs.Part.{written}
use Rattle.octets.proofs.Parts.{written_none, written_more}
use Rattle.table.specs.Lists.{same, any_of, flat, All}
use Rattle.table.specs.Table.{Table, body}
use Rattle.table.proofs.Counting.{any_append, ne_same}
use Rattle.table.proofs.Rows.{all_at}
use Rattle.table.proofs.Below.{flat_append}
use Rattle.scheme.specs.Store.{table_m, width_of}
use Rattle.suite.specs.Program.{program}
use Rattle.hmac.specs.declared.Keyed.{Keyed}
use Rattle.format.specs.Rows.{text_in}
use Rattle.chains.specs.Chains.{id_by, Kept, kept, row_at, kept_ids, met, bucket_of, linked, first_ids, added, noted, last_in}

-- ---- the last id of a bucket

module _ (b : ℕ) where
  pub last_le : (f : ℕ → List ℕ) (n : ℕ) → last_in b f n ≤ n
  last_le f zero = omega arith
  last_le f (suc n) = go (eqb (bucket_of (f n)) b) (last_le f n)
    where
      go : (c : Bool) → last_in b f n ≤ n → cond c (suc n) (last_in b f n) ≤ suc n
      go true h = omega arith
      go false h = omega arith

  -- it is the last of those before it, too
  last_again : (f : ℕ → List ℕ) (n : ℕ) → last_in b f (last_in b f n) ≡ last_in b f n
  last_again f zero = refl
  last_again f (suc n) = go (eqb (bucket_of (f n)) b) refl (last_again f n)
    where
      go : (c : Bool) → eqb (bucket_of (f n)) b ≡ c → last_in b f (last_in b f n) ≡ last_in b f n
          → last_in b f (cond c (suc n) (last_in b f n)) ≡ cond c (suc n) (last_in b f n)
      go true e h = rw e refl
      go false e h = h

  last_own : (f : ℕ → List ℕ) (i : ℕ) → last_in b f (suc i) ≡ suc i → bucket_of (f i) ≡ b
  last_own f i e = go (eqb (bucket_of (f i)) b) refl e
    where
      go : (c : Bool) → eqb (bucket_of (f i)) b ≡ c → cond c (suc i) (last_in b f i) ≡ suc i → bucket_of (f i) ≡ b
      go true h k = eqb-true (bucket_of (f i)) b h
      go false h k = absurd (omega (arith, last_le f i, k))

  pub last_alike : (f g : ℕ → List ℕ) (n : ℕ) → ((i : ℕ) → i < n → f i ≡ g i) → last_in b f n ≡ last_in b g n
  last_alike f g zero h = refl
  last_alike f g (suc n) h = ap₂ (λ (x : List ℕ) (k : ℕ). cond (eqb (bucket_of x) b) (suc n) k) (h n (omega arith)) (last_alike f g n (λ i l. h i (omega arith)))

-- ---- an id of 16 bytes

abbrev pub RowsM : Table → Type 0
RowsM t = All (λ r. length r ≡ width_of table_m) t

pub id_wide : (me : Keyed) (t : Table) (r : ℕ) → RowsM t → r % 4096 < length t → length (id_by me t r) ≡ 16
unfolding id_by text_in program
id_wide me t r w h =
    let row = get_or t (r % 4096) [] in
    let l : length row ≡ width_of table_m = all_at (λ r. length r ≡ width_of table_m) t (r % 4096) h w in
    program.e_length _ _ _ ∙ omega (arith, length-drop 44 (body row), length-drop 1 row)

-- ---- the walk

module _ (me : Keyed) (t : Table) (index : List ℕ) where
  abbrev pub id_of : ℕ → List ℕ
  id_of i = id_by me t (row_at index i)

  module _ (x : List ℕ) where
    abbrev pub met_to : ℕ → Bool
    met_to n = any_of (λ y. same y x) (kept_ids me t index n)

    met_next : (n : ℕ) → met_to (suc n) ≡ (met_to n || same (id_of n) x)
    unfolding kept_ids
    met_next n = any_append (λ y. same y x) (kept_ids me t index n) (id_of n ∷ []) ∙ ap (λ (b : Bool). met_to n || b) (or-false (same (id_of n) x))

    -- after the last id of its bucket there is none like it
    met_last : (n : ℕ) → met_to (last_in (bucket_of x) id_of n) ≡ met_to n
    met_last zero = refl
    met_last (suc n) = go (eqb (bucket_of (id_of n)) (bucket_of x)) refl (met_last n)
      where
        go : (c : Bool) → eqb (bucket_of (id_of n)) (bucket_of x) ≡ c → met_to (last_in (bucket_of x) id_of n) ≡ met_to n
            → met_to (cond c (suc n) (last_in (bucket_of x) id_of n)) ≡ met_to (suc n)
        go true e h = refl
        go false e h =
            let ne : same (id_of n) x ≡ false = ne_same (id_of n) x (λ q. eqb-false (bucket_of (id_of n)) (bucket_of x) e (ap bucket_of q)) in
            h ∙ sym (met_next n ∙ rw ne (or-false (met_to n)))

    -- at j the walk has come past none like it
    pub record Walk (n j : ℕ) : Type 0 where
      pub below : j ≤ n
      pub own : last_in (bucket_of x) id_of j ≡ j
      pub same : met_to j ≡ met_to n

    pub walk_start : (n j : ℕ) → j ≡ last_in (bucket_of x) id_of n → Walk n j
    walk_start n j e =
        subst (Walk n) (sym e) (record { below = last_le (bucket_of x) id_of n; own = last_again (bucket_of x) id_of n; same = met_last n })

    module _ (n j i : ℕ) (w : Walk n j) (e : j ≡ suc i) where
      pub walk_hit : same (id_of i) x ≡ true → true ≡ met_to n
      walk_hit h = sym (sym w.same ∙ ap met_to e ∙ met_next i ∙ rw h (or-true (met_to i)))

      pub walk_next : same (id_of i) x ≡ false → (j' : ℕ) → j' ≡ last_in (bucket_of (id_of i)) id_of i → Walk n j'
      walk_next h j' f =
          let b : bucket_of (id_of i) ≡ bucket_of x = last_own (bucket_of x) id_of i (subst (λ (k : ℕ). last_in (bucket_of x) id_of k ≡ k) e w.own) in
          let g : j' ≡ last_in (bucket_of x) id_of i = f ∙ ap (λ (b : ℕ). last_in b id_of i) b in
          let v = walk_start i j' g in
          record {
            below = omega (arith, v.below, w.below, e);
            own = v.own;
            same = v.same ∙ sym (met_next i ∙ rw h (or-false (met_to i))) ∙ ap met_to (sym e) ∙ w.same;
          }

      pub walk_down : (j' : ℕ) → j' ≡ last_in (bucket_of (id_of i)) id_of i → j' < j
      walk_down j' f = omega (arith, last_le (bucket_of (id_of i)) id_of i, e, f)

    pub walk_end : (n j : ℕ) → Walk n j → j ≤ 0 → false ≡ met_to n
    unfolding kept_ids
    walk_end n j w h = let e : j ≡ 0 = omega arith in sym (ap met_to e) ∙ w.same

  -- ---- written one after the other

  -- the first i ids were written over o₀
  pub record Wrote (o₀ : List ℕ) (i : ℕ) (o : List ℕ) : Type 0 where
    pub bytes : o ≡ written o₀ 0 (flat (kept_ids me t index i))
    pub wide : length (flat (kept_ids me t index i)) ≡ 16 * i

  pub wrote_none : (o : List ℕ) → Wrote o 0 o
  unfolding kept_ids
  wrote_none o = record { bytes = sym (written_none o 0); wide = refl }

  flat_next : (i : ℕ) → flat (kept_ids me t index (i + 1)) ≡ flat (kept_ids me t index i) ++ id_of i
  unfolding kept_ids
  flat_next i = rw (add-one i) (flat_append (kept_ids me t index i) (id_of i ∷ []) ∙ ap (λ (x : List ℕ). flat (kept_ids me t index i) ++ x) (append-nil (id_of i)))

  pub wrote_next : (o₀ : List ℕ) (i : ℕ) (o : List ℕ) → RowsM t → row_at index i % 4096 < length t → Wrote o₀ i o
      → (id : List ℕ) → id ≡ id_of i → (o' : List ℕ) → o' ≡ written o (16 * i) id → Wrote o₀ (i + 1) o'
  wrote_next o₀ i o w h k id e o' f =
      let at : 16 * i ≡ 0 + length (flat (kept_ids me t index i)) = omega (arith, k.wide) in record {
        bytes = f ∙ ap₂ (λ (x : List ℕ) (n : ℕ). written x n id) k.bytes at ∙ written_more o₀ (flat (kept_ids me t index i)) id 0 (omega arith)
            ∙ ap (λ (x : List ℕ). written o₀ 0 (flat (kept_ids me t index i) ++ x)) e ∙ ap (written o₀ 0) (sym (flat_next i));
        wide = ap length (flat_next i) ∙ length-append (flat (kept_ids me t index i)) (id_of i) ∙ omega (arith, k.wide, id_wide me t (row_at index i) w h);
      }

-- ---- an id more

module _ (me : Keyed) (t : Table) (r : ℕ) (k : Kept) (x : List ℕ) (e : x ≡ id_by me t r) where
  pub noted-met : met me t k x ≡ true → k ≡ noted me t r k
  unfolding noted
  noted-met h = sym (ap (λ (b : Bool). cond b k (added r (id_by me t r) k)) (ap (met me t k) (sym e) ∙ h))

  pub noted_new : met me t k x ≡ false
      → kept (linked k.index k.n r (bucket_of x)) (first_ids k.ids k.n x) (k.n + 1) ≡ noted me t r k
  unfolding noted added
  noted_new h =
      ap (λ (y : List ℕ). kept (linked k.index k.n r (bucket_of y)) (first_ids k.ids k.n y) (k.n + 1)) e
      ∙ sym (ap (λ (b : Bool). cond b k (added r (id_by me t r) k)) (ap (met me t k) (sym e) ∙ h))
