-- What is noted at an address, in a share and in all shares are the ids there, each kept once; how many there can be.
use Prim.Native.Nat.{ℕ, zero, suc, ◌+◌, ◌*◌, ◌/◌, ◌%◌, ◌≤◌, ◌<◌}
use mathlib.Core.Path.{◌≡◌, refl, sym, ap, ap₂, subst, ◌∙◌}
use mathlib.Core.Bool.{Bool, true, false, cond, ◌||◌}
use mathlib.Core.List.{List, [], ◌∷◌, map}
use native.Mathlib.Numerals.{add-one}
use native.Mathlib.Omega.{arith}
use lib.Dec.{ltb}
use lib.ListN.{length, get_or, length-append, length-map}
use borrow.Author.Tests.{lt-ltb, le-ltb, ltb-true, ltb-false}
use Rattle.table.specs.Lists.{same, any_of, sum, distinct, All}
use Rattle.table.specs.Table.{Table, body, place_of}
use Rattle.table.proofs.Counting.{same_refl, all_append}
use Rattle.table.proofs.Walk.{place_found, place_none, place_holds}
use Rattle.table.proofs.Below.{below, grows, any_below, sum_next}
use Rattle.table.proofs.Distinct.{distinct_within}
use Rattle.scheme.specs.Store.{id_in, entry_tag}
use Rattle.scheme.specs.Find.{id_of}
use Rattle.suite.specs.Program.{program}
use Rattle.hmac.specs.declared.Keyed.{Keyed}
use Rattle.format.specs.Rows.{text_in}
use Rattle.format.specs.Tags.{numbered_by, Prepared}
use Rattle.format.proofs.Tags.{entry_tag_is}
use Rattle.chains.specs.Chains.{Kept, id_by, noted}
use Rattle.chains.proofs.Chains.{RowsM, id_wide}
use Rattle.chains.proofs.Kept.{Gathers, gathers_none, gathers_one, gathers_then}
use Rattle.ids.specs.declared.EntryKeys.{EntryKeys}
use Rattle.ids.specs.Ids.{entry_tags, tag_of, id_at, ids_to, ids_in, noted_at, noted_to, noted_in}

pub share_tags : (k : Keyed) (key : List ℕ) (keys : EntryKeys) (u : ℕ) → Prepared k key → key ≡ numbered_by keys.mt u → entry_tags k ≡ entry_tag program (numbered_by keys.mt u)
share_tags k key keys u p e = (λ j a. entry_tag_is k key (record { 0 = a }) p j) ∙ ap (entry_tag program) e

module _ (keys : EntryKeys) (t : Table) where
  -- ---- at one address

  module _ (u a i : ℕ) (e : i ≡ place_of (tag_of keys t u a) t) where
    pub noted_hit : i < length t → (k : Kept) → noted keys.me t (4096 * u + i) k ≡ noted_at keys t u a k
    unfolding noted_at
    noted_hit h k =
        ap (λ (j : ℕ). noted keys.me t (4096 * u + j) k) e
        ∙ sym (ap (λ (b : Bool). cond b (noted keys.me t (4096 * u + place_of (tag_of keys t u a) t) k) k) (place_holds (tag_of keys t u a) t ∙ lt-ltb (place_of (tag_of keys t u a) t) (length t) (omega arith)))

    pub noted_miss : length t ≤ i → (k : Kept) → k ≡ noted_at keys t u a k
    unfolding noted_at
    noted_miss h k =
        sym (ap (λ (b : Bool). cond b (noted keys.me t (4096 * u + place_of (tag_of keys t u a) t) k) k) (place_holds (tag_of keys t u a) t ∙ le-ltb (place_of (tag_of keys t u a) t) (length t) (omega arith)))

  -- the id in a row by the row's number
  pub id_by_lem : (u i : ℕ) → i < 4096 → text_in (numbered_by keys.me u) (body (get_or t i [])) ≡ id_by keys.me t (4096 * u + i)
  unfolding id_by
  id_by_lem u i h =
      let q : u ≡ (4096 * u + i) / 4096 = omega arith in
      let m : i ≡ (4096 * u + i) % 4096 = omega arith in
      ap₂ (λ (v j : ℕ). text_in (numbered_by keys.me v) (body (get_or t j []))) q m

  module _ (few : length t ≤ 4096) where
    place_of_lem : (u i : ℕ) → i < length t → (4096 * u + i) % 4096 < length t
    place_of_lem u i h =
        let e : (4096 * u + i) % 4096 ≡ i = omega arith in
        omega (arith, e)

    -- held or not
    by_place : (P : List (List ℕ) → Kept → Type 0) (u a : ℕ) (k : Kept)
        → ((i : ℕ) → i < length t → P (id_by keys.me t (4096 * u + i) ∷ []) (noted keys.me t (4096 * u + i) k)) → P [] k → P (id_at keys t u a) (noted_at keys t u a k)
    unfolding id_at id_in text_in program
    by_place P u a k f g = go (ltb (place_of (tag_of keys t u a) t) (length t)) refl
      where
        go : (b : Bool) → ltb (place_of (tag_of keys t u a) t) (length t) ≡ b → P (id_at keys t u a) (noted_at keys t u a k)
        go true e =
            let i = place_of (tag_of keys t u a) t in
            let h = ltb-true i (length t) e in
            let ids : id_by keys.me t (4096 * u + i) ∷ [] ≡ id_at keys t u a =
            sym (ap (id_of program (numbered_by keys.me u)) (place_found (tag_of keys t u a) t h) ∙ ap (λ (x : List ℕ). x ∷ []) (id_by_lem u i (omega (arith, h)))) in
            subst (λ (k : Kept). P (id_at keys t u a) k) (noted_hit u a i refl h k) (subst (λ (l : List (List ℕ)). P l (noted keys.me t (4096 * u + i) k)) ids (f i h))
        go false e =
            let h = ltb-false (place_of (tag_of keys t u a) t) (length t) e in
            let ids : [] ≡ id_at keys t u a = sym (ap (id_of program (numbered_by keys.me u)) (place_none (tag_of keys t u a) t h)) in
            subst (λ (k : Kept). P (id_at keys t u a) k) (noted_miss u a (place_of (tag_of keys t u a) t) refl h k) (subst (λ (l : List (List ℕ)). P l k) ids g)

    -- what holds of the id of each row holds of the ids at an address
    all_at : (P : List ℕ → Type 0) (u a : ℕ) → ((i : ℕ) → i < length t → P (id_by keys.me t (4096 * u + i))) → All P (id_at keys t u a)
    all_at P u a h = by_place (λ l k. All P l) u a (record { index = []; ids = []; n = 0 }) (λ i l. (h i l, tt)) tt

    one_at : (u a : ℕ) → length (id_at keys t u a) ≤ 1
    one_at u a = by_place (λ l k. length l ≤ 1) u a (record { index = []; ids = []; n = 0 }) (λ i l. omega arith) (omega arith)

    -- ---- at addresses 1 to n, of the shares below n

    all_to : (P : List ℕ → Type 0) (u : ℕ) → ((i : ℕ) → i < length t → P (id_by keys.me t (4096 * u + i))) → (n : ℕ) → All P (ids_to keys t u n)
    unfolding ids_to
    all_to P u h zero = tt
    all_to P u h (suc n) = all_append P (ids_to keys t u n) (id_at keys t u (suc n)) (all_to P u h n) (all_at P u (suc n) h)

    all_in : (P : List ℕ → Type 0) (of : List ℕ) (n : ℕ) → ((u i : ℕ) → u < n → i < length t → P (id_by keys.me t (4096 * u + i))) → All P (ids_in keys t of n)
    unfolding ids_in
    all_in P of zero h = tt
    all_in P of (suc n) h =
        all_append P (ids_in keys t of n) (ids_to keys t n (get_or of n 0)) (all_in P of n (λ u i l. h u i (omega arith))) (all_to P n (λ i. h n i (omega arith)) (get_or of n 0))

    few_to : (u n : ℕ) → length (ids_to keys t u n) ≤ n
    unfolding ids_to
    few_to u zero = omega arith
    few_to u (suc n) = omega (arith, few_to u n, one_at u (suc n), length-append (ids_to keys t u n) (id_at keys t u (suc n)))

    -- no more than are counted
    pub few_in : (of : List ℕ) (n : ℕ) → length (ids_in keys t of n) ≤ sum (map (λ u. get_or of u 0) (below n))
    unfolding ids_in
    few_in of zero = omega arith
    few_in of (suc n) =
        omega (arith, few_in of n, few_to n (get_or of n 0), length-append (ids_in keys t of n) (ids_to keys t n (get_or of n 0)), sum_next (λ u. get_or of u 0) n)

    -- and no more different ones than 16 shares can read in 4,096 rows
    pub most_in : (of : List ℕ) (n : ℕ) → n ≤ 16 → length (distinct (ids_in keys t of n)) ≤ 65536
    most_in of n h = go 65536 (omega arith)
      where
        any-map : (p : List ℕ → Bool) (f : ℕ → List ℕ) (l : List ℕ) → any_of p (map f l) ≡ any_of (λ i. p (f i)) l
        any-map p f [] = refl
        any-map p f (i ∷ l) = ap (λ (b : Bool). p (f i) || b) (any-map p f l)

        length-below : (m : ℕ) → length (below m) ≡ m
        length-below zero = refl
        length-below (suc m) = length-append (below m) (m ∷ []) ∙ omega (arith, length-below m)

        go : (m : ℕ) → 65536 ≤ m → length (distinct (ids_in keys t of n)) ≤ m
        go m l =
            let f = id_by keys.me t in
            omega (
              arith,
              length-map (below m) f,
              length-below m,
              distinct_within (map f (below m)) (ids_in keys t of n) (all_in (λ x. any_of (λ y. same y x) (map f (below m)) ≡ true) of n (λ u i a b.
                  any-map (λ y. same y (f (4096 * u + i))) f (below m)
                  ∙ any_below (λ j. same (f j) (f (4096 * u + i))) (4096 * u + i) m (omega arith) (same_refl (f (4096 * u + i))))),
            )

    module _ (w : RowsM t) where
      pub wide_in : (of : List ℕ) (n : ℕ) → All (λ id. length id ≡ 16) (ids_in keys t of n)
      wide_in of n = all_in (λ id. length id ≡ 16) of n (λ u i a b. id_wide keys.me t (4096 * u + i) w (place_of_lem u i b))

      gathers_at : (u a : ℕ) (k : Kept) → Gathers keys.me t k (noted_at keys t u a k) (id_at keys t u a)
      gathers_at u a k =
          by_place (λ l k'. Gathers keys.me t k k' l) u a k (λ i h. gathers_one keys.me t w (4096 * u + i) (place_of_lem u i h) k) (gathers_none keys.me t k)

      pub gathers_to : (u n : ℕ) (k : Kept) → Gathers keys.me t k (noted_to keys t u n k) (ids_to keys t u n)
      unfolding noted_to ids_to
      gathers_to u zero k = gathers_none keys.me t k
      gathers_to u (suc n) k =
          gathers_then keys.me t k (noted_to keys t u n k) (noted_at keys t u (suc n) (noted_to keys t u n k)) (ids_to keys t u n) (id_at keys t u (suc n))
          (gathers_to u n k) (gathers_at u (suc n) (noted_to keys t u n k))

      pub gathers_in : (of : List ℕ) (n : ℕ) (k : Kept) → Gathers keys.me t k (noted_in keys t of n k) (ids_in keys t of n)
      unfolding noted_in ids_in
      gathers_in of zero k = gathers_none keys.me t k
      gathers_in of (suc n) k =
          gathers_then keys.me t k (noted_in keys t of n k) (noted_to keys t n (get_or of n 0) (noted_in keys t of n k)) (ids_in keys t of n) (ids_to keys t n (get_or of n 0))
          (gathers_in of n k) (gathers_to n (get_or of n 0) (noted_in keys t of n k))

      -- one address and one share more, and none of them keeps fewer
      pub to_next : (u n : ℕ) (k : Kept) → noted_to keys t u (n + 1) k ≡ noted_at keys t u (n + 1) (noted_to keys t u n k)
      unfolding noted_to
      to_next u n k = rw (add-one n) refl

      pub to_grows : (u a n : ℕ) (k : Kept) → a ≤ n → (noted_to keys t u a k).n ≤ (noted_to keys t u n k).n
      unfolding noted_to
      to_grows u a n k = grows (λ n. (noted_to keys t u n k).n) (λ n. (gathers_at u (suc n) (noted_to keys t u n k)).grows) a n

      pub in_next : (of : List ℕ) (n : ℕ) (k : Kept) → noted_in keys t of (n + 1) k ≡ noted_to keys t n (get_or of n 0) (noted_in keys t of n k)
      unfolding noted_in
      in_next of n k = rw (add-one n) refl

      pub in_grows : (of : List ℕ) (a n : ℕ) (k : Kept) → a ≤ n → (noted_in keys t of a k).n ≤ (noted_in keys t of n k).n
      unfolding noted_in
      in_grows of a n k = grows (λ n. (noted_in keys t of n k).n) (λ n. (gathers_to n (get_or of n 0) (noted_in keys t of n k)).grows) a n

  pub to_none : (u : ℕ) (k : Kept) → k ≡ noted_to keys t u 0 k
  unfolding noted_to
  to_none u k = refl

  pub in_none : (of : List ℕ) (k : Kept) → k ≡ noted_in keys t of 0 k
  unfolding noted_in
  in_none of k = refl
