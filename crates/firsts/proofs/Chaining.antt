-- A walk down a bucket's chain comes past no row that is the first of the kind that is looked for; so at the chain's end there is none.
use Prim.Native.Nat.{ℕ, zero, suc, ◌+◌, ◌*◌, ◌-◌, ◌≤◌, ◌<◌}
use mathlib.Core.Path.{◌≡◌, refl, sym, ap, subst, ◌∙◌}
use mathlib.Core.Bool.{Bool, true, false, cond, ◌&&◌, true≢false}
use mathlib.Core.Logic.{◌⊎◌, inl, inr, ⊎_elim}
use mathlib.Core.List.{List, [], ◌∷◌, ◌++◌, map}
use native.Mathlib.Numerals.{add-one}
use native.Mathlib.Omega.{arith}
use lib.Dec.{eqb}
use lib.ListN.{length, get_or, set, take, drop, replicate, length-set, length-drop, length-map, get_or-replicate, take-append-drop, get_or-append}
use lib.Seq.{length-take-le, get_or-set_same, get_or-set_other, take-suc-set, take-suc, take_all, drop-drop, drop-set-lt}
use borrow.Author.Tests.{eqb-true, eqb-false, eq-eqb}
use Rattle.table.specs.Lists.{same}
use Rattle.table.specs.Table.{Table, Row, index_of}
use Rattle.table.proofs.Counting.{both, same_true, same_refl, same-eq}
use Rattle.table.proofs.Rows.{index_holds}
use Rattle.table.proofs.Search.{index_le}
use Rattle.firsts.specs.Firsts.{first_in, firsts, bucket_of, in_chain, last_in, Chained, heads_after, links_after}

-- a row's bytes
pub part_wide : (log : List ℕ) (n i : ℕ) → 32 * n ≤ length log → i < n → length (take (32 * i + 32 - 32 * i) (drop (32 * i) log)) ≡ 32
part_wide log n i h k =
    let e : 32 * i + 32 - 32 * i ≡ 32 = omega arith in
    rw e (length-take-le 32 (drop (32 * i) log) (omega (arith, length-drop (32 * i) log)))

-- ---- the first of a kind

module _ (l : Table) where
  pub first_le : (i : ℕ) → i < length l → first_in l (get_or l i []) ≤ i
  unfolding first_in
  first_le i h = index_le (λ r. same r (get_or l i [])) l i h (same_refl (get_or l i []))

  first_there : (x : Row) → first_in l x < length l → get_or l (first_in l x) [] ≡ x
  unfolding first_in
  first_there x h = same_true (get_or l (index_of (λ r. same r x) l) []) x (index_holds (λ r. same r x) l h)

  -- ---- the last row of a chain

  module _ (b : ℕ) where
    pub last_le : (n : ℕ) → last_in l b n ≤ n
    last_le zero = omega arith
    last_le (suc n) = go (in_chain l b n) (last_le n)
      where
        go : (c : Bool) → last_in l b n ≤ n → cond c (suc n) (last_in l b n) ≤ suc n
        go true h = omega arith
        go false h = omega arith

    last_again : (n : ℕ) → last_in l b (last_in l b n) ≡ last_in l b n
    last_again zero = refl
    last_again (suc n) = go (in_chain l b n) refl (last_again n)
      where
        go : (c : Bool) → in_chain l b n ≡ c → last_in l b (last_in l b n) ≡ last_in l b n
            → last_in l b (cond c (suc n) (last_in l b n)) ≡ cond c (suc n) (last_in l b n)
        go true e h = rw e refl
        go false e h = h

    last_own : (j : ℕ) → last_in l b (suc j) ≡ suc j → in_chain l b j ≡ true
    last_own j e = go (in_chain l b j) refl e
      where
        go : (c : Bool) → in_chain l b j ≡ c → cond c (suc j) (last_in l b j) ≡ suc j → c ≡ true
        go true h k = refl
        go false h k = absurd (omega (arith, last_le j, k))

    last_past : (j n : ℕ) → j < n → in_chain l b j ≡ true → j < last_in l b n
    last_past j zero h e = absurd (omega arith)
    last_past j (suc n) h e = go (in_chain l b n) refl (last_past j n)
      where
        go : (c : Bool) → in_chain l b n ≡ c → (j < n → in_chain l b j ≡ true → j < last_in l b n) → j < cond c (suc n) (last_in l b n)
        go true f k = h
        go false f k =
            k (le (λ q. true≢false (sym (subst (λ (m : ℕ). in_chain l b m ≡ true) q e) ∙ f))) e
          where
            le : (j ≡ n → ⊥) → j < n
            le ne = omega (arith, ne)

  -- ---- the walk

  module _ (i : ℕ) where
    abbrev own : Row
    own = get_or l i []

    -- at next the walk has come past no row like row i
    pub record Walking (next : ℕ) : Type 0 where
      pub below : next ≤ i
      pub own_head : last_in l (bucket_of own) next ≡ next
      pub left : (first_in l own < next) ⊎ (first_in l own ≡ i)

    module _ (inside : i < length l) where
      -- row f stands before row i: it heads its kind, in the same bucket
      before_in : first_in l own < i → in_chain l (bucket_of own) (first_in l own) ≡ true
      before_in h =
          let r : get_or l (first_in l own) [] ≡ own = first_there own (omega arith) in
          rw (r, eq-eqb (first_in l own) (first_in l own) refl, eq-eqb (bucket_of own) (bucket_of own) refl) refl

      left_from : (n : ℕ) → n ≤ i → (first_in l own < n) ⊎ (first_in l own ≡ i) → (first_in l own < last_in l (bucket_of own) n) ⊎ (first_in l own ≡ i)
      left_from n k (inl h) = inl (last_past (bucket_of own) (first_in l own) n h (before_in (omega arith)))
      left_from n k (inr e) = inr e

      walking_at : (n next : ℕ) → n ≤ i → (first_in l own < n) ⊎ (first_in l own ≡ i) → next ≡ last_in l (bucket_of own) n → Walking next
      walking_at n next k h e =
          subst Walking (sym e) (record { below = omega (arith, last_le (bucket_of own) n); own_head = last_again (bucket_of own) n; left = left_from n k h })

      first_or : (first_in l own < i) ⊎ (first_in l own ≡ i)
      first_or = go (eqb (first_in l own) i) refl
        where
          go : (b : Bool) → eqb (first_in l own) i ≡ b → (first_in l own < i) ⊎ (first_in l own ≡ i)
          go true e = inr (eqb-true (first_in l own) i e)
          go false e = inl (omega (arith, first_le i inside, eqb-false (first_in l own) i e))

      pub walking_start : (next : ℕ) → next ≡ last_in l (bucket_of own) i → Walking next
      walking_start next e = walking_at i next (omega arith) first_or e

      module _ (next j : ℕ) (w : Walking next) (e : next ≡ suc j) where
        chain : in_chain l (bucket_of own) j ≡ true
        chain = last_own (bucket_of own) j (subst (λ (k : ℕ). last_in l (bucket_of own) k ≡ k) e w.own_head)

        pub walking_leads : first_in l (get_or l j []) ≡ j
        walking_leads = eqb-true (first_in l (get_or l j [])) j (both (eqb (first_in l (get_or l j [])) j) (eqb (bucket_of (get_or l j [])) (bucket_of own)) chain).0

        bucket_same : bucket_of (get_or l j []) ≡ bucket_of own
        bucket_same =
            eqb-true (bucket_of (get_or l j [])) (bucket_of own) (both (eqb (first_in l (get_or l j [])) j) (eqb (bucket_of (get_or l j [])) (bucket_of own)) chain).1

        pub walking_hit : same (get_or l j []) own ≡ true → j ≡ first_in l own
        walking_hit h = sym walking_leads ∙ ap (first_in l) (same_true (get_or l j []) own h)

        pub walking_next : same (get_or l j []) own ≡ false → (next' : ℕ) → next' ≡ last_in l (bucket_of (get_or l j [])) j → Walking next'
        walking_next h next' f =
            walking_at j next' (omega (arith, w.below, e)) (go w.left) (f ∙ ap (λ (b : ℕ). last_in l b j) bucket_same)
          where
            ne : first_in l own ≡ j → ⊥
            ne q =
                true≢false (sym (same-eq (get_or l j []) own (sym (ap (λ (k : ℕ). get_or l k []) q) ∙ first_there own (omega (arith, q, w.below, e, inside)))) ∙ h)

            go : (first_in l own < next) ⊎ (first_in l own ≡ i) → (first_in l own < j) ⊎ (first_in l own ≡ i)
            go (inl k) = inl (omega (arith, e, k, ne))
            go (inr k) = inr k

      pub walking_end : Walking 0 → i ≡ first_in l own
      walking_end w = ⊎_elim (λ h. absurd (omega arith)) (λ h. sym h) w.left

  -- ---- heads and links, row after row

  pub chained_start : (heads links : List ℕ) → heads ≡ replicate 4096 0 → links ≡ replicate 4096 0 → Chained l 0 heads links
  chained_start heads links e f = record {
    buckets = ap length e;
    room = ap length f;
    head = λ b h. ap (λ (x : List ℕ). get_or x b 0) e ∙ get_or-replicate 4096 b 0 0 h;
    link = λ j h. absurd (omega arith);
  }

  module _ (i : ℕ) (heads links : List ℕ) (c : Chained l i heads links) (small : i < 4096) where
    in_own : (x : Bool) → eqb (first_in l (get_or l i [])) i ≡ x → (b : ℕ) → in_chain l b i ≡ (x && eqb (bucket_of (get_or l i [])) b)
    in_own x e b = ap (λ (y : Bool). y && eqb (bucket_of (get_or l i [])) b) e

    last_not : eqb (first_in l (get_or l i [])) i ≡ false → (b : ℕ) → last_in l b (suc i) ≡ last_in l b i
    last_not e b = ap (λ (y : Bool). cond y (suc i) (last_in l b i)) (in_own false e b)

    last_head : eqb (first_in l (get_or l i [])) i ≡ true → (b : ℕ) → last_in l b (suc i) ≡ cond (eqb (bucket_of (get_or l i [])) b) (suc i) (last_in l b i)
    last_head e b = ap (λ (y : Bool). cond y (suc i) (last_in l b i)) (in_own true e b)

    turn_not : eqb (first_in l (get_or l i [])) i ≡ false → Chained l (suc i) heads links
    turn_not e = record {
      buckets = c.buckets;
      room = c.room;
      head = λ b h. c.head b h ∙ sym (last_not e b);
      link = λ j h q. c.link j (omega (arith, h, not_own j q)) q;
    }
      where
        not_own : (j : ℕ) → first_in l (get_or l j []) ≡ j → j ≡ i → ⊥
        not_own j q p = eqb-false (first_in l (get_or l i [])) i e (subst (λ (k : ℕ). first_in l (get_or l k []) ≡ k) p q)

    module _ (b : ℕ) (eb : b ≡ bucket_of (get_or l i [])) (lb : b < 4096) where
      turn_head : eqb (first_in l (get_or l i [])) i ≡ true → Chained l (suc i) (set heads b (i + 1)) (set links i (get_or heads b 0))
      turn_head e = record {
        buckets = length-set heads b (i + 1) ∙ c.buckets;
        room = length-set links i (get_or heads b 0) ∙ c.room;
        head = λ d h. head_at d h (eqb (bucket_of (get_or l i [])) d) refl ∙ sym (last_head e d);
        link = λ j h q. link_at j h q (eqb j i) refl;
      }
        where
          head_at : (d : ℕ) → d < 4096 → (x : Bool) → eqb (bucket_of (get_or l i [])) d ≡ x → get_or (set heads b (i + 1)) d 0 ≡ cond x (suc i) (last_in l d i)
          head_at d h true p =
              let q : b ≡ d = eb ∙ eqb-true (bucket_of (get_or l i [])) d p in
              ap (λ (k : ℕ). get_or (set heads b (i + 1)) k 0) (sym q) ∙ get_or-set_same heads b (i + 1) 0 (omega (arith, c.buckets)) ∙ add-one i
          head_at d h false p =
              get_or-set_other heads b d (i + 1) 0 (λ q. eqb-false (bucket_of (get_or l i [])) d p (sym eb ∙ sym q)) ∙ c.head d h

          link_at : (j : ℕ) → j < suc i → first_in l (get_or l j []) ≡ j → (x : Bool) → eqb j i ≡ x
              → get_or (set links i (get_or heads b 0)) j 0 ≡ last_in l (bucket_of (get_or l j [])) j
          link_at j h q true p =
              let r : j ≡ i = eqb-true j i p in
              ap (λ (k : ℕ). get_or (set links i (get_or heads b 0)) k 0) r ∙ get_or-set_same links i (get_or heads b 0) 0 (omega (arith, c.room))
              ∙ c.head b lb ∙ ap (λ (d : ℕ). last_in l d i) eb ∙ sym (ap (λ (k : ℕ). last_in l (bucket_of (get_or l k [])) k) r)
          link_at j h q false p =
              let ne = eqb-false j i p in get_or-set_other links i j (get_or heads b 0) 0 ne ∙ c.link j (omega (arith, ne, h)) q

      pub chained_turn : (j : ℕ) → j ≡ first_in l (get_or l i []) → (heads' links' : List ℕ) → heads' ≡ heads_after heads b i (eqb j i)
          → links' ≡ links_after heads links b i (eqb j i) → Chained l (i + 1) heads' links'
      chained_turn j ej heads' links' eh el = rw (add-one i, eh, el, ej) (go (eqb (first_in l (get_or l i [])) i) refl)
        where
          go : (x : Bool) → eqb (first_in l (get_or l i [])) i ≡ x → Chained l (suc i) (heads_after heads b i x) (links_after heads links b i x)
          go true e = turn_head e
          go false e = turn_not e

  -- ---- the answers, row after row

  map-append : (f : Row → ℕ) (a b : Table) → map f (a ++ b) ≡ map f a ++ map f b
  map-append f [] b = refl
  map-append f (r ∷ rs) b = ap (λ (x : List ℕ). f r ∷ x) (map-append f rs b)

  pub record Found (o₀ : List ℕ) (i : ℕ) (o : List ℕ) : Type 0 where
    pub size : length o ≡ length o₀
    pub told : take i o ≡ map (first_in l) (take i l)
    pub rest : drop i o ≡ drop i o₀

  pub found_none : (o : List ℕ) → Found o 0 o
  found_none o = record { size = refl; told = refl; rest = refl }

  drop_next : (o o' : List ℕ) (i : ℕ) → drop i o ≡ drop i o' → drop (suc i) o ≡ drop (suc i) o'
  drop_next o o' i e = rw (← add-one i) (sym (drop-drop 1 i o) ∙ ap (drop 1) e ∙ drop-drop 1 i o')

  pub found_turn : (o₀ : List ℕ) (i : ℕ) (o : List ℕ) → Found o₀ i o → i < length l → length l ≤ length o₀ → (j : ℕ) → j ≡ first_in l (get_or l i [])
      → Found o₀ (i + 1) (set o i j)
  found_turn o₀ i o f h k j e = rw (add-one i) record {
    size = length-set o i j ∙ f.size;
    told = take-suc-set o i j (omega (arith, f.size)) ∙ ap (λ (x : List ℕ). x ++ (j ∷ [])) f.told
        ∙ ap (λ (x : ℕ). map (first_in l) (take i l) ++ (x ∷ [])) e
        ∙ sym (map-append (first_in l) (take i l) (get_or l i [] ∷ [])) ∙ sym (ap (map (first_in l)) (take-suc l i [] h));
    rest = drop-set-lt (suc i) o i j (omega arith) ∙ drop_next o o₀ i f.rest;
  }

  pub found_all : (o₀ : List ℕ) (i : ℕ) (o : List ℕ) → Found o₀ i o → i ≡ length l → o ≡ firsts l ++ drop (length l) o₀
  unfolding firsts
  found_all o₀ i o f e =
      sym (take-append-drop i o)
      ∙ ap (λ (x : List ℕ). x ++ drop i o) (f.told ∙ ap (map (first_in l)) (take_all i l (omega arith)))
      ∙ ap (λ (x : List ℕ). map (first_in l) l ++ x) (f.rest ∙ ap (λ (k : ℕ). drop k o₀) e)

  pub firsts-length : length (firsts l) ≡ length l
  unfolding firsts
  firsts-length = length-map l (first_in l)

  map_at : (f : Row → ℕ) (t : Table) (i : ℕ) → i < length t → get_or (map f t) i 0 ≡ f (get_or t i [])
  map_at f [] i h = absurd (omega arith)
  map_at f (r ∷ rs) zero h = refl
  map_at f (r ∷ rs) (suc i) h = map_at f rs i (omega arith)

  -- row i in the answer
  pub firsts_at : (rest : List ℕ) (i : ℕ) → i < length l → get_or (firsts l ++ rest) i 0 ≡ first_in l (get_or l i [])
  unfolding firsts
  firsts_at rest i h = get_or-append (map (first_in l) l) rest 0 i (omega (arith, length-map l (first_in l))) ∙ map_at (first_in l) l i h
