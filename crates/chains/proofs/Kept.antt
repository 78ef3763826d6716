-- An id put at the head of its bucket leaves the chains whole, and the ids that are kept are the distinct ones of those noted.
use Prim.Native.Nat.{ℕ, zero, suc, ◌+◌, ◌*◌, ◌-◌, ◌/◌, ◌%◌, ◌≤◌, ◌<◌}
use mathlib.Core.Path.{◌≡◌, refl, sym, ap, ap₂, subst, ◌∙◌}
use mathlib.Core.Bool.{Bool, true, false, cond}
use mathlib.Core.List.{List, [], ◌∷◌, ◌++◌, append-nil, append_assoc}
use native.Mathlib.Nat.{not-suc-le-zero}
use native.Mathlib.Numerals.{add-one}
use native.Mathlib.Omega.{arith}
use lib.Dec.{eqb, ltb}
use lib.ListN.{length, get_or, set, take, drop, replicate, length-set, length-append}
use lib.Seq.{get_or-set_same, get_or-set_other, take-take}
use borrow.Author.Tests.{eqb-true, eqb-false, lt-ltb, ltb-true, ltb-false}
use Rattle.octets.specs.Part.{written}
use Rattle.octets.proofs.Parts.{length-written, take_back, part_back}
use Rattle.table.specs.Lists.{same, any_of, distinct}
use Rattle.table.specs.Table.{Table}
use Rattle.table.proofs.Walk.{drop-take}
use Rattle.table.proofs.Distinct.{distinct_end, distinct_grows, any_distinct}
use Rattle.hmac.specs.declared.Keyed.{Keyed}
use Rattle.chains.specs.Chains.{id_by, Kept, kept, row_at, link_at, kept_ids, met, bucket_of, linked, first_ids, added, noted, last_in, Readable, Chained}
use Rattle.chains.proofs.Chains.{last_le, last_alike, RowsM, id_wide, id_of}

bucket_below : (x : List ℕ) → bucket_of x < 4096
unfolding bucket_of
bucket_below x = omega arith

-- ---- the index with an id more

linked_long : (index : List ℕ) (n r b : ℕ) → length (linked index n r b) ≡ length index
unfolding linked
linked_long index n r b =
    let one = set index (4096 + n) (65536 * r + get_or index b 0) in
    length-set one b (n + 1) ∙ length-set index (4096 + n) (65536 * r + get_or index b 0)

module _ (index : List ℕ) (n r b : ℕ) (hb : b < 4096) (head : get_or index b 0 < 65536) (room : 4096 + n + 1 ≤ length index) where
  -- elsewhere it is as it was
  linked_other : (j : ℕ) → (j ≡ b → ⊥) → (j ≡ 4096 + n → ⊥) → get_or (linked index n r b) j 0 ≡ get_or index j 0
  unfolding linked
  linked_other j e f =
      get_or-set_other (set index (4096 + n) (65536 * r + get_or index b 0)) b j (n + 1) 0 e ∙ get_or-set_other index (4096 + n) j (65536 * r + get_or index b 0) 0 f

  linked_at : get_or (linked index n r b) (4096 + n) 0 ≡ 65536 * r + get_or index b 0
  unfolding linked
  linked_at =
      get_or-set_other (set index (4096 + n) (65536 * r + get_or index b 0)) b (4096 + n) (n + 1) 0 (λ q. absurd (omega arith))
      ∙ get_or-set_same index (4096 + n) (65536 * r + get_or index b 0) 0 (omega arith)

  linked_row : row_at (linked index n r b) n ≡ r
  linked_row = ap (λ (v : ℕ). v / 65536) linked_at ∙ omega arith

  linked_link : link_at (linked index n r b) n ≡ get_or index b 0
  linked_link = ap (λ (v : ℕ). v % 65536) linked_at ∙ omega arith

  linked_head : get_or (linked index n r b) b 0 ≡ n + 1
  unfolding linked
  linked_head =
      get_or-set_same (set index (4096 + n) (65536 * r + get_or index b 0)) b (n + 1) 0 (omega (arith, length-set index (4096 + n) (65536 * r + get_or index b 0)))

  before_here : (i : ℕ) → i < n → get_or (linked index n r b) (4096 + i) 0 ≡ get_or index (4096 + i) 0
  before_here i h = linked_other (4096 + i) (λ q. absurd (omega arith)) (λ q. absurd (omega arith))

  rows_before : (i : ℕ) → i < n → row_at (linked index n r b) i ≡ row_at index i
  rows_before i h = ap (λ (v : ℕ). v / 65536) (before_here i h)

  links_before : (i : ℕ) → i < n → link_at (linked index n r b) i ≡ link_at index i
  links_before i h = ap (λ (v : ℕ). v % 65536) (before_here i h)

kept_alike : (me : Keyed) (t : Table) (index index' : List ℕ) (n : ℕ) → ((i : ℕ) → i < n → row_at index' i ≡ row_at index i) → kept_ids me t index' n ≡ kept_ids me t index n
unfolding kept_ids
kept_alike me t index index' zero h = refl
kept_alike me t index index' (suc n) h =
    ap₂ (λ (l : List (List ℕ)) (r : ℕ). l ++ (id_by me t r ∷ [])) (kept_alike me t index index' n (λ i l. h i (omega arith))) (h n (omega arith))

-- ---- the bytes of the first ids

module _ (ids : List ℕ) (n : ℕ) (x : List ℕ) (room : length ids ≡ 65536) (wide : length x ≡ 16) where
  first_long : length (first_ids ids n x) ≡ 65536
  unfolding first_ids
  first_long = go (ltb n 4096) refl
    where
      go : (b : Bool) → ltb n 4096 ≡ b → length (cond b (written ids (16 * n) x) ids) ≡ 65536
      go true e = length-written ids x (16 * n) (omega (arith, ltb-true n 4096 e)) ∙ room
      go false e = room

  first_before : (i : ℕ) → i < n → i < 4096 → take 16 (drop (16 * i) (first_ids ids n x)) ≡ take 16 (drop (16 * i) ids)
  unfolding first_ids
  first_before i h k = go (ltb n 4096) refl
    where
      front : (l : List ℕ) → take 16 (drop (16 * i) (take (16 * n) l)) ≡ take 16 (drop (16 * i) l)
      front l = ap (take 16) (drop-take (16 * i) (16 * n) l) ∙ take-take 16 (16 * n - 16 * i) (drop (16 * i) l) (omega arith)

      go : (b : Bool) → ltb n 4096 ≡ b → take 16 (drop (16 * i) (cond b (written ids (16 * n) x) ids)) ≡ take 16 (drop (16 * i) ids)
      go true e =
          sym (front (written ids (16 * n) x))
          ∙ ap (λ (l : List ℕ). take 16 (drop (16 * i) l)) (take_back ids (16 * n) (16 * n + length x) x (omega arith) (omega (arith, ltb-true n 4096 e)) (omega arith))
          ∙ front ids
      go false e = refl

  first_here : n < 4096 → take 16 (drop (16 * n) (first_ids ids n x)) ≡ x
  unfolding first_ids
  first_here h =
      ap (λ (b : Bool). take 16 (drop (16 * n) (cond b (written ids (16 * n) x) ids))) (lt-ltb n 4096 h)
      ∙ ap (λ (k : ℕ). take k (drop (16 * n) (written ids (16 * n) x))) (sym part)
      ∙ part_back ids (16 * n) (16 * n + length x) x (omega arith) (omega arith) (omega arith)
    where
      part : 16 * n + length x - 16 * n ≡ 16
      part = omega arith

-- ---- the chains stay whole

pub chained_none : (me : Keyed) (t : Table) (index ids : List ℕ) → index ≡ replicate (length index) 0 → 4096 ≤ length index → length index ≤ 69632 → length ids ≡ 65536
    → Chained me t (kept index ids 0)
chained_none me t index ids e h k l = record {
  buckets = omega arith;
  most = k;
  room = l;
  readable = λ i z. absurd (not-suc-le-zero z);
  heads = λ b z. ap (λ (l : List ℕ). get_or l b 0) e ∙ zeros (length index) b;
  links = λ i z. absurd (not-suc-le-zero z);
}
  where
    zeros : (n b : ℕ) → get_or (replicate n zero) b zero ≡ zero
    zeros zero b = refl
    zeros (suc n) zero = refl
    zeros (suc n) (suc b) = zeros n b

module _ (me : Keyed) (t : Table) (w : RowsM t) (r : ℕ) (inside : r % 4096 < length t) (k : Kept) (c : Chained me t k) where
  module _ (room : 4096 + (k.n + 1) ≤ length k.index) where
    x : List ℕ
    x = id_by me t r

    b : ℕ
    b = bucket_of x

    index : List ℕ
    index = linked k.index k.n r b

    hb : b < 4096
    unfolding b
    hb = bucket_below x

    -- a head is no more than the ids that are kept
    hh : get_or k.index b 0 < 65536
    hh = omega (arith, room, c.most, c.heads b hb, last_le b (id_of me t k.index) k.n)

    before : (i : ℕ) → i < k.n → id_of me t index i ≡ id_of me t k.index i
    unfolding index
    before i h = ap (id_by me t) (rows_before k.index k.n r b hb hh (omega (arith, room)) i h)

    here : id_of me t index k.n ≡ x
    unfolding index x
    here = ap (id_by me t) (linked_row k.index k.n r b hb hh (omega (arith, room)))

    x_wide : length x ≡ 16
    unfolding x
    x_wide = id_wide me t r w inside

    long : length index ≡ length k.index
    unfolding index
    long = linked_long k.index k.n r b

    -- before the new id, or the new one
    by : (P : ℕ → Type 0) → ((i : ℕ) → i < k.n → P i) → P k.n → (i : ℕ) → i < k.n + 1 → P i
    by P f g i h = go (ltb i k.n) refl
      where
        go : (a : Bool) → ltb i k.n ≡ a → P i
        go true e = f i (ltb-true i k.n e)
        go false e =
            let q : k.n ≡ i = omega (arith, ltb-false i k.n e) in
            subst P q g

    readable : (i : ℕ) → i < k.n + 1 → Readable me t index (first_ids k.ids k.n x) i
    unfolding index x b
    readable = by (λ i. Readable me t index (first_ids k.ids k.n x) i)
        (λ i h. record {
          listed = omega (arith, room, long);
          inside = subst (λ (j : ℕ). j % 4096 < length t) (sym (rows_before k.index k.n r b hb hh (omega (arith, room)) i h)) (c.readable i h).inside;
          room = first_long k.ids k.n x c.room x_wide;
          bytes = λ l. first_before k.ids k.n x c.room x_wide i h l ∙ (c.readable i h).bytes l ∙ sym (before i h);
        })
        (record {
          listed = omega (arith, room, long);
          inside = subst (λ (j : ℕ). j % 4096 < length t) (sym (linked_row k.index k.n r b hb hh (omega (arith, room)))) inside;
          room = first_long k.ids k.n x c.room x_wide;
          bytes = λ l. first_here k.ids k.n x c.room x_wide l ∙ sym here;
        })

    heads : (a : ℕ) → a < 4096 → get_or index a 0 ≡ last_in a (id_of me t index) (k.n + 1)
    unfolding index b
    heads a h = rw (add-one k.n) (rw here (go (eqb b a) refl))
      where
        go : (q : Bool) → eqb b a ≡ q → get_or index a 0 ≡ cond q (suc k.n) (last_in a (id_of me t index) k.n)
        go true q =
            ap (λ (a : ℕ). get_or index a 0) (sym (eqb-true b a q)) ∙ linked_head k.index k.n r b hb hh (omega (arith, room)) ∙ add-one k.n
        go false q =
            linked_other k.index k.n r b hb hh (omega (arith, room)) a (λ z. eqb-false b a q (sym z)) (λ z. absurd (omega arith))
            ∙ c.heads a h ∙ sym (last_alike a (id_of me t index) (id_of me t k.index) k.n before)

    links : (i : ℕ) → i < k.n + 1 → link_at index i ≡ last_in (bucket_of (id_of me t index i)) (id_of me t index) i
    unfolding index b
    links = by (λ i. link_at index i ≡ last_in (bucket_of (id_of me t index i)) (id_of me t index) i)
        (λ i h. links_before k.index k.n r b hb hh (omega (arith, room)) i h ∙ c.links i h
        ∙ ap (λ (y : List ℕ). last_in (bucket_of y) (id_of me t k.index) i) (sym (before i h))
        ∙ sym (last_alike (bucket_of (id_of me t index i)) (id_of me t index) (id_of me t k.index) i (λ j l. before j (omega arith))))
        (linked_link k.index k.n r b hb hh (omega (arith, room)) ∙ c.heads b hb
        ∙ ap (λ (y : List ℕ). last_in (bucket_of y) (id_of me t k.index) k.n) (sym here)
        ∙ sym (last_alike (bucket_of (id_of me t index k.n)) (id_of me t index) (id_of me t k.index) k.n before))

    chained_added : Chained me t (added r (id_by me t r) k)
    unfolding added index x b
    chained_added = record {
      buckets = omega (arith, room, long);
      most = omega (arith, c.most, long);
      room = first_long k.ids k.n x c.room x_wide;
      readable = readable;
      heads = heads;
      links = links;
    }

    kept_added : kept_ids me t (added r (id_by me t r) k).index (added r (id_by me t r) k).n ≡ kept_ids me t k.index k.n ++ (id_by me t r ∷ [])
    unfolding added index x b kept_ids
    kept_added = rw (add-one k.n)
        (ap₂ (λ (l : List (List ℕ)) (y : List ℕ). l ++ (y ∷ []))
        (kept_alike me t k.index index k.n (rows_before k.index k.n r b hb hh (omega (arith, room)))) here)

  pub chained_noted : 4096 + (noted me t r k).n ≤ length k.index → Chained me t (noted me t r k)
  unfolding noted
  chained_noted h = go (met me t k (id_by me t r)) h
    where
      go : (a : Bool) → 4096 + (cond a k (added r (id_by me t r) k)).n ≤ length k.index → Chained me t (cond a k (added r (id_by me t r) k))
      go true h = c
      go false h = chained_added (unfold added in h)

  -- those kept of xs, and one more
  pub kept_noted : 4096 + (noted me t r k).n ≤ length k.index → (xs : List (List ℕ)) → kept_ids me t k.index k.n ≡ distinct xs
      → kept_ids me t (noted me t r k).index (noted me t r k).n ≡ distinct (xs ++ (id_by me t r ∷ []))
  unfolding noted
  kept_noted h xs e =
      go (met me t k (id_by me t r)) h
      ∙ ap (λ (a : Bool). cond a (distinct xs) (distinct xs ++ (id_by me t r ∷ []))) (ap (any_of (λ y. same y (id_by me t r))) e ∙ any_distinct (id_by me t r) xs)
      ∙ sym (distinct_end (id_by me t r) xs)
    where
      go : (a : Bool) → 4096 + (cond a k (added r (id_by me t r) k)).n ≤ length k.index
          → kept_ids me t (cond a k (added r (id_by me t r) k)).index (cond a k (added r (id_by me t r) k)).n ≡ cond a (distinct xs) (distinct xs ++ (id_by me t r ∷ []))
      go true h = e
      go false h = kept_added (unfold added in h) ∙ ap (λ (l : List (List ℕ)). l ++ (id_by me t r ∷ [])) e

-- ---- ids noted one after the other

-- k' comes of k by noting ids: the chains stay whole, and those kept are the distinct ones, where there is room for them
pub record Gathers (me : Keyed) (t : Table) (k k' : Kept) (ids : List (List ℕ)) : Type 0 where
  pub grows : k.n ≤ k'.n
  pub long : length k'.index ≡ length k.index
  pub chained : Chained me t k → 4096 + k'.n ≤ length k.index → Chained me t k'
  pub keeps : Chained me t k → 4096 + k'.n ≤ length k.index → (xs : List (List ℕ)) → kept_ids me t k.index k.n ≡ distinct xs
      → kept_ids me t k'.index k'.n ≡ distinct (xs ++ ids)
  pub fits : Chained me t k → (xs : List (List ℕ)) → kept_ids me t k.index k.n ≡ distinct xs → 4096 + length (distinct (xs ++ ids)) ≤ length k.index
      → 4096 + k'.n ≤ length k.index

pub kept_length : (me : Keyed) (t : Table) (index : List ℕ) (n : ℕ) → length (kept_ids me t index n) ≡ n
unfolding kept_ids
kept_length me t index zero = refl
kept_length me t index (suc n) = length-append (kept_ids me t index n) (id_by me t (row_at index n) ∷ []) ∙ omega (arith, kept_length me t index n)

pub gathers_none : (me : Keyed) (t : Table) (k : Kept) → Gathers me t k k []
gathers_none me t k = record { grows = omega arith; long = refl; chained = λ c h. c; keeps = λ c h xs e. e ∙ ap distinct (sym (append-nil xs)); fits = λ c xs e h. c.buckets }

pub gathers_one : (me : Keyed) (t : Table) → RowsM t → (r : ℕ) → r % 4096 < length t → (k : Kept) → Gathers me t k (noted me t r k) (id_by me t r ∷ [])
unfolding noted added
gathers_one me t w r inside k = record {
  grows = grows (met me t k (id_by me t r));
  long = long (met me t k (id_by me t r));
  chained = λ c. chained_noted me t w r inside k c;
  keeps = λ c. kept_noted me t w r inside k c;
  fits = λ c xs e h. omega (arith, h, counted xs e);
}
  where
    -- one more than there were, where it was not met
    counted : (xs : List (List ℕ)) → kept_ids me t k.index k.n ≡ distinct xs → (noted me t r k).n ≡ length (distinct (xs ++ (id_by me t r ∷ [])))
    counted xs e =
        ap (λ (b : Bool). (cond b k (added r (id_by me t r) k)).n) (ap (any_of (λ y. same y (id_by me t r))) e ∙ any_distinct (id_by me t r) xs)
        ∙ go (any_of (λ y. same y (id_by me t r)) xs) ∙ sym (ap length (distinct_end (id_by me t r) xs))
      where
        now : k.n ≡ length (distinct xs)
        now = sym (kept_length me t k.index k.n) ∙ ap length e

        go : (b : Bool) → (cond b k (added r (id_by me t r) k)).n ≡ length (cond b (distinct xs) (distinct xs ++ (id_by me t r ∷ [])))
        go true = now
        go false = omega (arith, now, length-append (distinct xs) (id_by me t r ∷ []))

    grows : (a : Bool) → k.n ≤ (cond a k (added r (id_by me t r) k)).n
    grows true = omega arith
    grows false = omega arith

    long : (a : Bool) → length (cond a k (added r (id_by me t r) k)).index ≡ length k.index
    long true = refl
    long false = linked_long k.index k.n r (bucket_of (id_by me t r))

pub gathers_then : (me : Keyed) (t : Table) (k k' k'' : Kept) (l l' : List (List ℕ)) → Gathers me t k k' l → Gathers me t k' k'' l' → Gathers me t k k'' (l ++ l')
gathers_then me t k k' k'' l l' g g' = record {
  grows = omega (arith, g.grows, g'.grows);
  long = g'.long ∙ g.long;
  chained = λ c h. g'.chained (g.chained c (omega (arith, h, g'.grows))) (omega (arith, h, g.long));
  keeps = λ c h xs e.
      g'.keeps (g.chained c (omega (arith, h, g'.grows))) (omega (arith, h, g.long)) (xs ++ l) (g.keeps c (omega (arith, h, g'.grows)) xs e)
      ∙ ap distinct (append_assoc xs l l');
  fits = λ c xs e h.
      let q = ap (λ (a : List (List ℕ)). length (distinct a)) (append_assoc xs l l') in
      let f = g.fits c xs e (omega (arith, h, q, distinct_grows (xs ++ l) l')) in
      let f' = g'.fits (g.chained c f) (xs ++ l) (g.keeps c f xs e) (omega (arith, h, q, g.long)) in
      omega (arith, f', g.long);
}
