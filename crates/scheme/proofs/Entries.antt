-- The rows of M and V. They are, in whatever order, the images of one list of items (pair, address, id, nonce), each pair and
-- address once; gathering a pair's ids over addresses 1 to its number made gives the ledger's list.
use Prim.Native.Nat.{ℕ, zero, suc, ◌+◌, ◌*◌, ◌≤◌, ◌<◌}
use mathlib.Core.Path.{◌≡◌, refl, sym, ap, ◌∙◌}
use mathlib.Core.Bool.{Bool, true, false, cond, not, ◌&&◌, true≢false, and-false}
use mathlib.Core.Option.{Option, none, some}
use mathlib.Core.List.{List, [], ◌∷◌, ◌++◌, map, append_assoc, append-nil}
use native.Mathlib.Nat.{add-zero}
use native.Mathlib.Omega.{arith}
use lib.Dec.{eqb}
use lib.ListN.{length, take, drop, length-drop}
use lib.Seq.{take_at, drop_at, length-take-le}
use borrow.Author.Tests.{eqb-true, eq-eqb}
use Rattle.table.specs.Lists.{bit, same, select, count, first, any_of, All, Same}
use Rattle.table.specs.Table.{Table, used, body, has_tag, lookup}
use Rattle.table.specs.Order.{closed}
use Rattle.table.proofs.Counting.{both, same_true, same_refl, same-eq, ne_same, count_map, count_agree, count-select, count_stricter, select-map, select-append, select_agree, first_agree, first-map, on_some, only_if, first-select, first_same, first_passes, all_select, all_map, all_both, all_counted, count_any, none_any, Same-refl, Same-trans, Same-cons, Same-select}
use Rattle.table.proofs.Arranging.{Added, AddedAll, added_same, added_none, added_next, closed_same}
use Rattle.scheme.specs.Suite.{number8}
use Rattle.scheme.specs.Keys.{MT, ME}
use Rattle.scheme.specs.Store.{table_m, table_v, width_of, entry_tag, entry_row, reverse_row, id_in, reverse_id, reverse_tag}
use Rattle.scheme.specs.Insert.{entry_rows, reverse_rows}
use Rattle.scheme.specs.Find.{id_of, ids_to}
use Rattle.scheme.specs.Ledger.{Pair, same_pair}
use Rattle.scheme.proofs.Setting.{Setting, PairOk, mtag, mtags, text_of, same_pair-true, same_pair_refl, same_pair_ne, by_pair}

pub record Item : Type 0 where
  pub pair : Pair
  pub address : ℕ
  pub id : List ℕ
  pub nonce : List ℕ

abbrev pub at : Pair → ℕ → Item → Bool
at pr a g = same_pair pr g.pair && eqb a g.address

abbrev pub id_item : Option Item → List (List ℕ)
id_item none = []
id_item (some g) = g.id ∷ []

abbrev pub gather : Pair → ℕ → List Item → List (List ℕ)
gather pr zero G = []
gather pr (suc n) G = gather pr n G ++ id_item (first (at pr (suc n)) G)

at_true : (pr : Pair) (a : ℕ) (g : Item) → at pr a g ≡ true → (pr ≡ g.pair) × (a ≡ g.address)
at_true pr a g e =
    let h = both (same_pair pr g.pair) (eqb a g.address) e in
    (same_pair-true pr g.pair h.0, eqb-true a g.address h.1)

at-eq : (pr : Pair) (a : ℕ) (g : Item) → pr ≡ g.pair → a ≡ g.address → at pr a g ≡ true
at-eq pr a g e f = rw (e, f, same_pair_refl g.pair, eq-eqb g.address g.address refl) refl

at-false : (pr : Pair) (a : ℕ) (g : Item) → ((pr ≡ g.pair) → (a ≡ g.address) → ⊥) → at pr a g ≡ false
at-false pr a g h = go (at pr a g) refl
  where
    go : (b : Bool) → at pr a g ≡ b → b ≡ false
    go true e = let w = at_true pr a g e in absurd (h w.0 w.1)
    go false e = refl

module _ (x : Setting) where
  open x use {suite, K, z, calls}

  abbrev pub mt_of : Pair → List ℕ
  mt_of pr = MT suite K pr.field pr.u

  abbrev pub me_of : Pair → List ℕ
  me_of pr = ME suite K pr.field pr.u

  abbrev pub item_m : Item → List ℕ
  item_m g = body (entry_row suite (mt_of g.pair) (me_of g.pair) g.address g.nonce g.id)

  abbrev pub item_v : Item → List ℕ
  item_v g = body (reverse_row suite (mt_of g.pair) g.address g.id)

  pub record Good (g : Item) : Type 0 where
    pub ok : PairOk x g.pair
    pub low : 1 ≤ g.address
    pub high : g.address ≤ 64 * length calls
    pub id_length : length g.id ≡ 16
    pub nonce_length : length g.nonce ≡ 12

  mtag-length : (pr : Pair) (a : ℕ) → length (mtag x pr a) ≡ 32
  unfolding entry_tag
  mtag-length pr a = suite.f_length (mt_of pr) (number8 a)

  pub item_m_tag : (g : Item) → take 32 (item_m g) ≡ mtag x g.pair g.address
  unfolding entry_row
  item_m_tag g = take_at (mtag x g.pair g.address) _ 32 (mtag-length g.pair g.address)

  item_m-id : (g : Item) → Good g → id_in suite (me_of g.pair) (item_m g) ≡ g.id
  unfolding entry_row id_in
  item_m-id g h = text_of suite (me_of g.pair) (mtag x g.pair g.address) g.nonce g.id (mtag-length g.pair g.address) h.nonce_length

  pub item_v-id : (g : Item) → Good g → reverse_id (item_v g) ≡ g.id
  unfolding reverse_row reverse_id
  item_v-id g h = take_at g.id (mtag x g.pair g.address) 16 h.id_length

  pub item_v_tag : (g : Item) → Good g → reverse_tag (item_v g) ≡ mtag x g.pair g.address
  unfolding reverse_row reverse_tag
  item_v_tag g h = drop_at g.id (mtag x g.pair g.address) 16 h.id_length

  pub record Entries (t_m t_v : Table) (all : List (List ℕ)) (ids : Pair → List (List ℕ)) (made : Pair → ℕ) : Type 0 where
    pub G : List Item
    pub good : All Good G
    pub rows_m : Same (used t_m) (map item_m G)
    pub rows_v : Same (used t_v) (map item_v G)
    pub once : (pr : Pair) (a : ℕ) → PairOk x pr → count (at pr a) G ≤ 1
    pub below : (pr : Pair) (a : ℕ) → PairOk x pr → made pr < a → count (at pr a) G ≡ 0
    pub listing : Same all (map (λ (g : Item). g.id) G)
    pub gathers : (pr : Pair) → PairOk x pr → gather pr (made pr) G ≡ ids pr

  -- ---- a lookup

  pub tag_agrees : (pr : Pair) (a : ℕ) → PairOk x pr → 1 ≤ a → a ≤ 64 * length calls → (g : Item) → Good g → has_tag (mtag x pr a) (item_m g) ≡ at pr a g
  tag_agrees pr a ok l u g h = rw (item_m_tag g) (go (at pr a g) refl)
    where
      go : (b : Bool) → at pr a g ≡ b → same (mtag x g.pair g.address) (mtag x pr a) ≡ b
      go true e =
          let w = at_true pr a g e in
          let p = w.0 in
          let q = w.1 in
          same-eq (mtag x g.pair g.address) (mtag x pr a) (rw (p, q) refl)
      go false e = ne_same (mtag x g.pair g.address) (mtag x pr a) (λ w.
          let r = mtags x g.pair pr g.address a h.ok ok h.low h.high l u w in
          true≢false (sym (at-eq pr a g (sym r.0) (sym r.1)) ∙ e))

  module _ (t_m t_v : Table) (all : List (List ℕ)) (ids : Pair → List (List ℕ)) (made : Pair → ℕ) (X : Entries t_m t_v all ids made) where
    lookup_is : (pr : Pair) (a : ℕ) → PairOk x pr → 1 ≤ a → a ≤ 64 * length calls → lookup (mtag x pr a) t_m ≡ on_some item_m (first (at pr a) X.G)
    unfolding lookup
    lookup_is pr a ok l u =
        let agree = tag_agrees pr a ok l u in
        let c : count (has_tag (mtag x pr a)) (used t_m) ≡ count (at pr a) X.G =
        X.rows_m.counts (has_tag (mtag x pr a))
        ∙ count_map item_m (has_tag (mtag x pr a)) X.G
        ∙ count_agree Good (λ g. has_tag (mtag x pr a) (item_m g)) (at pr a) agree X.G X.good in
        let o = X.once pr a ok in
        first_same (has_tag (mtag x pr a)) (used t_m) (map item_m X.G) X.rows_m (omega arith)
        ∙ first-map item_m (has_tag (mtag x pr a)) X.G
        ∙ ap (on_some item_m) (first_agree Good (λ g. has_tag (mtag x pr a) (item_m g)) (at pr a) agree X.G X.good)

    good_first : (pr : Pair) (a : ℕ) (g : Item) (l : List Item) → All Good l → first (at pr a) l ≡ some g → Good g
    good_first pr a g [] al e = absurd (let z : ◌≡◌ {A = ℕ} 0 1 = cc in omega arith)
    good_first pr a g (y ∷ ys) al e = go (at pr a y) e (good_first pr a g ys al.1)
      where
        go : (b : Bool) → cond b (some y) (first (at pr a) ys) ≡ some g → (first (at pr a) ys ≡ some g → Good g) → Good g
        go true e k = let p : y ≡ g = cc in rw p at al.0
        go false e k = k e

    id_is : (pr : Pair) (a : ℕ) → (o : Option Item) → first (at pr a) X.G ≡ o → id_of suite (me_of pr) (on_some item_m o) ≡ id_item o
    id_is pr a none e = refl
    id_is pr a (some g) e =
        let w = at_true pr a g (first_passes (at pr a) X.G g e) in
        let p : me_of pr ≡ me_of g.pair = ap me_of w.0 in
        ap (λ (i : List ℕ). i ∷ []) (ap (λ (k : List ℕ). id_in suite k (item_m g)) p ∙ item_m-id g (good_first pr a g X.G X.good e))

    -- find's ids of a share are the gathered ones
    pub ids_to_lem : (pr : Pair) → PairOk x pr → (n : ℕ) → n ≤ 64 * length calls → ids_to suite (mt_of pr) (me_of pr) t_m n ≡ gather pr n X.G
    ids_to_lem pr ok zero h = refl
    ids_to_lem pr ok (suc n) h =
        let e = ids_to_lem pr ok n (omega arith) in
        let l = lookup_is pr (suc n) ok (omega arith) h in
        let i = id_is pr (suc n) (first (at pr (suc n)) X.G) refl in
        let f : id_of suite (me_of pr) (lookup (mtag x pr (suc n)) t_m) ≡ id_item (first (at pr (suc n)) X.G) = ap (id_of suite (me_of pr)) l ∙ i in
        ap (λ (r : List (List ℕ)). r ++ id_of suite (me_of pr) (lookup (mtag x pr (suc n)) t_m)) e
        ∙ ap (λ (r : List (List ℕ)). gather pr n X.G ++ r) f

  -- ---- insert

  gather_skip : (pr : Pair) (n : ℕ) (g : Item) (G : List Item) → ((a : ℕ) → a ≤ n → at pr a g ≡ false) → gather pr n (g ∷ G) ≡ gather pr n G
  gather_skip pr zero g G h = refl
  gather_skip pr (suc n) g G h =
      let e = gather_skip pr n g G (λ a l. h a (omega arith)) in
      let f : first (at pr (suc n)) (g ∷ G) ≡ first (at pr (suc n)) G = rw (h (suc n) (omega arith)) refl in
      ap (λ (r : List (List ℕ)). r ++ id_item (first (at pr (suc n)) (g ∷ G))) e ∙ ap (λ (o : Option Item). gather pr n G ++ id_item o) f

  module _ (t_m t_v : Table) (all : List (List ℕ)) (ids : Pair → List (List ℕ)) (made : Pair → ℕ) (X : Entries t_m t_v all ids made)
      (pr : Pair) (ok : PairOk x pr) (id nonce : List ℕ) (fits : suc (made pr) ≤ 64 * length calls) (hi : length id ≡ 16) (hn : length nonce ≡ 12)
      (t_m' t_v' : Table) (in_m : Added (width_of table_m) t_m (entry_row suite (mt_of pr) (me_of pr) (suc (made pr)) nonce id) t_m') (in_v : Added (width_of table_v) t_v (reverse_row suite (mt_of pr) (suc (made pr)) id) t_v')
      (all' : List (List ℕ)) (listing' : Same all' (id ∷ all))
      (ids' : Pair → List (List ℕ)) (ids-own : ids' pr ≡ ids pr ++ (id ∷ [])) (ids-other : (q : Pair) → (q ≡ pr → ⊥) → ids' q ≡ ids q)
      (made' : Pair → ℕ) (made-own : made' pr ≡ suc (made pr)) (Made-other : (q : Pair) → (q ≡ pr → ⊥) → made' q ≡ made q) where
    abbrev g : Item
    g = record { pair = pr; address = suc (made pr); id = id; nonce = nonce }

    apart : (q : Pair) (a : ℕ) → (q ≡ pr → ⊥) → at q a g ≡ false
    apart q a ne = at-false q a g (λ e f. ne e)

    higher : (a : ℕ) → (a ≡ suc (made pr) → ⊥) → at pr a g ≡ false
    higher a ne = at-false pr a g (λ e f. ne f)

    once' : (q : Pair) (a : ℕ) → PairOk x q → count (at q a) (g ∷ X.G) ≤ 1
    once' q a oq = go (at q a g) refl
      where
        go : (b : Bool) → at q a g ≡ b → bit b + count (at q a) X.G ≤ 1
        go true e =
            let w = at_true q a g e in
            let l : made q < a = rw (w.0, w.1) (omega arith) in
            let n = X.below q a oq l in
            omega arith
        go false e = let w = X.once q a oq in omega arith

    below' : (q : Pair) → PairOk x q → (a : ℕ) → made' q < a → count (at q a) (g ∷ X.G) ≡ 0
    below' = by_pair pr (λ q. PairOk x q → (a : ℕ) → made' q < a → count (at q a) (g ∷ X.G) ≡ 0)
        (λ oq a l. let e : bit (at pr a g) ≡ 0 = ap bit (higher a (λ f. omega arith)) in let n = X.below pr a ok (omega arith) in omega arith)
        (λ q ne oq a l. let e : bit (at q a g) ≡ 0 = ap bit (apart q a ne) in let m = Made-other q ne in let n = X.below q a oq (omega arith) in omega arith)

    gathers' : (q : Pair) → PairOk x q → gather q (made' q) (g ∷ X.G) ≡ ids' q
    gathers' = by_pair pr (λ q. PairOk x q → gather q (made' q) (g ∷ X.G) ≡ ids' q)
        (λ oq.
        let f : first (at pr (suc (made pr))) (g ∷ X.G) ≡ some g = rw (at-eq pr (suc (made pr)) g refl refl) refl in
        ap (λ (n : ℕ). gather pr n (g ∷ X.G)) made-own
        ∙ ap (λ (r : List (List ℕ)). r ++ id_item (first (at pr (suc (made pr))) (g ∷ X.G))) (gather_skip pr (made pr) g X.G (λ a l. higher a (λ e. omega arith)) ∙ X.gathers pr ok)
        ∙ ap (λ (o : Option Item). ids pr ++ id_item o) f
        ∙ sym ids-own)
        (λ q ne oq.
        ap (λ (n : ℕ). gather q n (g ∷ X.G)) (Made-other q ne)
        ∙ gather_skip q (made q) g X.G (λ a l. apart q a ne)
        ∙ X.gathers q oq
        ∙ sym (ids-other q ne))

    pub entries_insert : Entries t_m' t_v' all' ids' made'
    entries_insert = record {
      G = g ∷ X.G;
      good = (record { ok = ok; low = omega arith; high = fits; id_length = hi; nonce_length = hn }, X.good);
      rows_m = Same-trans (used t_m') (item_m g ∷ used t_m) (item_m g ∷ map item_m X.G) (added_same (width_of table_m) t_m _ t_m' in_m) (Same-cons (item_m g) (used t_m) (map item_m X.G) X.rows_m);
      rows_v = Same-trans (used t_v') (item_v g ∷ used t_v) (item_v g ∷ map item_v X.G) (added_same (width_of table_v) t_v _ t_v' in_v) (Same-cons (item_v g) (used t_v) (map item_v X.G) X.rows_v);
      once = once';
      below = λ q a oq l. below' q oq a l;
      listing = Same-trans all' (id ∷ all) (id ∷ map (λ (g : Item). g.id) X.G) listing' (Same-cons id all (map (λ (g : Item). g.id) X.G) X.listing);
      gathers = gathers';
    }

  -- the same entries under other names
  pub entries_as : (t_m t_v t_m' t_v' : Table) (all all' : List (List ℕ)) (ids ids' : Pair → List (List ℕ)) (made made' : Pair → ℕ)
      → t_m ≡ t_m' → t_v ≡ t_v' → Same all' all → ((q : Pair) → ids' q ≡ ids q) → ((q : Pair) → made' q ≡ made q)
      → Entries t_m t_v all ids made → Entries t_m' t_v' all' ids' made'
  entries_as t_m t_v t_m' t_v' all all' ids ids' made made' e_m e_v s ei em X = record {
    G = X.G;
    good = X.good;
    rows_m = rw (← e_m) X.rows_m;
    rows_v = rw (← e_v) X.rows_v;
    once = X.once;
    below = λ q a oq l. X.below q a oq (rw (em q) at l);
    listing = Same-trans all' all (map (λ (g : Item). g.id) X.G) s X.listing;
    gathers = λ q oq. ap (λ (n : ℕ). gather q n X.G) (em q) ∙ X.gathers q oq ∙ sym (ei q);
  }

  -- all the ids of one insert, one after the other
  module _ (pr : Pair) (ok : PairOk x pr) where
    abbrev ids₁ : (Pair → List (List ℕ)) → List ℕ → Pair → List (List ℕ)
    ids₁ ids id q = cond (same_pair q pr) (ids q ++ (id ∷ [])) (ids q)

    abbrev made₁ : (Pair → ℕ) → Pair → ℕ
    made₁ made q = cond (same_pair q pr) (suc (made q)) (made q)

    entries_all_step : (id : List ℕ) (rest : List (List ℕ)) (all all' : List (List ℕ)) → Same all' (id ∷ (rest ++ all)) → Same all' (rest ++ (id ∷ all))
    entries_all_step id rest all all' s = record {
      counts = λ p.
          let a = s.counts p in
          let b = Rattle.table.proofs.Counting.count-append p rest all in
          let c = Rattle.table.proofs.Counting.count-append p rest (id ∷ all) in
          omega arith;
    }

    pub entries_insert_all : (l : List (List ℕ)) (nonces : List ℕ) (g : ℕ) (t_m t_v t_m' t_v' : Table) (all all' : List (List ℕ)) (ids ids' : Pair → List (List ℕ)) (made made' : Pair → ℕ)
        → Entries t_m t_v all ids made → made pr ≡ g → All (λ i. length i ≡ 16) l → 12 * length l ≤ length nonces → g + length l ≤ 64 * length calls
        → AddedAll (width_of table_m) t_m (entry_rows suite (mt_of pr) (me_of pr) g l nonces) t_m' → AddedAll (width_of table_v) t_v (reverse_rows suite (mt_of pr) g l) t_v'
        → Same all' (l ++ all)
        → ids' pr ≡ ids pr ++ l → ((q : Pair) → (q ≡ pr → ⊥) → ids' q ≡ ids q)
        → made' pr ≡ g + length l → ((q : Pair) → (q ≡ pr → ⊥) → made' q ≡ made q)
        → Entries t_m' t_v' all' ids' made'
    entries_insert_all [] nonces g t_m t_v t_m' t_v' all all' ids ids' made made' X eg w hn fits p_m p_v s io ioth mo moth =
        entries_as t_m t_v t_m' t_v' all all' ids ids' made made' (sym (added_none (width_of table_m) t_m t_m' p_m)) (sym (added_none (width_of table_v) t_v t_v' p_v)) s
        (by_pair pr (λ q. ids' q ≡ ids q) (io ∙ append-nil (ids pr)) ioth)
        (by_pair pr (λ q. made' q ≡ made q) (mo ∙ add-zero g ∙ sym eg) moth) X
    entries_insert_all (id ∷ l) nonces g t_m t_v t_m' t_v' all all' ids ids' made made' X eg w hn fits p_m p_v s io ioth mo moth =
        let n_m = added_next (width_of table_m) t_m _ _ t_m' p_m in
        let n_v = added_next (width_of table_v) t_v _ _ t_v' p_v in
        let yes₁ : same_pair pr pr ≡ true = same_pair_refl pr in
        let ln : length (take 12 nonces) ≡ 12 = length-take-le 12 nonces (omega arith) in
        let ld = length-drop 12 nonces in
        let no₁ : (q : Pair) → (q ≡ pr → ⊥) → same_pair q pr ≡ false = λ q ne. same_pair_ne q pr ne in
        let one_m : Added (width_of table_m) t_m (entry_row suite (mt_of pr) (me_of pr) (suc (made pr)) (take 12 nonces) id) n_m.between = rw eg n_m.one in
        let one_v : Added (width_of table_v) t_v (reverse_row suite (mt_of pr) (suc (made pr)) id) n_v.between = rw eg n_v.one in
        let X₁ : Entries n_m.between n_v.between (id ∷ all) (ids₁ ids id) (made₁ made) =
        entries_insert t_m t_v all ids made X pr ok id (take 12 nonces) (omega arith) w.0 ln n_m.between n_v.between one_m one_v
        (id ∷ all) (Same-refl (id ∷ all))
        (ids₁ ids id) (rw yes₁ refl) (λ q ne. rw (no₁ q ne) refl)
        (made₁ made) (rw yes₁ refl) (λ q ne. rw (no₁ q ne) refl) in
        let m₁ : made₁ made pr ≡ suc g = rw yes₁ (ap suc eg) in
        let i₁ : ids₁ ids id pr ≡ ids pr ++ (id ∷ []) = rw yes₁ refl in
        entries_insert_all l (drop 12 nonces) (suc g) n_m.between n_v.between t_m' t_v' (id ∷ all) all' (ids₁ ids id) ids' (made₁ made) made'
        X₁ m₁ w.1 (omega arith) (omega arith) n_m.more n_v.more (entries_all_step id l all all' s)
        (io ∙ sym (ap (λ (r : List (List ℕ)). r ++ l) i₁ ∙ append_assoc (ids pr) (id ∷ []) l))
        (λ q ne. ioth q ne ∙ sym (rw (no₁ q ne) refl))
        (mo ∙ omega arith)
        (λ q ne. moth q ne ∙ sym (rw (no₁ q ne) refl))

  -- ---- erase

  abbrev pub erased_in : Table → List ℕ → List ℕ → Bool
  erased_in t_v id b = any_of (same (take 32 b)) (map reverse_tag (select (λ b. same (reverse_id b) id) (used t_v)))

  module _ (t_m t_v : Table) (all : List (List ℕ)) (ids : Pair → List (List ℕ)) (made : Pair → ℕ) (X : Entries t_m t_v all ids made) (id : List ℕ) where
    abbrev keep : Item → Bool
    keep g = not (same g.id id)

    abbrev G' : List Item
    G' = select keep X.G

    -- a used V row is the id's where its item is
    reverse_agrees : (g : Item) → Good g → same (reverse_id (item_v g)) id ≡ same g.id id
    reverse_agrees g h = ap (λ (i : List ℕ). same i id) (item_v-id g h)

    -- how many V rows have the id and the tag of g
    tags_count : (g : Item) → count (same (take 32 (item_m g))) (map reverse_tag (select (λ b. same (reverse_id b) id) (used t_v))) ≡ count (λ h. same h.id id && same (mtag x g.pair g.address) (mtag x h.pair h.address)) X.G
    tags_count g =
        count_map reverse_tag (same (take 32 (item_m g))) (select (λ b. same (reverse_id b) id) (used t_v))
        ∙ count-select (λ b. same (reverse_id b) id) (λ b. same (take 32 (item_m g)) (reverse_tag b)) (used t_v)
        ∙ X.rows_v.counts (λ b. same (reverse_id b) id && same (take 32 (item_m g)) (reverse_tag b))
        ∙ count_map item_v (λ b. same (reverse_id b) id && same (take 32 (item_m g)) (reverse_tag b)) X.G
        ∙ count_agree Good (λ h. same (reverse_id (item_v h)) id && same (take 32 (item_m g)) (reverse_tag (item_v h)))
        (λ h. same h.id id && same (mtag x g.pair g.address) (mtag x h.pair h.address))
        (λ h good. rw (item_v-id h good, item_v_tag h good, item_m_tag g) refl) X.G X.good

    abbrev itag : Item → List ℕ
    itag h = mtag x h.pair h.address

    -- h has the id and g's tag; h is at g's pair and address
    abbrev hit : Item → Item → Bool
    hit g h = same h.id id && same (itag g) (itag h)

    abbrev own : Item → Item → Bool
    own g h = at g.pair g.address h

    -- an M row is freed where its item has the id
    erased_agrees : (g : Item) → Good g → ((p : Item → Bool) → p g ≡ true → 1 ≤ count p X.G) → erased_in t_v id (item_m g) ≡ same g.id id
    erased_agrees g good there = go (same g.id id) refl
      where
        hit-own : (h : Item) → Good h → (own g h && hit g h) ≡ hit g h
        hit-own h gh = by (same h.id id) (same (itag g) (itag h)) refl
          where
            by : (a b : Bool) → same (itag g) (itag h) ≡ b → (own g h && (a && b)) ≡ (a && b)
            by true true e =
                let r = mtags x g.pair h.pair g.address h.address good.ok gh.ok good.low good.high gh.low gh.high (same_true (itag g) (itag h) e) in
                rw (at-eq g.pair g.address h r.0 r.1) refl
            by true false e = and-false (own g h)
            by false b e = and-false (own g h)

        both-count : (l : List Item) → count (λ h. own g h && hit g h) l + count (λ h. own g h && not (hit g h)) l ≡ count (own g) l
        both-count [] = refl
        both-count (h ∷ hs) = by (own g h) (hit g h) (both-count hs)
          where
            by : (a b : Bool) → count (λ h. own g h && hit g h) hs + count (λ h. own g h && not (hit g h)) hs ≡ count (own g) hs
                → (bit (a && b) + count (λ h. own g h && hit g h) hs) + (bit (a && not b) + count (λ h. own g h && not (hit g h)) hs) ≡ bit a + count (own g) hs
            by true true e = omega arith
            by true false e = omega arith
            by false b e = omega arith

        go : (b : Bool) → same g.id id ≡ b → erased_in t_v id (item_m g) ≡ b
        go true e =
            let n = there (hit g) (rw (e, same_refl (itag g)) refl) in
            let c = tags_count g in
            count_any (same (take 32 (item_m g))) (map reverse_tag (select (λ b. same (reverse_id b) id) (used t_v))) (omega arith)
        go false e =
            let n = there (λ h. own g h && not (hit g h)) (rw (at-eq g.pair g.address g refl refl, e) refl) in
            let o = X.once g.pair g.address good.ok in
            let bc = both-count X.G in
            let a = count_agree Good (λ h. own g h && hit g h) (hit g) hit-own X.G X.good in
            let c = tags_count g in
            none_any (same (take 32 (item_m g))) (map reverse_tag (select (λ b. same (reverse_id b) id) (used t_v))) (omega arith)

    erased_all : All (λ g. erased_in t_v id (item_m g) ≡ same g.id id) X.G
    erased_all =
        all_map (λ g h. erased_agrees g h.0 h.1) X.G
        (all_both Good (λ g. (p : Item → Bool) → p g ≡ true → 1 ≤ count p X.G) X.G X.good (all_counted X.G X.G (λ p. omega arith)))

    gather_keep : (pr : Pair) → PairOk x pr → (n : ℕ) → gather pr n G' ≡ select (λ y. not (same y id)) (gather pr n X.G)
    gather_keep pr ok zero = refl
    gather_keep pr ok (suc n) =
        ap (λ (r : List (List ℕ)). r ++ id_item (first (at pr (suc n)) G')) (gather_keep pr ok n)
        ∙ ap (λ (o : Option Item). select (λ y. not (same y id)) (gather pr n X.G) ++ id_item o) (first-select (at pr (suc n)) keep X.G (X.once pr (suc n) ok))
        ∙ ap (λ (r : List (List ℕ)). select (λ y. not (same y id)) (gather pr n X.G) ++ r) (one (first (at pr (suc n)) X.G))
        ∙ sym (select-append (λ y. not (same y id)) (gather pr n X.G) (id_item (first (at pr (suc n)) X.G)))
      where
        one : (o : Option Item) → id_item (only_if keep o) ≡ select (λ y. not (same y id)) (id_item o)
        one none = refl
        one (some g) = by (not (same g.id id))
          where
            by : (b : Bool) → id_item (cond b (some g) none) ≡ cond b (g.id ∷ []) []
            by true = refl
            by false = refl

    -- erase's answer
    pub erase_count : count (λ b. same (reverse_id b) id) (used t_v) ≡ count (λ y. same y id) all
    erase_count =
        X.rows_v.counts (λ b. same (reverse_id b) id)
        ∙ count_map item_v (λ b. same (reverse_id b) id) X.G
        ∙ count_agree Good (λ g. same (reverse_id (item_v g)) id) (λ g. same g.id id) reverse_agrees X.G X.good
        ∙ sym (X.listing.counts (λ y. same y id) ∙ count_map (λ (g : Item). g.id) (λ y. same y id) X.G)

    pub entries_erase : Entries (closed (width_of table_m) (erased_in t_v id) t_m) (closed (width_of table_v) (λ b. same (reverse_id b) id) t_v) (select (λ y. not (same y id)) all) (λ q. select (λ y. not (same y id)) (ids q)) made
    entries_erase = record {
      G = G';
      good = all_select Good keep X.G X.good;
      rows_m = record {
        counts = λ p.
            (closed_same (width_of table_m) (erased_in t_v id) t_m).counts p
            ∙ (Same-select (λ b. not (erased_in t_v id b)) (used t_m) (map item_m X.G) X.rows_m).counts p
            ∙ ap (count p) (select-map item_m (λ b. not (erased_in t_v id b)) X.G
            ∙ ap (map item_m) (select_agree (λ g. erased_in t_v id (item_m g) ≡ same g.id id) (λ g. not (erased_in t_v id (item_m g))) keep (λ g e. ap not e) X.G erased_all));
      };
      rows_v = record {
        counts = λ p.
            (closed_same (width_of table_v) (λ b. same (reverse_id b) id) t_v).counts p
            ∙ (Same-select (λ b. not (same (reverse_id b) id)) (used t_v) (map item_v X.G) X.rows_v).counts p
            ∙ ap (count p) (select-map item_v (λ b. not (same (reverse_id b) id)) X.G
            ∙ ap (map item_v) (select_agree Good (λ g. not (same (reverse_id (item_v g)) id)) keep (λ g h. ap not (reverse_agrees g h)) X.G X.good));
      };
      once = λ pr a ok.
          let c = count-select keep (at pr a) X.G in
          let l = count_stricter (λ g. keep g && at pr a g) (at pr a) (λ g e. (both (keep g) (at pr a g) e).1) X.G in
          let o = X.once pr a ok in
          omega arith;
      below = λ pr a ok h.
          let c = count-select keep (at pr a) X.G in
          let l = count_stricter (λ g. keep g && at pr a g) (at pr a) (λ g e. (both (keep g) (at pr a g) e).1) X.G in
          let o = X.below pr a ok h in
          omega arith;
      listing = record {
        counts = λ p.
            (Same-select (λ y. not (same y id)) all (map (λ (g : Item). g.id) X.G) X.listing).counts p
            ∙ ap (count p) (select-map (λ (g : Item). g.id) (λ y. not (same y id)) X.G);
      };
      gathers = λ pr ok. gather_keep pr ok (made pr) ∙ ap (select (λ y. not (same y id))) (X.gathers pr ok);
    }
