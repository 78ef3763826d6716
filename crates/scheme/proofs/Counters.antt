-- The rows of C and the log behind S. For each pair: anchors 1 to B and counters start + 1 to start + k are held and none above,
-- where k is how often the pair stands in the log; so the reading gives B, start, k and the number made. No tag stands twice.
use Prim.Native.Nat.{ℕ, zero, suc, ◌+◌, ◌≤◌, ◌<◌}
use mathlib.Core.Path.{◌≡◌, refl, sym, ap, ◌∙◌}
use mathlib.Core.Bool.{Bool, true, false, cond}
use mathlib.Core.Option.{none, some}
use mathlib.Core.List.{List, ◌∷◌, map}
use native.Mathlib.Nat.{add-zero, zero-add}
use native.Mathlib.Omega.{arith}
use lib.Dec.{eqb}
use lib.ListN.{length, take}
use borrow.Author.Tests.{eqb-true, eqb-false, le-ltb}
use Rattle.table.specs.Lists.{bit, same, count, is_some, All, Same}
use Rattle.table.specs.Table.{Row, Table, used, body, has_tag, lookup, holds}
use Rattle.table.proofs.Counting.{same_true, same_refl, same-eq, ne_same, none_first, same_length}
use Rattle.table.proofs.Arranging.{Added, added_same, added_other, added_found}
use Rattle.scheme.specs.Store.{table_c, width_of, counter_tag, anchor_tag, counted_row, counter_row}
use Rattle.scheme.specs.Reading.{Numbers, Reading, walk, numbers_at, anchors_held, anchor_numbers, start_of, counters_held, counter_numbers, is_damage, reading, limit}
use Rattle.scheme.specs.Ledger.{Pair}
use Rattle.scheme.specs.Premise.{Kind, counter, anchor}
use Rattle.scheme.proofs.Setting.{Setting, PairOk, cl_of, ctag, ctags, cl_differ, tag_length, counted_tag, numbers_found, counter≢anchor, by_pair}

-- ---- the walk

pub walk_is : (held : ℕ → Bool) (bound i k : ℕ) → k ≤ bound → ((a : ℕ) → i < a → a ≤ i + k → held a ≡ true) → held (suc (i + k)) ≡ false → walk held bound i ≡ k
walk_is held zero i k h y n = omega arith
walk_is held (suc bound) i zero h y n =
    let e : suc (i + 0) ≡ suc i = ap suc (add-zero i) in
    let f : held (suc i) ≡ false = rw e at n in
    rw f refl
walk_is held (suc bound) i (suc k) h y n =
    let e : i + suc k ≡ suc i + k = omega arith in
    let m : held (suc (suc i + k)) ≡ false = rw e at n in
    let f : held (suc i) ≡ true = y (suc i) (omega arith) (omega arith) in
    rw f (ap suc (walk_is held bound (suc i) k (omega arith) (λ a l u. y a (omega arith) (omega arith)) m))

-- where no tag stands twice, a row with a tag that was not held leaves it so
pub added_once : (w : ℕ) (t : Table) (row : Row) (t' : Table) → Added w t row t' → lookup (take 32 (body row)) t ≡ none
    → ((tag : List ℕ) → count (has_tag tag) (used t) ≤ 1) → (tag : List ℕ) → count (has_tag tag) (used t') ≤ 1
unfolding lookup
added_once w t row t' a new once tag = let s = (added_same w t row t' a).counts (has_tag tag) in let k = go (has_tag tag (body row)) refl in omega arith
  where
    go : (b : Bool) → has_tag tag (body row) ≡ b → bit b + count (has_tag tag) (used t) ≤ 1
    go true e =
        let q : take 32 (body row) ≡ tag = same_true (take 32 (body row)) tag e in
        let c = none_first (has_tag tag) (used t) (rw q at new) in
        omega arith
    go false e = let c = once tag in omega arith

pub none-holds : (tag : List ℕ) (t : Table) → lookup tag t ≡ none → holds tag t ≡ false
unfolding holds
none-holds tag t e = rw e refl

pub some_holds : (tag : List ℕ) (t : Table) (b : List ℕ) → lookup tag t ≡ some b → holds tag t ≡ true
unfolding holds
some_holds tag t b e = rw e refl

pub same_holds : (tag : List ℕ) (t u : Table) → lookup tag t ≡ lookup tag u → holds tag t ≡ holds tag u
unfolding holds
same_holds tag t u e = ap is_some e

module _ (x : Setting) where
  open x use {suite, K, z, calls, premise}

  -- how often a pair stands in the log
  abbrev pub run_of : List (List ℕ) → Pair → ℕ
  run_of L pr = count (same (cl_of x pr)) L

  -- what the rows of C hold of one pair, after i calls, with A anchors in all
  pub record PairCounter (t : Table) (L : List (List ℕ)) (A i : ℕ) (pr : Pair) (made : ℕ) : Type 0 where
    pub B : ℕ
    pub start : ℕ
    pub base : ℕ
    pub anchors_held : (b : ℕ) → 0 < b → b ≤ B → holds (ctag x pr anchor b) t ≡ true
    pub anchors_none : (b : ℕ) → B < b → b ≤ length calls + 1 → lookup (ctag x pr anchor b) t ≡ none
    pub counters_held : (a : ℕ) → start < a → a ≤ start + run_of L pr → holds (ctag x pr counter a) t ≡ true
    pub counters_none : (a : ℕ) → start + run_of L pr < a → a ≤ length calls + 1 → lookup (ctag x pr counter a) t ≡ none
    pub no_anchor : B ≡ 0 → (start ≡ 0) × (base ≡ 0)
    pub last_anchor : 0 < B → numbers_at suite (cl_of x pr) (lookup (ctag x pr anchor B) t) ≡ record { a = start; n = base }
    pub no_counter : run_of L pr ≡ 0 → base ≡ made
    pub last_counter : 0 < run_of L pr → numbers_at suite (cl_of x pr) (lookup (ctag x pr counter (start + run_of L pr)) t) ≡ record { a = 0; n = made }
    pub anchors_start : B ≤ start
    pub position_made : start + run_of L pr ≤ made
    pub position_calls : start + run_of L pr ≤ i
    pub made_limit : made ≤ limit
    pub base_limit : base ≤ limit
    pub anchors_total : B ≤ A

  pub record Counters (t : Table) (L : List (List ℕ)) (A i : ℕ) (made : Pair → ℕ) : Type 0 where
    pub pairs : (pr : Pair) → PairOk x pr → PairCounter t L A i pr (made pr)
    pub log : List Pair
    pub log_ok : All (PairOk x) log
    pub log_same : Same L (map (cl_of x) log)
    pub total : length (used t) ≡ A + length L
    pub once : (tag : List ℕ) → count (has_tag tag) (used t) ≤ 1

  -- ---- the reading

  module _ (t : Table) (L : List (List ℕ)) (A i : ℕ) (pr : Pair) (made : ℕ) (P : PairCounter t L A i pr made)
      (c : ℕ) (hi : i ≤ length calls) (h_b : A ≤ c) (hk : run_of L pr ≤ c) where
    anchors_is : anchors_held suite c (cl_of x pr) t ≡ P.B
    unfolding anchors_held
    anchors_is =
        let s = P.anchors_start in
        let k = P.position_calls in
        let l = P.anchors_total in
        let e : suc (0 + P.B) ≡ suc P.B = ap suc (zero-add P.B) in
        let n : holds (ctag x pr anchor (suc P.B)) t ≡ false = none-holds (ctag x pr anchor (suc P.B)) t (P.anchors_none (suc P.B) (omega arith) (omega arith)) in
        walk_is (λ b. holds (anchor_tag suite (cl_of x pr) b) t) c 0 P.B (omega arith)
        (λ a l u. P.anchors_held a l (omega arith))
        (rw e n)

    anchor_numbers_is : anchor_numbers suite c (cl_of x pr) t ≡ record { a = P.start; n = P.base }
    unfolding anchor_numbers
    anchor_numbers_is = rw anchors_is (go (eqb P.B 0) refl)
      where
        go : (b : Bool) → eqb P.B 0 ≡ b
            → cond b (record { a = 0; n = 0 }) (numbers_at suite (cl_of x pr) (lookup (anchor_tag suite (cl_of x pr) P.B) t)) ≡ record { a = P.start; n = P.base }
        go true e =
            let h = P.no_anchor (eqb-true P.B 0 e) in
            λ i. record { a = sym h.0 i; n = sym h.1 i }
        go false e =
            let n : P.B ≡ 0 → ⊥ = eqb-false P.B 0 e in
            P.last_anchor (omega (arith, n))

    start_is : start_of suite c (cl_of x pr) t ≡ P.start
    unfolding start_of
    start_is = ap (λ (m : Numbers). m.a) anchor_numbers_is

    counters_is : counters_held suite c (cl_of x pr) t ≡ run_of L pr
    unfolding counters_held
    counters_is =
        let s = P.position_calls in
        let n : holds (ctag x pr counter (suc (P.start + run_of L pr))) t ≡ false =
        none-holds (ctag x pr counter (suc (P.start + run_of L pr))) t (P.counters_none (suc (P.start + run_of L pr)) (omega arith) (omega arith)) in
        rw start_is (walk_is (λ a. holds (counter_tag suite (cl_of x pr) a) t) c P.start (run_of L pr) hk P.counters_held n)

    counter_numbers_is : counter_numbers suite c (cl_of x pr) t ≡ record { a = 0; n = made }
    unfolding counter_numbers
    counter_numbers_is = rw (counters_is, start_is, anchor_numbers_is) (go (eqb (run_of L pr) 0) refl)
      where
        go : (b : Bool) → eqb (run_of L pr) 0 ≡ b
            → cond b (record { a = 0; n = P.base }) (numbers_at suite (cl_of x pr) (lookup (counter_tag suite (cl_of x pr) (P.start + run_of L pr)) t)) ≡ record { a = 0; n = made }
        go true e =
            let h = P.no_counter (eqb-true (run_of L pr) 0 e) in
            λ i. record { a = 0; n = h i }
        go false e =
            let n : run_of L pr ≡ 0 → ⊥ = eqb-false (run_of L pr) 0 e in
            P.last_counter (omega (arith, n))

    pub reading_is : reading suite c (cl_of x pr) t ≡ Reading.counter P.B P.start (run_of L pr) made
    unfolding reading is_damage
    reading_is =
        let s = P.position_made in
        let m = P.made_limit in
        rw (counter_numbers_is, anchor_numbers_is, anchors_is, start_is, counters_is, le-ltb limit P.start (omega arith), le-ltb limit P.base P.base_limit, le-ltb limit made m) refl

  -- ---- where nothing of a pair changes

  abbrev pub Agree : Table → Table → Pair → Type 0
  Agree t t' pr = (h : Kind) (a : ℕ) → 0 < a → a ≤ length calls + 1 → lookup (ctag x pr h a) t' ≡ lookup (ctag x pr h a) t

  pub unchanged : (t t' : Table) (L L' : List (List ℕ)) (A A' i i' : ℕ) (pr : Pair) (made : ℕ) → Agree t t' pr → run_of L' pr ≡ run_of L pr → A ≤ A' → i ≤ i' → i ≤ length calls
      → PairCounter t L A i pr made → PairCounter t' L' A' i' pr made
  unchanged t t' L L' A A' i i' pr made ag r h_a hi hn P =
      let s = P.anchors_start in
      let q = P.position_calls in
      record {
        B = P.B;
        start = P.start;
        base = P.base;
        anchors_held = λ b l u. same_holds (ctag x pr anchor b) t' t (ag anchor b l (omega arith)) ∙ P.anchors_held b l u;
        anchors_none = λ b l u. ag anchor b (omega arith) u ∙ P.anchors_none b l u;
        counters_held = λ a l u. same_holds (ctag x pr counter a) t' t (ag counter a (omega arith) (omega arith)) ∙ P.counters_held a l (omega arith);
        counters_none = λ a l u. ag counter a (omega arith) u ∙ P.counters_none a (omega arith) u;
        no_anchor = P.no_anchor;
        last_anchor = λ l. rw (ag anchor P.B l (omega arith)) (P.last_anchor l);
        no_counter = λ e. P.no_counter (sym r ∙ e);
        last_counter = λ l. rw (r, ag counter (P.start + run_of L pr) (omega arith) (omega arith)) (P.last_counter (omega arith));
        anchors_start = s;
        position_made = rw r P.position_made;
        position_calls = let w : P.start + run_of L pr ≤ i' = omega arith in rw r w;
        made_limit = P.made_limit;
        base_limit = P.base_limit;
        anchors_total = let w = P.anchors_total in omega arith;
      }

  -- a row's tag against another
  pub tag_other : (row : Row) (own tag : List ℕ) → take 32 (body row) ≡ own → (own ≡ tag → ⊥) → has_tag tag (body row) ≡ false
  tag_other row own tag e n = rw e (ne_same own tag n)

  pub tag_own : (row : Row) (own : List ℕ) → take 32 (body row) ≡ own → has_tag own (body row) ≡ true
  tag_own row own e = same-eq (take 32 (body row)) own e

  -- a row added to C with the tag of a pair, a kind and a number
  module _ (t : Table) (pr : Pair) (h : Kind) (n : ℕ) (row : Row) (t' : Table) (ok : PairOk x pr) (added : Added (width_of table_c) t row t')
      (tag : take 32 (body row) ≡ ctag x pr h n) (low : 0 < n) (high : n ≤ length calls + 1) where
    pub added_pair : (q : Pair) → PairOk x q → (q ≡ pr → ⊥) → Agree t t' q
    added_pair q oq ne k a l u =
        added_other (width_of table_c) t row t' added (ctag x q k a) (tag_other row (ctag x pr h n) (ctag x q k a) tag (λ e. ne (sym (ctags x pr q h k n a ok oq low high l u e).pair)))

    pub added_number : (k : Kind) (a : ℕ) → 0 < a → a ≤ length calls + 1 → (k ≡ h → a ≡ n → ⊥) → lookup (ctag x pr k a) t' ≡ lookup (ctag x pr k a) t
    added_number k a l u ne =
        added_other (width_of table_c) t row t' added (ctag x pr k a)
        (tag_other row (ctag x pr h n) (ctag x pr k a) tag (λ e. let w = ctags x pr pr h k n a ok ok low high l u e in ne (sym w.kind) (sym w.number)))

    pub added_own : lookup (ctag x pr h n) t ≡ none → lookup (ctag x pr h n) t' ≡ some (body row)
    added_own e = added_found (width_of table_c) t row t' added (ctag x pr h n) (tag_own row (ctag x pr h n) tag) e

  run_cons : (L L' : List (List ℕ)) (pr q : Pair) → PairOk x pr → PairOk x q → Same L' (cl_of x pr ∷ L) → (q ≡ pr → ⊥) → run_of L' q ≡ run_of L q
  run_cons L L' pr q ok oq s ne =
      let e = s.counts (same (cl_of x q)) in
      let f : same (cl_of x q) (cl_of x pr) ≡ false = ne_same (cl_of x q) (cl_of x pr) (λ w. ne (cl_differ x q pr oq ok w)) in
      let g : bit (same (cl_of x q) (cl_of x pr)) ≡ 0 = rw f refl in
      omega arith

  run_own : (L L' : List (List ℕ)) (pr : Pair) → Same L' (cl_of x pr ∷ L) → run_of L' pr ≡ suc (run_of L pr)
  run_own L L' pr s =
      let e = s.counts (same (cl_of x pr)) in
      let g : bit (same (cl_of x pr) (cl_of x pr)) ≡ 1 = rw (same_refl (cl_of x pr)) refl in
      omega arith

  -- ---- insert: a counter row at the next position

  module _ (t : Table) (L : List (List ℕ)) (A i : ℕ) (made : Pair → ℕ) (C : Counters t L A i made) (hi : suc i ≤ length calls)
      (pr : Pair) (ok : PairOk x pr) (nonce : List ℕ) (n : ℕ) (hn : length nonce ≡ 12) (more : made pr < n) (small : n ≤ limit)
      (t' : Table) (added : Added (width_of table_c) t (counter_row suite (cl_of x pr) ((C.pairs pr ok).start + run_of L pr + 1) nonce n) t')
      (L' : List (List ℕ)) (logged : Same L' (cl_of x pr ∷ L))
      (made' : Pair → ℕ) (made-own : made' pr ≡ n) (Made-other : (q : Pair) → (q ≡ pr → ⊥) → made' q ≡ made q) where
    abbrev P : PairCounter t L A i pr (made pr)
    P = C.pairs pr ok

    abbrev pos : ℕ
    pos = (C.pairs pr ok).start + run_of L pr + 1

    abbrev row : Row
    row = counted_row suite (cl_of x pr) (ctag x pr counter ((C.pairs pr ok).start + run_of L pr + 1)) nonce 0 n

    added₀ : Added (width_of table_c) t row t'
    unfolding counter_row
    added₀ = added

    row_tag : take 32 (body row) ≡ ctag x pr counter pos
    row_tag = counted_tag suite (cl_of x pr) (ctag x pr counter pos) nonce 0 n (tag_length suite (cl_of x pr) counter pos)

    pos_low : 0 < pos
    pos_low = omega arith

    pos_high : pos ≤ length calls + 1
    pos_high = let w = (C.pairs pr ok).position_calls in omega arith

    at : lookup (ctag x pr counter pos) t ≡ none
    at = P.counters_none pos (omega arith) pos_high

    own : PairCounter t' L' A (suc i) pr n
    own =
        let r : run_of L' pr ≡ suc (run_of L pr) = run_own L L' pr logged in
        let s = P.anchors_start in
        let c = P.position_calls in
        let pm = P.position_made in
        let found : lookup (ctag x pr counter pos) t' ≡ some (body row) = added_own t pr counter pos row t' ok added₀ row_tag pos_low pos_high at in
        let other = added_number t pr counter pos row t' ok added₀ row_tag pos_low pos_high in
        let e : P.start + run_of L' pr ≡ pos = omega arith in
        record {
          B = P.B;
          start = P.start;
          base = P.base;
          anchors_held = λ b l u. same_holds (ctag x pr anchor b) t' t (other anchor b l (omega arith) (λ k. absurd (counter≢anchor (sym k)))) ∙ P.anchors_held b l u;
          anchors_none = λ b l u. other anchor b (omega arith) u (λ k. absurd (counter≢anchor (sym k))) ∙ P.anchors_none b l u;
          counters_held = λ a l u. held a l u (eqb a pos) refl found other r;
          counters_none = λ a l u. other counter a (omega arith) u (λ k w. omega arith) ∙ P.counters_none a (omega arith) u;
          no_anchor = P.no_anchor;
          last_anchor = λ l. rw (other anchor P.B l (omega arith) (λ k. absurd (counter≢anchor (sym k)))) (P.last_anchor l);
          no_counter = λ w. absurd (omega arith);
          last_counter = λ l. rw (e, found) (numbers_found suite (cl_of x pr) (ctag x pr counter pos) nonce 0 n (tag_length suite (cl_of x pr) counter pos) hn (omega arith) small);
          anchors_start = s;
          position_made = omega arith;
          position_calls = omega arith;
          made_limit = small;
          base_limit = P.base_limit;
          anchors_total = P.anchors_total;
        }
      where
        held : (a : ℕ) → (C.pairs pr ok).start < a → a ≤ (C.pairs pr ok).start + run_of L' pr → (b : Bool) → eqb a pos ≡ b
            → lookup (ctag x pr counter pos) t' ≡ some (body row)
            → ((k : Kind) (a : ℕ) → 0 < a → a ≤ length calls + 1 → (k ≡ counter → a ≡ pos → ⊥) → lookup (ctag x pr k a) t' ≡ lookup (ctag x pr k a) t)
            → run_of L' pr ≡ suc (run_of L pr)
            → holds (ctag x pr counter a) t' ≡ true
        held a l u true e found other r = rw (eqb-true a pos e) (some_holds (ctag x pr counter pos) t' (body row) found)
        held a l u false e found other r =
            let ne : a ≡ pos → ⊥ = eqb-false a pos e in
            let c = (C.pairs pr ok).position_calls in
            let w : a ≤ (C.pairs pr ok).start + run_of L pr = omega (arith, ne) in
            same_holds (ctag x pr counter a) t' t (other counter a (omega arith) (omega arith) (λ k. ne)) ∙ (C.pairs pr ok).counters_held a l w

    pub counters_insert : Counters t' L' A (suc i) made'
    counters_insert = record {
      pairs = by_pair pr (λ q. PairOk x q → PairCounter t' L' A (suc i) q (made' q)) (λ oq. rw made-own own) other;
      log = pr ∷ C.log;
      log_ok = (ok, C.log_ok);
      log_same = record { counts = λ p. logged.counts p ∙ ap (λ (m : ℕ). bit (p (cl_of x pr)) + m) (C.log_same.counts p) };
      total =
          let a = same_length (used t') (body row ∷ used t) (added_same (width_of table_c) t row t' added₀) in
          let b = same_length L' (cl_of x pr ∷ L) logged in
          let c = C.total in
          omega arith;
      once = added_once (width_of table_c) t row t' added₀ (rw row_tag at) C.once;
    }
      where
        other : (q : Pair) → (q ≡ pr → ⊥) → PairOk x q → PairCounter t' L' A (suc i) q (made' q)
        other q ne oq =
            rw (Made-other q ne)
            (unchanged t t' L L' A A i (suc i) q (made q) (added_pair t pr counter pos row t' ok added₀ row_tag pos_low pos_high q oq ne)
            (run_cons L L' pr q ok oq logged ne) (omega arith) (omega arith) (omega arith) (C.pairs q oq))
