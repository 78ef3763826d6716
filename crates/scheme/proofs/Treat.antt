-- One CL of a compaction: the rows held as its counters are freed, its next anchor is written, its log rows are gone. A lemma of
-- its own, over the rows of C and the log.
use Prim.Native.Nat.{ℕ, zero, suc, ◌+◌, ◌≤◌, ◌<◌}
use mathlib.Core.Path.{◌≡◌, refl, sym, ap, ◌∙◌}
use mathlib.Core.Bool.{Bool, true, false, not, ◌&&◌, and-false, not-and_self}
use mathlib.Core.Logic.{◌≢◌}
use mathlib.Core.Option.{none, some}
use mathlib.Core.List.{List, [], ◌∷◌, map}
use native.Mathlib.Omega.{arith}
use lib.Dec.{eqb}
use lib.ListN.{length, get_or, take, set}
use borrow.Author.Tests.{eqb-true, eqb-false}
use Rattle.table.specs.Lists.{same, select, count}
use Rattle.table.specs.Table.{Row, Table, used, body, has_tag, lookup, holds, place_of, zero_row, free_rows, free_at}
use Rattle.table.proofs.Counting.{same_true, ne_same, same_sym, count-select, count_split, count_ext, count_none, all_select, select-map, Same-select, same_length}
use Rattle.table.proofs.Distinct.{without}
use Rattle.table.proofs.Arranging.{Added, added_same}
use Rattle.table.proofs.Rows.{free_used, free_at-length, free_at-count, free_at-none, Held, place_held, free_one_length, free_one_other, held_other}
use Rattle.scheme.specs.Store.{table_c, width_of, counted_row}
use Rattle.scheme.specs.Compaction.{held_places}
use Rattle.scheme.specs.Ledger.{Pair}
use Rattle.scheme.specs.Premise.{Kind, counter, anchor}
use Rattle.scheme.proofs.Setting.{Setting, PairOk, cl_of, ctag, ctags, cl_differ, tag_length, counted_tag, numbers_found, counter≢anchor, by_pair}
use Rattle.scheme.proofs.Counters.{run_of, PairCounter, Counters, unchanged, added_pair, added_number, added_own, added_once, some_holds, same_holds}

module _ (x : Setting) (pr : Pair) (ok : PairOk x pr) (t : Table) where
  open x use {suite, K, z, calls, premise}

  -- the rows held as counters start + 1 to start + k, freed from a table that still holds them
  pub record Freed (start k : ℕ) (cur : Table) : Type 0 where
    pub fewer : length (used cur) ≡ k + length (used (free_at (width_of table_c) (held_places suite (cl_of x pr) t start k) cur))
    pub others : (tag : List ℕ) → ((a : ℕ) → start < a → a ≤ start + k → ctag x pr counter a ≡ tag → ⊥)
        → lookup tag (free_at (width_of table_c) (held_places suite (cl_of x pr) t start k) cur) ≡ lookup tag cur

  pub freed : (start k : ℕ) (cur : Table) → start + k ≤ length calls + 1
      → ((a : ℕ) → start < a → a ≤ start + k → Held (ctag x pr counter a) cur (place_of (ctag x pr counter a) t))
      → Freed start k cur
  freed start zero cur hk held = record { fewer = omega arith; others = λ tag ne. refl }
  freed start (suc k) cur hk held =
      let now : Held (ctag x pr counter (suc start)) cur (place_of (ctag x pr counter (suc start)) t) = held (suc start) (omega arith) (omega arith) in
      let rest = freed (suc start) k (set cur (place_of (ctag x pr counter (suc start)) t) (zero_row (width_of table_c))) (omega arith)
      (λ a l u.
      let h : Held (ctag x pr counter a) cur (place_of (ctag x pr counter a) t) = held a (omega arith) (omega arith) in
      held_other (ctag x pr counter a) (width_of table_c) cur (place_of (ctag x pr counter (suc start)) t) (place_of (ctag x pr counter a) t) (apart a l u h now) h) in
      record {
        fewer =
            let e = free_one_length (ctag x pr counter (suc start)) (width_of table_c) cur (place_of (ctag x pr counter (suc start)) t) now in
            let f = rest.fewer in
            omega arith;
        others = λ tag ne.
            rest.others tag (λ a l u. ne a (omega arith) (omega arith))
            ∙ free_one_other tag (width_of table_c) cur (place_of (ctag x pr counter (suc start)) t) (not-tag tag now (ne (suc start) (omega arith) (omega arith)));
      }
    where
      apart : (a : ℕ) → suc start < a → a ≤ suc start + k → Held (ctag x pr counter a) cur (place_of (ctag x pr counter a) t)
          → Held (ctag x pr counter (suc start)) cur (place_of (ctag x pr counter (suc start)) t)
          → place_of (ctag x pr counter a) t ≢ place_of (ctag x pr counter (suc start)) t
      apart a l u h g e =
          let p : take 32 (body (get_or cur (place_of (ctag x pr counter a) t) [])) ≡ ctag x pr counter a = same_true _ _ h.tagged in
          let q : take 32 (body (get_or cur (place_of (ctag x pr counter (suc start)) t) [])) ≡ ctag x pr counter (suc start) = same_true _ _ g.tagged in
          let r : ctag x pr counter a ≡ ctag x pr counter (suc start) = sym p ∙ ap (λ (i : ℕ). take 32 (body (get_or cur i []))) e ∙ q in
          let w = (ctags x pr pr counter counter a (suc start) ok ok (omega arith) (omega arith) (omega arith) (omega arith) r).number in
          omega arith

      not-tag : (tag : List ℕ) → Held (ctag x pr counter (suc start)) cur (place_of (ctag x pr counter (suc start)) t) → (ctag x pr counter (suc start) ≡ tag → ⊥)
          → has_tag tag (body (get_or cur (place_of (ctag x pr counter (suc start)) t) [])) ≡ false
      not-tag tag h ne =
          let q : take 32 (body (get_or cur (place_of (ctag x pr counter (suc start)) t) [])) ≡ ctag x pr counter (suc start) = same_true _ _ h.tagged in
          ne_same _ tag (λ e. ne (sym q ∙ e))

-- ---- the log without a pair

module _ (x : Setting) where
  open x use {suite, K, z, calls, premise}

  run_without : (L : List (List ℕ)) (pr q : Pair) → PairOk x pr → PairOk x q → (q ≡ pr → ⊥) → run_of x (without (cl_of x pr) L) q ≡ run_of x L q
  run_without L pr q ok oq ne =
      count-select (λ y. not (same y (cl_of x pr))) (same (cl_of x q)) L
      ∙ count_ext (λ y. not (same y (cl_of x pr)) && same (cl_of x q) y) (same (cl_of x q)) (λ y. go y (same (cl_of x q) y) refl) L
    where
      go : (y : List ℕ) (b : Bool) → same (cl_of x q) y ≡ b → (not (same y (cl_of x pr)) && b) ≡ b
      go y true e =
          let f : same y (cl_of x pr) ≡ false = ne_same y (cl_of x pr) (λ w. ne (cl_differ x q pr oq ok (same_true (cl_of x q) y e ∙ w))) in
          rw f refl
      go y false e = and-false (not (same y (cl_of x pr)))

  run_gone : (L : List (List ℕ)) (pr : Pair) → run_of x (without (cl_of x pr) L) pr ≡ 0
  run_gone L pr =
      count-select (λ y. not (same y (cl_of x pr))) (same (cl_of x pr)) L
      ∙ count_none (λ y. not (same y (cl_of x pr)) && same (cl_of x pr) y) (λ y. rw (same_sym (cl_of x pr) y) (not-and_self (same y (cl_of x pr)))) L

  pub without-length : (L : List (List ℕ)) (pr : Pair) → length L ≡ run_of x L pr + length (without (cl_of x pr) L)
  without-length L pr =
      let e = count_split (λ y. same y (cl_of x pr)) L in
      let f = count_ext (λ y. same y (cl_of x pr)) (same (cl_of x pr)) (λ y. same_sym y (cl_of x pr)) L in
      omega arith

  -- ---- the treatment

  module _ (t : Table) (L : List (List ℕ)) (A i : ℕ) (made : Pair → ℕ) (C : Counters x t L A i made) (hi : i ≤ length calls)
      (pr : Pair) (ok : PairOk x pr) (some-run : 0 < run_of x L pr) where
    free : Freed x pr ok t (C.pairs pr ok).start (run_of x L pr) t
    free =
        let c = (C.pairs pr ok).position_calls in
        freed x pr ok t (C.pairs pr ok).start (run_of x L pr) t (omega arith)
        (λ a l u. place_held (ctag x pr counter a) t ((C.pairs pr ok).counters_held a l u))

    -- the freed rows leave room for the anchor
    pub anchor_room : 1 ≤ free_rows (free_at (width_of table_c) (held_places suite (cl_of x pr) t (C.pairs pr ok).start (run_of x L pr)) t)
    anchor_room =
        let is = held_places suite (cl_of x pr) t (C.pairs pr ok).start (run_of x L pr) in
        omega (arith, free.fewer, free_used t, free_used (free_at (width_of table_c) is t), free_at-length (width_of table_c) is t)

  module _ (t : Table) (L : List (List ℕ)) (A i : ℕ) (made : Pair → ℕ) (C : Counters x t L A i made) (hi : i ≤ length calls)
      (pr : Pair) (ok : PairOk x pr) (some-run : 0 < run_of x L pr) (nonce : List ℕ) (hn : length nonce ≡ 12) (t' : Table)
      (added : Added (width_of table_c) (free_at (width_of table_c) (held_places suite (cl_of x pr) t (C.pairs pr ok).start (run_of x L pr)) t)
      (counted_row suite (cl_of x pr) (ctag x pr anchor ((C.pairs pr ok).B + 1)) nonce ((C.pairs pr ok).start + run_of x L pr) (made pr)) t') where
    abbrev P : PairCounter x t L A i pr (made pr)
    P = C.pairs pr ok

    abbrev t₁ : Table
    t₁ = free_at (width_of table_c) (held_places suite (cl_of x pr) t P.start (run_of x L pr)) t

    abbrev row : Row
    row = counted_row suite (cl_of x pr) (ctag x pr anchor (P.B + 1)) nonce (P.start + run_of x L pr) (made pr)

    abbrev others : (tag : List ℕ) → ((a : ℕ) → P.start < a → a ≤ P.start + run_of x L pr → ctag x pr counter a ≡ tag → ⊥) → lookup tag t₁ ≡ lookup tag t
    others = (free t L A i made C hi pr ok some-run).others

    row_tag : take 32 (body row) ≡ ctag x pr anchor (P.B + 1)
    row_tag = counted_tag suite (cl_of x pr) (ctag x pr anchor (P.B + 1)) nonce (P.start + run_of x L pr) (made pr) (tag_length suite (cl_of x pr) anchor (P.B + 1))

    low : 0 < P.B + 1
    low = omega arith

    high : P.B + 1 ≤ length calls + 1
    high = let c = P.position_calls in let s = P.anchors_start in omega arith

    at : lookup (ctag x pr anchor (P.B + 1)) t₁ ≡ none
    at = free_at-none (ctag x pr anchor (P.B + 1)) (width_of table_c) (held_places suite (cl_of x pr) t P.start (run_of x L pr)) t (P.anchors_none (P.B + 1) (omega arith) high)

    own : PairCounter x t' (without (cl_of x pr) L) (A + 1) i pr (made pr)
    own =
        let r : run_of x (without (cl_of x pr) L) pr ≡ 0 = run_gone L pr in
        let s = P.anchors_start in
        let c = P.position_calls in
        let m = P.position_made in
        let ml = P.made_limit in
        let found : lookup (ctag x pr anchor (P.B + 1)) t' ≡ some (body row) = added_own x t₁ pr anchor (P.B + 1) row t' ok added row_tag low high at in
        let other = added_number x t₁ pr anchor (P.B + 1) row t' ok added row_tag low high in
        record {
          B = P.B + 1;
          start = P.start + run_of x L pr;
          base = made pr;
          anchors_held = λ b l u. held b l u (eqb b (P.B + 1)) refl found other;
          anchors_none = λ b l u.
              other anchor b (omega arith) u (λ k w. omega arith)
              ∙ free_at-none (ctag x pr anchor b) (width_of table_c) (held_places suite (cl_of x pr) t P.start (run_of x L pr)) t (P.anchors_none b (omega arith) u);
          counters_held = λ a l u. absurd (omega arith);
          counters_none = λ a l u.
              other counter a (omega arith) u (λ k. absurd (counter≢anchor k))
              ∙ free_at-none (ctag x pr counter a) (width_of table_c) (held_places suite (cl_of x pr) t P.start (run_of x L pr)) t (P.counters_none a (omega arith) u);
          no_anchor = λ e. absurd (omega arith);
          last_anchor = λ l. rw found (numbers_found suite (cl_of x pr) (ctag x pr anchor (P.B + 1)) nonce (P.start + run_of x L pr) (made pr) (tag_length suite (cl_of x pr) anchor (P.B + 1)) hn (omega arith) ml);
          no_counter = λ e. refl;
          last_counter = λ l. absurd (omega arith);
          anchors_start = omega arith;
          position_made = omega arith;
          position_calls = omega arith;
          made_limit = ml;
          base_limit = ml;
          anchors_total = let w = P.anchors_total in omega arith;
        }
      where
        held : (b : ℕ) → 0 < b → b ≤ (C.pairs pr ok).B + 1 → (d : Bool) → eqb b ((C.pairs pr ok).B + 1) ≡ d
            → lookup (ctag x pr anchor ((C.pairs pr ok).B + 1)) t' ≡ some (body row)
            → ((k : Kind) (a : ℕ) → 0 < a → a ≤ length calls + 1 → (k ≡ anchor → a ≡ (C.pairs pr ok).B + 1 → ⊥) → lookup (ctag x pr k a) t' ≡ lookup (ctag x pr k a) t₁)
            → holds (ctag x pr anchor b) t' ≡ true
        held b l u true e found other = rw (eqb-true b ((C.pairs pr ok).B + 1) e) (some_holds (ctag x pr anchor ((C.pairs pr ok).B + 1)) t' (body row) found)
        held b l u false e found other =
            let ne : b ≡ (C.pairs pr ok).B + 1 → ⊥ = eqb-false b ((C.pairs pr ok).B + 1) e in
            let w : b ≤ (C.pairs pr ok).B = omega (arith, ne) in
            let c = (C.pairs pr ok).position_calls in
            let s = (C.pairs pr ok).anchors_start in
            same_holds (ctag x pr anchor b) t' t
            (other anchor b l (omega arith) (λ k. ne)
            ∙ others (ctag x pr anchor b) (λ a la ua q. counter≢anchor (ctags x pr pr counter anchor a b ok ok (omega arith) (omega arith) l (omega arith) q).kind))
            ∙ (C.pairs pr ok).anchors_held b l w

    pub counters_treat : Counters x t' (without (cl_of x pr) L) (A + 1) i made
    counters_treat = record {
      pairs = by_pair pr (λ q. PairOk x q → PairCounter x t' (without (cl_of x pr) L) (A + 1) i q (made q)) (λ oq. own) other;
      log = select (λ q. not (same (cl_of x q) (cl_of x pr))) C.log;
      log_ok = all_select (PairOk x) (λ q. not (same (cl_of x q) (cl_of x pr))) C.log C.log_ok;
      log_same = record {
        counts = λ p.
            (Same-select (λ y. not (same y (cl_of x pr))) L (map (cl_of x) C.log) C.log_same).counts p
            ∙ ap (count p) (select-map (cl_of x) (λ y. not (same y (cl_of x pr))) C.log);
      };
      total =
          let a = same_length (used t') (body row ∷ used t₁) (added_same (width_of table_c) t₁ row t' added) in
          let b = without-length L pr in
          let c = C.total in
          let f = (free t L A i made C hi pr ok some-run).fewer in
          omega arith;
      once =
          added_once (width_of table_c) t₁ row t' added (rw row_tag at)
          (λ tag. let a = free_at-count (has_tag tag) (width_of table_c) (held_places suite (cl_of x pr) t P.start (run_of x L pr)) t in let b = C.once tag in omega arith);
    }
      where
        other : (q : Pair) → (q ≡ pr → ⊥) → PairOk x q → PairCounter x t' (without (cl_of x pr) L) (A + 1) i q (made q)
        other q ne oq =
            let c = (C.pairs pr ok).position_calls in
            unchanged x t t' L (without (cl_of x pr) L) A (A + 1) i i q (made q)
            (λ h a l u.
            added_pair x t₁ pr anchor (P.B + 1) row t' ok added row_tag low high q oq ne h a l u
            ∙ others (ctag x q h a) (λ b lb ub w. ne (sym (ctags x pr q counter h b a ok oq (omega arith) (omega arith) l u w).pair)))
            (run_without L pr q ok oq ne) (omega arith) (omega arith) (omega arith) (C.pairs q oq)
