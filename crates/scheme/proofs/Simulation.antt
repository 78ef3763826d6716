-- What holds of the store and the ledger after i calls, and that it holds at the start and later.
use Prim.Native.Nat.{ℕ, suc, ◌*◌, ◌≤◌}
use mathlib.Core.Path.{◌≡◌, refl, ap}
use mathlib.Core.Option.{none}
use mathlib.Core.List.{List, [], map}
use native.Mathlib.Omega.{arith}
use lib.ListN.{length, replicate, length-map}
use Rattle.table.specs.Lists.{same, any_of, distinct}
use Rattle.table.specs.Table.{Table, used, lookup, zero_row}
use Rattle.table.proofs.Counting.{Same-refl, same_length}
use Rattle.table.proofs.Rows.{used_zero}
use Rattle.scheme.specs.Keys.{KS}
use Rattle.scheme.specs.Store.{Store, table_m, table_v, table_c, table_s, table_r, width_of, joined, fresh, cl_in}
use Rattle.scheme.specs.Compaction.{log_of}
use Rattle.scheme.specs.Ledger.{Pair, Ledger, H, same_pair, entry_of, listed, empty}
use Rattle.scheme.specs.Premise.{Kind}
use Rattle.scheme.proofs.Setting.{Setting, PairOk, cl_of, ctag}
use Rattle.scheme.proofs.Shape.{Shaped, fresh_store, fresh_shaped, fresh_is}
use Rattle.scheme.proofs.Counters.{PairCounter, Counters, unchanged}
use Rattle.scheme.proofs.Entries.{Item, Entries, item_m, item_v}
use Rattle.scheme.proofs.Marks
use Rattle.scheme.proofs.Marks.{Marks, item_r}

abbrev pub made_in : Ledger → Pair → ℕ
made_in l pr = (entry_of pr l.entries).made

abbrev pub list_in : Ledger → Pair → List (List ℕ)
list_in l pr = (entry_of pr l.entries).ids

module _ (x : Setting) where
  open x use {suite, K, z, calls}

  abbrev pub log_in : Table → List (List ℕ)
  log_in t = log_of suite (KS suite K) t

  pub record Sim (i : ℕ) (store : List ℕ) (l : Ledger) : Type 0 where
    pub st : Store
    pub bytes : store ≡ joined st
    pub shaped : Shaped z st
    pub counters : Counters x (st.table table_c) (log_in (st.table table_s)) l.A i (made_in l)
    pub entries : Entries x (st.table table_m) (st.table table_v) (listed l.entries) (list_in l) (made_in l)
    pub marks : Marks x (st.table table_r) (listed l.entries) l.entries
    pub small : (pr : Pair) → PairOk x pr → made_in l pr ≤ 64 * i
    pub w_is : l.W ≡ length (log_in (st.table table_s))
    pub t_length : length l.T ≡ length (distinct (log_in (st.table table_s)))
    pub t_member : (pr : Pair) → PairOk x pr → any_of (same_pair pr) l.T ≡ any_of (λ y. same y (cl_of x pr)) (log_in (st.table table_s))

  -- how many rows are used in each table
  module _ (i : ℕ) (store : List ℕ) (l : Ledger) (s : Sim i store l) where
    pub used_m : length (used (s.st.table table_m)) ≡ H l
    unfolding H
    used_m =
        let a = same_length (used (s.st.table table_m)) (map (item_m x) s.entries.G) s.entries.rows_m in
        let b = same_length (listed l.entries) (map (λ (g : Item). g.id) s.entries.G) s.entries.listing in
        let c = length-map s.entries.G (item_m x) in
        let d = length-map s.entries.G (λ (g : Item). g.id) in
        omega arith

    pub used_v : length (used (s.st.table table_v)) ≡ H l
    unfolding H
    used_v =
        let a = same_length (used (s.st.table table_v)) (map (item_v x) s.entries.G) s.entries.rows_v in
        let b = same_length (listed l.entries) (map (λ (g : Item). g.id) s.entries.G) s.entries.listing in
        let c = length-map s.entries.G (item_v x) in
        let d = length-map s.entries.G (λ (g : Item). g.id) in
        omega arith

    pub used_r : length (used (s.st.table table_r)) ≡ H l
    unfolding H
    used_r =
        let a = same_length (used (s.st.table table_r)) (map (item_r x) s.marks.G) s.marks.rows_r in
        let b = same_length (listed l.entries) (map (λ (g : Marks.Item). g.id) s.marks.G) s.marks.listing in
        let c = length-map s.marks.G (item_r x) in
        let d = length-map s.marks.G (λ (g : Marks.Item). g.id) in
        omega arith

    pub log_used : length (log_in (s.st.table table_s)) ≡ length (used (s.st.table table_s))
    unfolding log_of
    log_used = length-map (used (s.st.table table_s)) (cl_in suite (KS suite K))

  pub counters_later : (t : Table) (L : List (List ℕ)) (A i : ℕ) (made : Pair → ℕ) → i ≤ length calls → Counters x t L A i made → Counters x t L A (suc i) made
  counters_later t L A i made hi C = record {
    pairs = λ pr ok. unchanged x t t L L A A i (suc i) pr (made pr) (λ h a l u. refl) refl (omega arith) (omega arith) hi (C.pairs pr ok);
    log = C.log;
    log_ok = C.log_ok;
    log_same = C.log_same;
    total = C.total;
    once = C.once;
  }

  pub counters_as : (t : Table) (L : List (List ℕ)) (A i : ℕ) (made made' : Pair → ℕ) → ((q : Pair) → made' q ≡ made q) → Counters x t L A i made → Counters x t L A i made'
  counters_as t L A i made made' e C = record {
    pairs = λ pr ok. rw (e pr) (C.pairs pr ok);
    log = C.log;
    log_ok = C.log_ok;
    log_same = C.log_same;
    total = C.total;
    once = C.once;
  }

  -- a call that changes neither
  pub later : (i : ℕ) (store : List ℕ) (l : Ledger) → i ≤ length calls → Sim i store l → Sim (suc i) store l
  later i store l hi s = record {
    st = s.st;
    bytes = s.bytes;
    shaped = s.shaped;
    counters = counters_later (s.st.table table_c) (log_in (s.st.table table_s)) l.A i (made_in l) hi s.counters;
    entries = s.entries;
    marks = s.marks;
    small = λ pr ok. let w = s.small pr ok in omega arith;
    w_is = s.w_is;
    t_length = s.t_length;
    t_member = s.t_member;
  }

  -- ---- the fresh store

  no_lookup : (tag : List ℕ) (n w : ℕ) → lookup tag (replicate n (zero_row w)) ≡ none
  unfolding lookup
  no_lookup tag n w = rw (used_zero w n) refl

  fresh_pair : (pr : Pair) → PairCounter x (replicate z.c (zero_row (width_of table_c))) [] 0 0 pr 0
  fresh_pair pr = record {
    B = 0;
    start = 0;
    base = 0;
    anchors_held = λ b l u. absurd (omega arith);
    anchors_none = λ b l u. no_lookup (ctag x pr Kind.anchor b) z.c (width_of table_c);
    counters_held = λ a l u. absurd (omega arith);
    counters_none = λ a l u. no_lookup (ctag x pr Kind.counter a) z.c (width_of table_c);
    no_anchor = λ e. (refl, refl);
    last_anchor = λ l. absurd (omega arith);
    no_counter = λ e. refl;
    last_counter = λ l. absurd (omega arith);
    anchors_start = omega arith;
    position_made = omega arith;
    position_calls = omega arith;
    made_limit = omega arith;
    base_limit = omega arith;
    anchors_total = omega arith;
  }

  fresh_log : log_in (replicate z.s (zero_row (width_of table_s))) ≡ []
  unfolding log_of
  fresh_log = rw (used_zero (width_of table_s) z.s) refl

  pub begin : Sim 0 (fresh z) empty
  unfolding empty fresh_store
  begin = record {
    st = fresh_store z;
    bytes = fresh_is z;
    shaped = fresh_shaped z;
    counters = rw fresh_log (record {
      pairs = λ pr ok. fresh_pair pr;
      log = [];
      log_ok = tt;
      log_same = Same-refl [];
      total = ap length (used_zero (width_of table_c) z.c);
      once = λ tag. rw (used_zero (width_of table_c) z.c) (omega arith);
    });
    entries = record {
      G = [];
      good = tt;
      rows_m = rw (used_zero (width_of table_m) z.m) (Same-refl []);
      rows_v = rw (used_zero (width_of table_v) z.m) (Same-refl []);
      once = λ pr a ok. omega arith;
      below = λ pr a ok l. refl;
      listing = Same-refl [];
      gathers = λ pr ok. refl;
    };
    marks = record { G = []; good = tt; rows_r = rw (used_zero (width_of table_r) z.r) (Same-refl []); listing = Same-refl []; held = λ id f. refl };
    small = λ pr ok. omega arith;
    w_is = rw fresh_log refl;
    t_length = rw fresh_log refl;
    t_member = λ pr ok. rw fresh_log refl;
  }
