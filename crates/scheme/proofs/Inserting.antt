-- Insert tells what the ledger tells, and the store after it is the ledger's after it.
use Prim.Native.Nat.{ℕ, suc, ◌+◌, ◌*◌, ◌%◌, ◌≤◌}
use mathlib.Core.Path.{◌≡◌, refl, sym, ap, subst, ◌∙◌}
use mathlib.Core.Bool.{Bool, true, false, not, ◌||◌, or_self}
use mathlib.Core.Logic.{◌⊎◌}
use mathlib.Core.Option.{Option, none, some}
use mathlib.Core.List.{List, [], ◌∷◌, ◌++◌, map, Memᴰ}
use native.Mathlib.Omega.{arith}
use lib.Dec.{eqb, ltb}
use lib.ListN.{length, take, drop, length-drop, length-append}
use lib.Seq.{length-take-le}
use borrow.Author.Tests.{eqb-true, not-false, ltb-false}
use Rattle.answer.specs.Answer.{Answer, done}
use Rattle.table.specs.Lists.{bit, same, any_of, flat, All, Same}
use Rattle.table.specs.Table.{Row, Table, used, body, is_free, free_rows}
use Rattle.table.specs.Order.{with_rows}
use Rattle.table.proofs.Counting.{neither, same_refl, same_length, ne_same, Same-map}
use Rattle.table.proofs.Rows.{rows-length, rows_wide}
use Rattle.table.proofs.Arranging.{Added, AddedAll, added_same}
use Rattle.table.proofs.Distinct.{any_same, distinct_same, distinct_more}
use Rattle.scheme.specs.Suite.{Suite, number8}
use Rattle.scheme.specs.Labels.{Field, field_lengths_bad}
use Rattle.scheme.specs.Keys.{KS, insert_token, insert_token_length}
use Rattle.scheme.specs.Store.{Store, Sizes, table_m, table_v, table_c, table_s, table_r, width_of, joined, put_in, state_tests, cut, entry_tag, entry_row, reverse_row, counter_row, log_row, label_row, r_mark, cl_in}
use Rattle.scheme.specs.Reading.{Reading, damaged, count_of, position_of, limit}
use Rattle.scheme.specs.Refusals.{Result, id_count, ids_in, insert_token_tests, insert_input_tests, token_tests, length_not}
use Rattle.answer.specs.Verdict.{Test, ◌⇒◌, verdict}
use Rattle.scheme.specs.Insert
use Rattle.scheme.specs.Insert.{entry_rows, reverse_rows, label_rows, counter_nonce, label_nonces, new_entries, new_reverses, new_counter, new_log, new_labels, inserted_store, insert_reading, new_count, insert_state_tests, insert_verdict}
use Rattle.scheme.specs.Compaction.{log_of}
use Rattle.scheme.specs.Call.{Call}
use Rattle.scheme.specs.Ledger.{Pair, same_pair, Entry, Ledger, listed, H, with_pair, ledger_insert_verdict, appended, after_insert, ledger_step}
use Rattle.scheme.specs.Premise.{counter, Labelling, labellings}
use Rattle.scheme.specs.Run.{made_or, insert_call, told_by}
use Rattle.scheme.specs.Claim.{bounds_of}
use Rattle.scheme.proofs.Setting.{Setting, PairOk, cl_of, ctag, tag_length, counted_used, counted_length, counted_mark, cl_differ, by_pair}
use Rattle.scheme.proofs.Shape.{Shaped, RowOk, shaped_put, added_ok, added_all_ok, free_is}
use Rattle.scheme.proofs.Counters.{run_of, PairCounter, Counters, counters_insert}
use Rattle.scheme.proofs.Entries.{Entries, mt_of, me_of, entries_insert_all}
use Rattle.scheme.proofs.Marks.{Marks, Brought, rl_of, marks_insert}
use Rattle.scheme.proofs.LedgerLaws.{entry_own, entry_other, listed_more, with_length, with_own, with_other}
use Rattle.scheme.proofs.Simulation.{made_in, list_in, log_in, Sim, used_m, used_v, used_r, log_used, later}
use Rattle.scheme.proofs.Verdicts.{or_else, both_none, verdict-append, passed, key_is, length_passed, length_refused, shift}
use Rattle.scheme.proofs.Queries.{After, cut_is, sizes_are, states_pass, read_is}
use Rattle.scheme.proofs.Tokens

-- where nothing refuses the token
pub record TokenMade (K key : List ℕ) (f : Field) (p u : ℕ) (nonce : List ℕ) : Type 0 where
  pub key_is : key ≡ K
  pub valid : field_lengths_bad f ≡ false
  pub shared : u ≤ p
  pub nonce_length : length nonce ≡ 12

token_made : (K key : List ℕ) (f : Field) (p u : ℕ) (nonce : List ℕ) → (key ≡ K) ⊎ (length key ≡ 32 → ⊥) → verdict (insert_token_tests key f p u nonce) ≡ none → TokenMade K key f p u nonce
unfolding insert_token_tests
token_made K key f p u nonce k e =
    let a = passed (length_not 32 key) _ _ e in
    let b = passed (field_lengths_bad f) _ _ a.1 in
    let c = passed (ltb 15 p || ltb p u) _ _ b.1 in
    let d = passed (length_not 12 nonce) _ _ c.1 in
    let n = neither (ltb 15 p) (ltb p u) c.0 in
    record { key_is = key_is K key k a.0; valid = b.0; shared = ltb-false p u n.1; nonce_length = length_passed 12 nonce d.0 }

-- where nothing refuses the ids and nonces
pub record InputGood (ids nonces : List ℕ) : Type 0 where
  pub nonces_length : length nonces ≡ 12 * (2 * id_count ids + 1)
  pub whole : 16 * id_count ids ≤ length ids
  pub least : 1 ≤ id_count ids
  pub most : id_count ids ≤ 64

input_good : (ids nonces : List ℕ) → verdict (insert_input_tests ids nonces) ≡ none → InputGood ids nonces
unfolding insert_input_tests
input_good ids nonces e =
    let a = passed (length_not (12 * (2 * id_count ids + 1)) nonces) _ _ e in
    let b = passed (not (eqb (length ids % 16) 0) || (ltb (id_count ids) 1 || ltb 64 (id_count ids))) _ _ a.1 in
    let c = neither (not (eqb (length ids % 16) 0)) (ltb (id_count ids) 1 || ltb 64 (id_count ids)) b.0 in
    let d = neither (ltb (id_count ids) 1) (ltb 64 (id_count ids)) c.1 in
    let m = ltb-false (id_count ids) 1 d.0 in
    let n = ltb-false 64 (id_count ids) d.1 in
    record { nonces_length = length_passed (12 * (2 * id_count ids + 1)) nonces a.0; whole = omega arith; least = m; most = n }

-- the new rows have their widths and marks
entry_row_ok : (suite : Suite) (mt me : List ℕ) (a : ℕ) (nonce id : List ℕ) → length nonce ≡ 12 → length id ≡ 16 → RowOk table_m (entry_row suite mt me a nonce id)
unfolding entry_row entry_tag
entry_row_ok suite mt me a nonce id hn hi = record {
  width =
      let e = suite.e_length me nonce id in
      let f = suite.f_length mt (number8 a) in
      let g = length-append nonce (suite.E me nonce id) in
      let h = length-append (suite.F mt (number8 a)) (nonce ++ suite.E me nonce id) in
      omega arith;
  mark = refl;
}

entry_rows_ok : (suite : Suite) (mt me : List ℕ) (g : ℕ) (l : List (List ℕ)) (nonces : List ℕ) → All (λ r. length r ≡ 16) l → 12 * length l ≤ length nonces → All (RowOk table_m) (entry_rows suite mt me g l nonces)
entry_rows_ok suite mt me g [] nonces a h = tt
entry_rows_ok suite mt me g (id ∷ l) nonces a h =
    let d = length-drop 12 nonces in
    (entry_row_ok suite mt me (suc g) (take 12 nonces) id (length-take-le 12 nonces (omega arith)) a.0, entry_rows_ok suite mt me (suc g) l (drop 12 nonces) a.1 (omega arith))

reverse_row_ok : (suite : Suite) (mt : List ℕ) (a : ℕ) (id : List ℕ) → length id ≡ 16 → RowOk table_v (reverse_row suite mt a id)
unfolding reverse_row entry_tag
reverse_row_ok suite mt a id hi = record {
  width =
      let f = suite.f_length mt (number8 a) in
      let h = length-append id (suite.F mt (number8 a)) in
      omega arith;
  mark = refl;
}

reverse_rows_ok : (suite : Suite) (mt : List ℕ) (g : ℕ) (l : List (List ℕ)) → All (λ r. length r ≡ 16) l → All (RowOk table_v) (reverse_rows suite mt g l)
reverse_rows_ok suite mt g [] a = tt
reverse_rows_ok suite mt g (id ∷ l) a = (reverse_row_ok suite mt (suc g) id a.0, reverse_rows_ok suite mt (suc g) l a.1)

label_row_ok : (suite : Suite) (rl nonce id : List ℕ) → length nonce ≡ 12 → length id ≡ 16 → RowOk table_r (label_row suite rl nonce id)
unfolding label_row r_mark
label_row_ok suite rl nonce id hn hi = record {
  width =
      let f = suite.f_length rl (nonce ++ id) in
      let g = length-append nonce (suite.F rl (nonce ++ id)) in
      let h = length-append id (nonce ++ suite.F rl (nonce ++ id)) in
      omega arith;
  mark = refl;
}

label_rows_ok : (suite : Suite) (rl : List ℕ) (l : List (List ℕ)) (nonces : List ℕ) → All (λ r. length r ≡ 16) l → 12 * length l ≤ length nonces → All (RowOk table_r) (label_rows suite rl l nonces)
label_rows_ok suite rl [] nonces a h = tt
label_rows_ok suite rl (id ∷ l) nonces a h =
    let d = length-drop 12 nonces in
    (label_row_ok suite rl (take 12 nonces) id (length-take-le 12 nonces (omega arith)) a.0, label_rows_ok suite rl l (drop 12 nonces) a.1 (omega arith))

-- they are used rows, one for each id
entry_busy : (suite : Suite) (mt me : List ℕ) (a : ℕ) (nonce id : List ℕ) → is_free (entry_row suite mt me a nonce id) ≡ false
unfolding entry_row
entry_busy suite mt me a nonce id = refl

entries_busy : (suite : Suite) (mt me : List ℕ) (g : ℕ) (l : List (List ℕ)) (nonces : List ℕ) → All (λ r. is_free r ≡ false) (entry_rows suite mt me g l nonces)
entries_busy suite mt me g [] nonces = tt
entries_busy suite mt me g (id ∷ l) nonces = (entry_busy suite mt me (suc g) (take 12 nonces) id, entries_busy suite mt me (suc g) l (drop 12 nonces))

entries_number : (suite : Suite) (mt me : List ℕ) (g : ℕ) (l : List (List ℕ)) (nonces : List ℕ) → length (entry_rows suite mt me g l nonces) ≡ length l
entries_number suite mt me g [] nonces = refl
entries_number suite mt me g (id ∷ l) nonces = ap suc (entries_number suite mt me (suc g) l (drop 12 nonces))

reverse_busy : (suite : Suite) (mt : List ℕ) (a : ℕ) (id : List ℕ) → is_free (reverse_row suite mt a id) ≡ false
unfolding reverse_row
reverse_busy suite mt a id = refl

reverses_busy : (suite : Suite) (mt : List ℕ) (g : ℕ) (l : List (List ℕ)) → All (λ r. is_free r ≡ false) (reverse_rows suite mt g l)
reverses_busy suite mt g [] = tt
reverses_busy suite mt g (id ∷ l) = (reverse_busy suite mt (suc g) id, reverses_busy suite mt (suc g) l)

reverses_number : (suite : Suite) (mt : List ℕ) (g : ℕ) (l : List (List ℕ)) → length (reverse_rows suite mt g l) ≡ length l
reverses_number suite mt g [] = refl
reverses_number suite mt g (id ∷ l) = ap suc (reverses_number suite mt (suc g) l)

label_busy : (suite : Suite) (rl nonce id : List ℕ) → is_free (label_row suite rl nonce id) ≡ false
unfolding label_row
label_busy suite rl nonce id = refl

labels_busy : (suite : Suite) (rl : List ℕ) (l : List (List ℕ)) (nonces : List ℕ) → All (λ r. is_free r ≡ false) (label_rows suite rl l nonces)
labels_busy suite rl [] nonces = tt
labels_busy suite rl (id ∷ l) nonces = (label_busy suite rl (take 12 nonces) id, labels_busy suite rl l (drop 12 nonces))

labels_number : (suite : Suite) (rl : List ℕ) (l : List (List ℕ)) (nonces : List ℕ) → length (label_rows suite rl l nonces) ≡ length l
labels_number suite rl [] nonces = refl
labels_number suite rl (id ∷ l) nonces = ap suc (labels_number suite rl l (drop 12 nonces))

-- the ledger's conditions 12 to 17 and 21
abbrev ledger_tests : Sizes → Ledger → Field → ℕ → ℕ → List ℕ → List Test
ledger_tests z l f p u ids =
    (not (eqb p z.p) ⇒ 12)
    ∷ (ltb 4294967295 (made_in l (record { field = f; u = u }) + id_count ids) ⇒ 14)
    ∷ (ltb z.m (H l + id_count ids) ⇒ 15)
    ∷ (ltb z.c (l.A + l.W + 1) ⇒ 16)
    ∷ (ltb z.s (l.W + 1) ⇒ 17)
    ∷ (ltb z.r (H l + id_count ids) ⇒ 21)
    ∷ []

module _ (x : Setting) (i : ℕ) (before : List ℕ) (l : Ledger) (hi : suc i ≤ length x.calls) (s : Sim x i before l)
    (f : Field) (p u : ℕ) (nonce ids nonces : List ℕ) (valid : field_lengths_bad f ≡ false) (shared : u ≤ p) (nonce-length : length nonce ≡ 12)
    (named : Memᴰ f (flat (map Rattle.scheme.specs.Premise.fields_of x.calls)))
    (brought : (y : Labelling) → Memᴰ y (labellings (ids_in ids) (label_nonces ids nonces)) → Brought x y) where
  open x use {suite, K, z, calls}

  abbrev pr : Pair
  pr = record { field = f; u = u }

  abbrev token : List ℕ
  token = insert_token suite K f p u nonce

  abbrev j : ℕ
  j = id_count ids

  abbrev hi₀ : i ≤ length calls
  hi₀ = omega arith

  abbrev L : List (List ℕ)
  L = log_in x (s.st.table table_s)

  room_entries : (ltb (free_rows ((cut before).table table_m)) j || ltb (free_rows ((cut before).table table_v)) j) ≡ ltb z.m (H l + j)
  room_entries =
      let a = free_is table_m z.m (s.st.table table_m) (s.shaped.tables table_m) in
      let b = free_is table_v z.m (s.st.table table_v) (s.shaped.tables table_v) in
      let c = used_m x i before l s in
      let d = used_v x i before l s in
      rw (cut_is x i before l hi₀ s, shift (free_rows (s.st.table table_m)) (H l) z.m j (omega arith), shift (free_rows (s.st.table table_v)) (H l) z.m j (omega arith))
      (or_self (ltb z.m (H l + j)))

  room_counter : ltb (free_rows ((cut before).table table_c)) 1 ≡ ltb z.c (l.A + l.W + 1)
  room_counter =
      let a = free_is table_c z.c (s.st.table table_c) (s.shaped.tables table_c) in
      let b = s.counters.total in
      let w = s.w_is in
      rw (cut_is x i before l hi₀ s) (shift (free_rows (s.st.table table_c)) (l.A + l.W) z.c 1 (omega arith))

  room_log : ltb (free_rows ((cut before).table table_s)) 1 ≡ ltb z.s (l.W + 1)
  room_log =
      let a = free_is table_s z.s (s.st.table table_s) (s.shaped.tables table_s) in
      let b = log_used x i before l s in
      let w = s.w_is in
      rw (cut_is x i before l hi₀ s) (shift (free_rows (s.st.table table_s)) l.W z.s 1 (omega arith))

  room_labels : ltb (free_rows ((cut before).table table_r)) j ≡ ltb z.r (H l + j)
  room_labels =
      let a = free_is table_r z.r (s.st.table table_r) (s.shaped.tables table_r) in
      let b = used_r x i before l s in
      rw (cut_is x i before l hi₀ s) (shift (free_rows (s.st.table table_r)) (H l) z.r j (omega arith))

  -- where the token's p is the store's
  module _ (p_is : p ≡ z.p) where
    ok : PairOk x pr
    ok = record { named = named; valid = valid; shared = omega arith }

    abbrev P : PairCounter x (s.st.table table_c) L l.A i pr (made_in l pr)
    P = s.counters.pairs pr ok

    read : insert_reading suite before token ≡ Reading.counter P.B P.start (run_of x L pr) (made_in l pr)
    unfolding insert_reading
    read = rw (Tokens.token-CL suite K f p u nonce) (read_is x i before l hi₀ s pr ok)

    new_is : new_count suite before ids token ≡ made_in l pr + j
    unfolding new_count
    new_is = rw read refl

  states : verdict (insert_state_tests suite before ids nonces token) ≡ verdict (ledger_tests z l f p u ids)
  unfolding insert_state_tests
  states =
      rw (Tokens.token_p_lem suite K f p u nonce, sizes_are x i before l hi₀ s, room_entries, room_counter, room_log, room_labels)
      (go (eqb p z.p) refl)
    where
      go : (b : Bool) → eqb p z.p ≡ b
          → verdict ((not b ⇒ 12) ∷ (damaged (insert_reading suite before token) ⇒ 13) ∷ (ltb limit (new_count suite before ids token) ⇒ 14) ∷ (ltb z.m (H l + j) ⇒ 15) ∷ (ltb z.c (l.A + l.W + 1) ⇒ 16) ∷ (ltb z.s (l.W + 1) ⇒ 17) ∷ (ltb z.r (H l + j) ⇒ 21) ∷ [])
          ≡ verdict ((not b ⇒ 12) ∷ (ltb 4294967295 (made_in l pr + j) ⇒ 14) ∷ (ltb z.m (H l + j) ⇒ 15) ∷ (ltb z.c (l.A + l.W + 1) ⇒ 16) ∷ (ltb z.s (l.W + 1) ⇒ 17) ∷ (ltb z.r (H l + j) ⇒ 21) ∷ [])
      go true e =
          let q = eqb-true p z.p e in
          rw (read q, new_is q) refl
      go false e = refl

  insert_verdict_lem : insert_verdict suite before ids nonces token ≡ or_else (verdict (insert_input_tests ids nonces)) (verdict (ledger_tests z l f p u ids))
  unfolding insert_verdict token_tests
  insert_verdict_lem =
      verdict-append (insert_input_tests ids nonces) (token_tests insert_token_length token ++ (state_tests before ++ insert_state_tests suite before ids nonces token))
      ∙ ap (or_else (verdict (insert_input_tests ids nonces)))
      (rw (length_refused insert_token_length token (Tokens.token-length suite K f p u nonce nonce-length)) (states_pass x i before l hi₀ s (insert_state_tests suite before ids nonces token) ∙ states))

  -- ---- an accepted insert

  -- where nothing refuses: the token's p is the store's, the new count fits, and each table has room
  pub record Room : Type 0 where
    pub p_is : p ≡ z.p
    pub fits : made_in l pr + j ≤ limit
    pub in_m : j ≤ free_rows (s.st.table table_m)
    pub in_v : j ≤ free_rows (s.st.table table_v)
    pub in_c : 1 ≤ free_rows (s.st.table table_c)
    pub in_log : 1 ≤ free_rows (s.st.table table_s)
    pub in_r : j ≤ free_rows (s.st.table table_r)

  pub room : verdict (ledger_tests z l f p u ids) ≡ none → Room
  room e =
      let a = passed (not (eqb p z.p)) _ _ e in
      let b = passed (ltb 4294967295 (made_in l pr + j)) _ _ a.1 in
      let c = passed (ltb z.m (H l + j)) _ _ b.1 in
      let d = passed (ltb z.c (l.A + l.W + 1)) _ _ c.1 in
      let f = passed (ltb z.s (l.W + 1)) _ _ d.1 in
      let g = passed (ltb z.r (H l + j)) _ _ f.1 in
      let m = ltb-false z.m (H l + j) c.0 in
      let n = ltb-false z.c (l.A + l.W + 1) d.0 in
      let o = ltb-false z.s (l.W + 1) f.0 in
      let r = ltb-false z.r (H l + j) g.0 in
      record {
        p_is = eqb-true p z.p (not-false (eqb p z.p) a.0);
        fits = ltb-false 4294967295 (made_in l pr + j) b.0;
        in_m = omega (arith, m, used_m x i before l s, free_is table_m z.m (s.st.table table_m) (s.shaped.tables table_m));
        in_v = omega (arith, m, used_v x i before l s, free_is table_v z.m (s.st.table table_v) (s.shaped.tables table_v));
        in_c = omega (arith, n, s.counters.total, s.w_is, free_is table_c z.c (s.st.table table_c) (s.shaped.tables table_c));
        in_log = omega (arith, o, log_used x i before l s, s.w_is, free_is table_s z.s (s.st.table table_s) (s.shaped.tables table_s));
        in_r = omega (arith, r, used_r x i before l s, free_is table_r z.r (s.st.table table_r) (s.shaped.tables table_r));
      }

  module _ (good : InputGood ids nonces) (has_room : Room) where
    abbrev p_is : p ≡ z.p
    p_is = has_room.p_is

    abbrev l' : Ledger
    l' = after_insert (bounds_of z) l f u ids

    made_own : made_in l' pr ≡ made_in l pr + j
    unfolding after_insert appended
    made_own = ap (λ (e : Entry). e.made) (entry_own (appended (bounds_of z) l f u ids) l.entries)

    made_other : (q : Pair) → (q ≡ pr → ⊥) → made_in l' q ≡ made_in l q
    unfolding after_insert appended
    made_other q ne = ap (λ (e : Entry). e.made) (entry_other (appended (bounds_of z) l f u ids) l.entries q ne)

    ids_own : list_in l' pr ≡ list_in l pr ++ ids_in ids
    unfolding after_insert appended
    ids_own = ap (λ (e : Entry). e.ids) (entry_own (appended (bounds_of z) l f u ids) l.entries)

    ids_other : (q : Pair) → (q ≡ pr → ⊥) → list_in l' q ≡ list_in l q
    unfolding after_insert appended
    ids_other q ne = ap (λ (e : Entry). e.ids) (entry_other (appended (bounds_of z) l f u ids) l.entries q ne)

    listing : Same (listed l'.entries) (ids_in ids ++ listed l.entries)
    unfolding after_insert appended
    listing = record {
      counts = λ t.
          listed_more (ids_in ids) (appended (bounds_of z) l f u ids) l.entries refl t
          ∙ sym (Rattle.table.proofs.Counting.count-append t (ids_in ids) (listed l.entries));
    }

    count_read : count_of (insert_reading suite before token) ≡ made_in l pr
    count_read = ap count_of (read p_is)

    position_read : position_of (insert_reading suite before token) ≡ (P p_is).start + run_of x L pr
    position_read = ap position_of (read p_is)

    last_nonce : length (counter_nonce ids nonces) ≡ 12
    unfolding counter_nonce
    last_nonce = let d = length-drop (12 * j) nonces in let n = good.nonces_length in length-take-le 12 (drop (12 * j) nonces) (omega arith)

    ids_length : length (ids_in ids) ≡ j
    ids_length = rows-length 16 j ids

    ids_wide : All (λ r. length r ≡ 16) (ids_in ids)
    ids_wide = rows_wide 16 j ids good.whole

    nonces_enough : 12 * length (ids_in ids) ≤ length nonces
    nonces_enough = let a = ids_length in let n = good.nonces_length in omega arith

    labels_enough : 12 * length (ids_in ids) ≤ length (label_nonces ids nonces)
    unfolding label_nonces
    labels_enough = let a = ids_length in let n = good.nonces_length in let d = length-drop (12 * (j + 1)) nonces in omega arith

    -- the new rows, and the tables with them
    abbrev new_m : List Row
    new_m = entry_rows suite (mt_of x pr) (me_of x pr) (made_in l pr) (ids_in ids) nonces

    abbrev new_v : List Row
    new_v = reverse_rows suite (mt_of x pr) (made_in l pr) (ids_in ids)

    abbrev new_c : Row
    new_c = counter_row suite (cl_of x pr) ((P p_is).start + run_of x L pr + 1) (counter_nonce ids nonces) (made_in l pr + j)

    abbrev new_s : Row
    new_s = log_row (Tokens.log suite K f p u nonce)

    abbrev new_r : List Row
    new_r = label_rows suite (rl_of x f) (ids_in ids) (label_nonces ids nonces)

    abbrev t_m' : Table
    t_m' = with_rows (width_of table_m) new_m (s.st.table table_m)

    abbrev t_v' : Table
    t_v' = with_rows (width_of table_v) new_v (s.st.table table_v)

    abbrev t_c' : Table
    t_c' = with_rows (width_of table_c) (new_c ∷ []) (s.st.table table_c)

    abbrev t_s' : Table
    t_s' = with_rows (width_of table_s) (new_s ∷ []) (s.st.table table_s)

    abbrev t_r' : Table
    t_r' = with_rows (width_of table_r) new_r (s.st.table table_r)

    a_m : AddedAll (width_of table_m) (s.st.table table_m) new_m t_m'
    a_m = record {
      is = refl;
      room = omega (arith, entries_number suite (mt_of x pr) (me_of x pr) (made_in l pr) (ids_in ids) nonces, ids_length, has_room.in_m);
      busy = (entries_busy suite (mt_of x pr) (me_of x pr) (made_in l pr) (ids_in ids) nonces);
      form = (s.shaped.tables table_m).form;
    }

    a_v : AddedAll (width_of table_v) (s.st.table table_v) new_v t_v'
    a_v = record {
      is = refl;
      room = omega (arith, reverses_number suite (mt_of x pr) (made_in l pr) (ids_in ids), ids_length, has_room.in_v);
      busy = (reverses_busy suite (mt_of x pr) (made_in l pr) (ids_in ids));
      form = (s.shaped.tables table_v).form;
    }

    a_c : Added (width_of table_c) (s.st.table table_c) new_c t_c'
    a_c = record {
      is = refl;
      room = has_room.in_c;
      busy = unfold counter_row in counted_used suite (cl_of x pr) (ctag x pr counter ((P p_is).start + run_of x L pr + 1)) (counter_nonce ids nonces) 0 (made_in l pr + j);
      order = (s.shaped.tables table_c).form.order;
    }

    a_s : Added (width_of table_s) (s.st.table table_s) new_s t_s'
    a_s = record { is = refl; room = has_room.in_log; busy = unfold log_row in refl; order = (s.shaped.tables table_s).form.order }

    a_r : AddedAll (width_of table_r) (s.st.table table_r) new_r t_r'
    a_r = record {
      is = refl;
      room = omega (arith, labels_number suite (rl_of x f) (ids_in ids) (label_nonces ids nonces), ids_length, has_room.in_r);
      busy = (labels_busy suite (rl_of x f) (ids_in ids) (label_nonces ids nonces));
      form = (s.shaped.tables table_r).form;
    }

    body_s : cl_in suite (KS suite K) (body (log_row (Tokens.log suite K f p u nonce))) ≡ cl_of x pr
    unfolding log_row
    body_s = Tokens.log-CL suite K f p u nonce nonce-length

    logged : Same (log_in x t_s') (cl_of x pr ∷ L)
    unfolding log_of
    logged = rw body_s at (Same-map (cl_in suite (KS suite K)) (used t_s') (body new_s ∷ used (s.st.table table_s)) (added_same (width_of table_s) (s.st.table table_s) new_s t_s' a_s))

    counters_after : Counters x t_c' (log_in x t_s') l.A (suc i) (made_in l')
    counters_after =
        let g = good.least in
        counters_insert x (s.st.table table_c) L l.A i (made_in l) s.counters hi pr (ok p_is) (counter_nonce ids nonces) (made_in l pr + j) last_nonce (omega arith) has_room.fits
        t_c' a_c (log_in x t_s') logged (made_in l') made_own made_other

    entries_after : Entries x t_m' t_v' (listed l'.entries) (list_in l') (made_in l')
    entries_after =
        let a = ids_length in
        let m = s.small pr (ok p_is) in
        let g = good.most in
        let own : made_in l' pr ≡ made_in l pr + length (ids_in ids) = made_own ∙ ap (λ (n : ℕ). made_in l pr + n) (sym a) in
        entries_insert_all x pr (ok p_is) (ids_in ids) nonces (made_in l pr) (s.st.table table_m) (s.st.table table_v) t_m' t_v' (listed l.entries) (listed l'.entries) (list_in l) (list_in l') (made_in l) (made_in l')
        s.entries refl ids_wide nonces_enough (omega arith) a_m a_v listing ids_own ids_other own made_other

    marks_after : Marks x t_r' (listed l'.entries) l'.entries
    unfolding after_insert appended
    marks_after =
        marks_insert x (s.st.table table_r) t_r' (listed l.entries) (listed l'.entries) l.entries s.marks
        f (record { named = named; valid = valid; shared = omega arith }) (ids_in ids) (label_nonces ids nonces) ids_wide labels_enough brought a_r listing
        (appended (bounds_of z) l f u ids) refl refl

    abbrev st' : Store
    st' = put_in table_r t_r' (put_in table_s t_s' (put_in table_c t_c' (put_in table_v t_v' (put_in table_m t_m' s.st))))

    log_row_ok : RowOk table_s (log_row (Tokens.log suite K f p u nonce))
    unfolding log_row
    log_row_ok = record { width = ap suc (Tokens.log-length suite K f p u nonce nonce-length); mark = refl }

    counter_row_ok : RowOk table_c (counter_row suite (cl_of x pr) ((P p_is).start + run_of x L pr + 1) (counter_nonce ids nonces) (made_in l pr + j))
    unfolding counter_row
    counter_row_ok = record {
      width = counted_length suite (cl_of x pr) (ctag x pr counter ((P p_is).start + run_of x L pr + 1)) (counter_nonce ids nonces) 0 (made_in l pr + j) (tag_length suite (cl_of x pr) counter ((P p_is).start + run_of x L pr + 1)) last_nonce;
      mark = counted_mark suite (cl_of x pr) (ctag x pr counter ((P p_is).start + run_of x L pr + 1)) (counter_nonce ids nonces) 0 (made_in l pr + j);
    }

    shaped' : Shaped z st'
    shaped' =
        shaped_put z _ table_r t_r' (added_all_ok table_r z.r (s.st.table table_r) new_r t_r' a_r (label_rows_ok suite (rl_of x f) (ids_in ids) (label_nonces ids nonces) ids_wide labels_enough) (s.shaped.tables table_r))
        (shaped_put z _ table_s t_s' (added_ok table_s z.s (s.st.table table_s) new_s t_s' a_s log_row_ok (s.shaped.tables table_s).all (s.shaped.tables table_s).number)
        (shaped_put z _ table_c t_c' (added_ok table_c z.c (s.st.table table_c) new_c t_c' a_c counter_row_ok (s.shaped.tables table_c).all (s.shaped.tables table_c).number)
        (shaped_put z _ table_v t_v' (added_all_ok table_v z.m (s.st.table table_v) new_v t_v' a_v (reverse_rows_ok suite (mt_of x pr) (made_in l pr) (ids_in ids) ids_wide) (s.shaped.tables table_v))
        (shaped_put z s.st table_m t_m' (added_all_ok table_m z.m (s.st.table table_m) new_m t_m' a_m (entry_rows_ok suite (mt_of x pr) (me_of x pr) (made_in l pr) (ids_in ids) nonces ids_wide nonces_enough) (s.shaped.tables table_m))
        s.shaped))))

    members : (q : Pair) → PairOk x q → any_of (same_pair q) (with_pair pr l.T) ≡ any_of (λ y. same y (cl_of x q)) (log_in x t_s')
    members = by_pair pr (λ q. PairOk x q → any_of (same_pair q) (with_pair pr l.T) ≡ any_of (λ y. same y (cl_of x q)) (log_in x t_s'))
        (λ oq. with_own pr l.T ∙ sym (any_same (λ y. same y (cl_of x pr)) (log_in x t_s') (cl_of x pr ∷ L) logged ∙ rw (same_refl (cl_of x pr)) refl))
        (λ q ne oq.
        let d : same (cl_of x pr) (cl_of x q) ≡ false = ne_same (cl_of x pr) (cl_of x q) (λ e. ne (sym (cl_differ x pr q (ok p_is) oq e))) in
        with_other pr l.T q ne ∙ s.t_member q oq ∙ sym (any_same (λ y. same y (cl_of x q)) (log_in x t_s') (cl_of x pr ∷ L) logged ∙ rw d refl))

    -- the store that the definition gives
    inserted_is : inserted_store before (new_entries suite before ids nonces token) (new_reverses suite before ids nonces token) (new_counter suite before ids nonces token) (new_log suite before ids nonces token) (new_labels suite before ids nonces token) ≡ st'
    unfolding inserted_store new_entries new_reverses new_counter new_log new_labels
    inserted_is =
        rw (cut_is x i before l hi₀ s, Tokens.token-MT suite K f p u nonce, Tokens.token-ME suite K f p u nonce, Tokens.token-CL suite K f p u nonce, Tokens.token-log suite K f p u nonce nonce-length, Tokens.token-RL suite K f p u nonce nonce-length, count_read, position_read, new_is p_is) refl

    insert_sim : Sim x (suc i) (joined st') l'
    unfolding after_insert
    insert_sim = record {
      st = st';
      bytes = refl;
      shaped = shaped';
      counters = counters_after;
      entries = entries_after;
      marks = marks_after;
      small = by_pair pr (λ q. PairOk x q → made_in l' q ≤ 64 * suc i)
          (λ oq. let m = s.small pr oq in let g = good.most in let e = made_own in omega arith)
          (λ q ne oq. let m = s.small q oq in let e = made_other q ne in omega arith);
      w_is = let a = same_length (log_in x t_s') (cl_of x pr ∷ L) logged in let w = s.w_is in omega arith;
      t_length =
          let a = with_length pr l.T in
          let b = distinct_same (log_in x t_s') (cl_of x pr ∷ L) logged in
          let c = distinct_more (cl_of x pr) L in
          let d : bit (any_of (same_pair pr) l.T) ≡ bit (any_of (λ y. same y (cl_of x pr)) L) = ap bit (s.t_member pr (ok p_is)) in
          let t = s.t_length in
          omega arith;
      t_member = members;
    }

-- ---- the step

module _ (x : Setting) (i : ℕ) (before : List ℕ) (l : Ledger) (hi : suc i ≤ length x.calls) (s : Sim x i before l)
    (key : List ℕ) (f : Field) (p u : ℕ) (nonce ids nonces : List ℕ) (keyed : (key ≡ x.K) ⊎ (length key ≡ 32 → ⊥))
    (named : Memᴰ f (flat (map Rattle.scheme.specs.Premise.fields_of x.calls)))
    (brought : (y : Labelling) → Memᴰ y (labellings (ids_in ids) (label_nonces ids nonces)) → Brought x y) where
  open x use {suite, K, z, calls}

  ledger_verdict : ledger_insert_verdict (bounds_of z) l key f p u nonce ids nonces
      ≡ or_else (verdict (insert_token_tests key f p u nonce)) (or_else (verdict (insert_input_tests ids nonces)) (verdict (ledger_tests z l f p u ids)))
  unfolding ledger_insert_verdict
  ledger_verdict =
      verdict-append (insert_token_tests key f p u nonce) (insert_input_tests ids nonces ++ ledger_tests z l f p u ids)
      ∙ ap (or_else (verdict (insert_token_tests key f p u nonce))) (verdict-append (insert_input_tests ids nonces) (ledger_tests z l f p u ids))

  abbrev call : Call
  call = Call.insert key f p u nonce ids nonces

  abbrev Reached : Result → Type 0
  Reached r = After x i call l (told_by call r) r.store

  refused_step : (r : Answer) → ledger_insert_verdict (bounds_of z) l key f p u nonce ids nonces ≡ some r → Reached (record { answer = r; store = before; output = [] })
  unfolding ledger_step
  refused_step r v = record { told_is = rw v refl; sim = rw v (later x i before l (omega arith) s) }

  accepted_step : (n : ℕ) (after : List ℕ) → ledger_insert_verdict (bounds_of z) l key f p u nonce ids nonces ≡ none
      → n ≡ made_in l (record { field = f; u = u }) + id_count ids → Sim x (suc i) after (after_insert (bounds_of z) l f u ids)
      → Reached (record { answer = done (n ∷ []); store = after; output = [] })
  unfolding ledger_step appended
  accepted_step n after v e m = record { told_is = rw (v, e) refl; sim = rw v m }

  abbrev accepted : List ℕ → Result
  accepted token = record {
    answer = done (new_count suite before ids token ∷ []);
    store = joined (inserted_store before (new_entries suite before ids nonces token) (new_reverses suite before ids nonces token) (new_counter suite before ids nonces token) (new_log suite before ids nonces token) (new_labels suite before ids nonces token));
    output = [];
  }

  insert_accepted : (token : List ℕ) → insert_verdict suite before ids nonces token ≡ none → Insert.insert suite before ids nonces token ≡ accepted token
  unfolding Insert.insert
  insert_accepted token e = rw e refl

  insert_refused : (token : List ℕ) (r : Answer) → insert_verdict suite before ids nonces token ≡ some r → Insert.insert suite before ids nonces token ≡ record { answer = r; store = before; output = [] }
  unfolding Insert.insert
  insert_refused token r e = rw e refl

  made_step : TokenMade K key f p u nonce → ledger_insert_verdict (bounds_of z) l key f p u nonce ids nonces ≡ or_else (verdict (insert_input_tests ids nonces)) (verdict (ledger_tests z l f p u ids))
      → Reached (Insert.insert suite before ids nonces (insert_token suite K f p u nonce))
  made_step m v = by (or_else (verdict (insert_input_tests ids nonces)) (verdict (ledger_tests z l f p u ids))) refl
    where
      by : (q : Option Answer) → or_else (verdict (insert_input_tests ids nonces)) (verdict (ledger_tests z l f p u ids)) ≡ q → Reached (Insert.insert suite before ids nonces (insert_token suite K f p u nonce))
      by none e =
          let iv = insert_verdict_lem x i before l hi s f p u nonce ids nonces m.valid m.shared m.nonce_length named brought ∙ e in
          let b = both_none (verdict (insert_input_tests ids nonces)) (verdict (ledger_tests z l f p u ids)) e in
          let g = input_good ids nonces b.0 in
          let t = room x i before l hi s f p u nonce ids nonces m.valid m.shared m.nonce_length named brought b.1 in
          subst Reached (sym (insert_accepted (insert_token suite K f p u nonce) iv))
          (accepted_step _ _ (v ∙ e) (new_is x i before l hi s f p u nonce ids nonces m.valid m.shared m.nonce_length named brought t.p_is)
          (subst (λ (st : Store). Sim x (suc i) (joined st) (after_insert (bounds_of z) l f u ids)) (sym (inserted_is x i before l hi s f p u nonce ids nonces m.valid m.shared m.nonce_length named brought g t))
          (insert_sim x i before l hi s f p u nonce ids nonces m.valid m.shared m.nonce_length named brought g t)))
      by (some r) e =
          let iv = insert_verdict_lem x i before l hi s f p u nonce ids nonces m.valid m.shared m.nonce_length named brought ∙ e in
          subst Reached (sym (insert_refused (insert_token suite K f p u nonce) r iv)) (refused_step r (v ∙ e))

  pub insert_step : Reached (insert_call suite before key f p u nonce ids nonces)
  unfolding insert_call
  insert_step = go (verdict (insert_token_tests key f p u nonce)) refl
    where
      go : (q : Option Answer) → verdict (insert_token_tests key f p u nonce) ≡ q → Reached (made_or q (Insert.insert suite before ids nonces (insert_token suite key f p u nonce)) before [])
      go none e =
          let m = token_made K key f p u nonce keyed e in
          subst (λ (k : List ℕ). Reached (Insert.insert suite before ids nonces (insert_token suite k f p u nonce))) (sym m.key_is) (made_step m (ledger_verdict ∙ rw e refl))
      go (some r) e = refused_step r (ledger_verdict ∙ rw e refl)
