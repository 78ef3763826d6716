-- Erase, find and count tell what the ledger tells.
use Prim.Native.Nat.{ℕ, suc, ◌+◌, ◌*◌, ◌≤◌}
use mathlib.Core.Path.{◌≡◌, refl, sym, ap, subst, ◌∙◌, fun_ext}
use mathlib.Core.Bool.{false, not}
use mathlib.Core.Logic.{◌⊎◌}
use mathlib.Core.Option.{Option, none, some}
use mathlib.Core.List.{List, [], ◌∷◌, ◌++◌, append-nil, map, Memᴰ}
use native.Mathlib.Omega.{arith}
use lib.Dec.{ltb}
use lib.ListN.{length, take, drop, length-append}
use lib.Seq.{take_at, drop_at, drop-drop}
use Rattle.answer.specs.Answer.{Answer, done}
use Rattle.table.specs.Lists.{same, select, count, any_of, flat, sum, up_to, distinct}
use Rattle.table.specs.Table.{Table, used}
use Rattle.table.specs.Order.{reordered, closed}
use Rattle.table.proofs.Order.{reordered_form}
use Rattle.table.proofs.Counting.{count-le, Same-refl}
use Rattle.scheme.specs.Labels.{Field, field_lengths_bad}
use Rattle.scheme.specs.Keys.{MT, ME, CL, field_mt, field_me, field_cl, find_token, find_token_length, count_token, count_token_length, find_mt, find_me, find_cl}
use Rattle.scheme.specs.Store.{Which, Store, table_m, table_v, table_c, table_s, table_r, width_of, cut, joined, put_in, sizes_of, header_bad, marks_bad, form_bad, mark_tests, state_tests, reverse_id, reverse_tag, label_id}
use Rattle.scheme.specs.Reading.{Reading, reading, damaged, count_of}
use Rattle.scheme.specs.Refusals.{Result, id_tests, field_token_tests, token_tests, length_not}
use Rattle.answer.specs.Verdict.{Test, ◌⇒◌, ◌⇒◌carrying◌, verdict, answer_or, unless_refused}
use Rattle.scheme.specs.Erase
use Rattle.scheme.specs.Erase.{erase_verdict, is_reverse, erased_tags, is_erased, is_label, erased_store}
use Rattle.scheme.specs.Find
use Rattle.scheme.specs.Find.{share_reading, ids_of_share, ids_held, ids_found, find_verdict}
use Rattle.scheme.specs.Count
use Rattle.scheme.specs.Count.{count_verdict, sum_of_counts, rows_read}
use Rattle.scheme.specs.Call.{Call, Told}
use Rattle.scheme.specs.Ledger.{Pair, Entry, Ledger, H, listed, removed, after_erase, ledger_lists, ledger_ids, ledger_sum, ledger_find_verdict, ledger_step}
use Rattle.scheme.specs.Run.{find_call, count_call, told_by}
use Rattle.scheme.specs.Order
use Rattle.scheme.specs.Order.{used_in_all, order_verdict, ordered_store}
use Rattle.scheme.specs.Claim.{bounds_of}
use Rattle.scheme.proofs.Once.{unseen-distinct}
use Rattle.scheme.proofs.Setting.{Setting, PairOk, cl_of}
use Rattle.scheme.proofs.Shape.{closed_ok, shaped_put, used_le, sizes_is, cut-joined, header_good, marks_is, form_is}
use Rattle.scheme.proofs.Counters.{run_of, reading_is}
use Rattle.scheme.proofs.Entries.{entries_as, ids_to_lem, entries_erase, erase_count, erased_in}
use Rattle.scheme.proofs.Marks.{Marks, marks_erase}
use Rattle.scheme.proofs.LedgerLaws.{entry_removed, listed-removed}
use Rattle.scheme.proofs.Simulation.{made_in, list_in, log_in, Sim, used_m, used_v, used_r, log_used, later, counters_later, counters_as}
use Rattle.scheme.proofs.Verdicts.{or_else, verdict-append, or_none, passed, view_refused, key_is, length_refused, map-up_to, none_up_to}

-- a call gives its result
pub record Gives (result : Result) (told : Told) (after : List ℕ) : Type 0 where
  pub answer : told.answer ≡ result.answer
  pub output : told.output ≡ result.output
  pub store : after ≡ result.store

module _ (x : Setting) where
  open x use {suite, K, z, calls}

  -- what a step gives
  pub record After (i : ℕ) (call : Call) (l : Ledger) (told : Told) (after : List ℕ) : Type 0 where
    pub told_is : told ≡ (ledger_step (bounds_of z) l call).told
    pub sim : Sim x (suc i) after (ledger_step (bounds_of z) l call).next

  pub told_eq : (t u : Told) → t.answer ≡ u.answer → t.output ≡ u.output → t ≡ u
  told_eq t u e f = λ i. record { answer = e i; output = f i }

  module _ (i : ℕ) (before : List ℕ) (l : Ledger) (hi : i ≤ length calls) (s : Sim x i before l) where
    pub cut_is : cut before ≡ s.st
    cut_is = ap cut s.bytes ∙ cut-joined z s.st s.shaped

    pub sizes_are : sizes_of before ≡ z
    sizes_are = ap sizes_of s.bytes ∙ sizes_is z s.st s.shaped

    header_is : header_bad before ≡ false
    header_is = ap header_bad s.bytes ∙ header_good z s.st s.shaped x.sizes_good

    marks_are : marks_bad (cut before) ≡ false
    marks_are = ap (λ (b : List ℕ). marks_bad (cut b)) s.bytes ∙ marks_is z s.st s.shaped

    form_are : form_bad (cut before) ≡ false
    form_are = ap (λ (b : List ℕ). form_bad (cut b)) s.bytes ∙ form_is z s.st s.shaped

    -- none of the tests that every call begins with refuses
    pub states_pass : (ts : List Test) → verdict (state_tests before ++ ts) ≡ verdict ts
    unfolding state_tests
    states_pass ts = rw (header_is, marks_are, form_are) refl

    pub read_is : (pr : Pair) (ok : PairOk x pr)
        → reading suite (sizes_of before).c (cl_of x pr) ((cut before).table table_c) ≡ Reading.counter (s.counters.pairs pr ok).B (s.counters.pairs pr ok).start (run_of x (log_in x (s.st.table table_s)) pr) (made_in l pr)
    read_is pr ok =
        let u = used_le table_c z.c (s.st.table table_c) (s.shaped.tables table_c) in
        let t = s.counters.total in
        let c = count-le (same (cl_of x pr)) (log_in x (s.st.table table_s)) in
        rw (sizes_are, cut_is)
        (reading_is x (s.st.table table_c) (log_in x (s.st.table table_s)) l.A i pr (made_in l pr) (s.counters.pairs pr ok) z.c hi (omega arith) (omega arith))

    -- ---- order: a store in form stays as it is

    order_verdict_lem : order_verdict before ≡ none
    unfolding order_verdict mark_tests
    order_verdict_lem = rw (header_is, marks_are) refl

    ordered_is : joined (ordered_store before) ≡ before
    unfolding ordered_store
    ordered_is =
        ap (λ (st : Store). joined (record { header = st.header; table = λ k. reordered (width_of k) (st.table k) })) cut_is
        ∙ ap (λ (f : Which → Table). joined (record { header = s.st.header; table = f })) (fun_ext (λ k. reordered_form (width_of k) (s.st.table k) (s.shaped.tables k).form))
        ∙ sym s.bytes

    used_is : used_in_all (cut before) ≡ 3 * H l + l.A + 2 * l.W
    unfolding used_in_all
    used_is = rw cut_is (omega (arith, used_m x i before l s, used_v x i before l s, used_r x i before l s, log_used x i before l s, s.counters.total, s.w_is))

    pub order_step : After i Call.order l (told_by Call.order (Order.order before)) (Order.order before).store
    unfolding ledger_step Order.order
    order_step = record {
      told_is = rw (order_verdict_lem, used_is) refl;
      sim = rw (order_verdict_lem, ordered_is) (later x i before l hi s);
    }

    -- ---- erase

    erase_verdict_lem : (id : List ℕ) → erase_verdict before id ≡ verdict (id_tests id)
    unfolding erase_verdict
    erase_verdict_lem id =
        verdict-append (id_tests id) (state_tests before)
        ∙ ap (or_else (verdict (id_tests id))) (ap verdict (sym (append-nil (state_tests before))) ∙ states_pass [])
        ∙ or_none (verdict (id_tests id))

    reverse_is : (id : List ℕ) → is_reverse before id ≡ (λ b. same (reverse_id b) id)
    unfolding is_reverse
    reverse_is id = refl

    label_is : (id : List ℕ) → is_label before id ≡ (λ b. same (label_id b) id)
    unfolding is_label
    label_is id = refl

    erased_is : (id : List ℕ) → is_erased before id ≡ erased_in x (s.st.table table_v) id
    unfolding is_erased erased_tags is_reverse
    erased_is id = fun_ext (λ b. ap (λ (t : Store). any_of (same (take 32 b)) (map reverse_tag (select (λ b. same (reverse_id b) id) (used (t.table table_v))))) cut_is)

    abbrev erased_st : List ℕ → Store
    erased_st id =
        put_in table_r (closed (width_of table_r) (λ b. same (label_id b) id) (s.st.table table_r))
        (put_in table_v (closed (width_of table_v) (λ b. same (reverse_id b) id) (s.st.table table_v))
        (put_in table_m (closed (width_of table_m) (erased_in x (s.st.table table_v) id) (s.st.table table_m)) s.st))

    erased_store_lem : (id : List ℕ) → erased_store before id ≡ erased_st id
    unfolding erased_store
    erased_store_lem id = rw (erased_is id, reverse_is id, label_is id, cut_is) refl

    erase_sim : (id : List ℕ) → Sim x (suc i) (joined (erased_st id)) (after_erase (bounds_of z) l id)
    unfolding after_erase
    erase_sim id =
        let n = later x i before l hi s in
        let em : (q : Pair) → made_in (after_erase (bounds_of z) l id) q ≡ made_in l q = λ q. unfold removed in ap (λ (e : Entry). e.made) (entry_removed id q l.entries) in
        let ei : (q : Pair) → list_in (after_erase (bounds_of z) l id) q ≡ select (λ y. not (same y id)) (list_in l q) = λ q. unfold removed in ap (λ (e : Entry). e.ids) (entry_removed id q l.entries) in
        let el = listed-removed id l.entries in
        record {
          st = erased_st id;
          bytes = refl;
          shaped =
              shaped_put z _ table_r _ (closed_ok table_r z.r (λ b. same (label_id b) id) (s.st.table table_r) (s.shaped.tables table_r))
              (shaped_put z _ table_v _ (closed_ok table_v z.m (λ b. same (reverse_id b) id) (s.st.table table_v) (s.shaped.tables table_v))
              (shaped_put z s.st table_m _ (closed_ok table_m z.m (erased_in x (s.st.table table_v) id) (s.st.table table_m) (s.shaped.tables table_m)) s.shaped));
          counters = counters_as x (s.st.table table_c) (log_in x (s.st.table table_s)) l.A (suc i) (made_in l) (made_in (after_erase (bounds_of z) l id)) em
              (counters_later x (s.st.table table_c) (log_in x (s.st.table table_s)) l.A i (made_in l) hi s.counters);
          entries =
              entries_as x (closed (width_of table_m) (erased_in x (s.st.table table_v) id) (s.st.table table_m)) (closed (width_of table_v) (λ b. same (reverse_id b) id) (s.st.table table_v))
              (closed (width_of table_m) (erased_in x (s.st.table table_v) id) (s.st.table table_m)) (closed (width_of table_v) (λ b. same (reverse_id b) id) (s.st.table table_v))
              (select (λ y. not (same y id)) (listed l.entries)) (listed (map (removed id) l.entries))
              (λ q. select (λ y. not (same y id)) (list_in l q)) (list_in (after_erase (bounds_of z) l id)) (made_in l) (made_in (after_erase (bounds_of z) l id))
              refl refl (rw el (Same-refl (select (λ y. not (same y id)) (listed l.entries)))) ei em
              (entries_erase x (s.st.table table_m) (s.st.table table_v) (listed l.entries) (list_in l) (made_in l) s.entries id);
          marks =
              subst (λ (all : List (List ℕ)). Marks x (closed (width_of table_r) (λ b. same (label_id b) id) (s.st.table table_r)) all (map (removed id) l.entries)) (sym el)
              (marks_erase x (s.st.table table_r) (listed l.entries) l.entries s.marks id);
          small = λ pr ok. let w = n.small pr ok in rw (em pr) w;
          w_is = s.w_is;
          t_length = s.t_length;
          t_member = s.t_member;
        }

    erase_number : (id : List ℕ) → count (is_reverse before id) (used ((cut before).table table_v)) ≡ count (λ y. same y id) (listed l.entries)
    erase_number id =
        rw (reverse_is id, cut_is) (erase_count x (s.st.table table_m) (s.st.table table_v) (listed l.entries) (list_in l) (made_in l) s.entries id)

    pub erase_step : (id : List ℕ) (told : Told) (after : List ℕ) → Gives (Erase.erase before id) told after → After i (Call.erase id) l told after
    unfolding ledger_step Erase.erase
    erase_step id told after g = go (verdict (id_tests id)) refl
      where
        go : (o : Option Answer) → verdict (id_tests id) ≡ o → After i (Call.erase id) l told after
        go none e =
            let v = erase_verdict_lem id ∙ e in
            let a : told.answer ≡ done (count (λ y. same y id) (listed l.entries) ∷ []) = g.answer ∙ rw v (ap (λ (n : ℕ). done (n ∷ [])) (erase_number id)) in
            let b : after ≡ joined (erased_st id) = g.store ∙ rw v (ap joined (erased_store_lem id)) in
            record {
              told_is = told_eq told _ (a ∙ sym (rw e refl)) g.output;
              sim = rw (b, e) (erase_sim id);
            }
        go (some r) e =
            let v = erase_verdict_lem id ∙ e in
            let a : told.answer ≡ r = g.answer ∙ rw v refl in
            let b : after ≡ before = g.store ∙ rw v refl in
            record {
              told_is = told_eq told _ (a ∙ sym (rw e refl)) g.output;
              sim = rw (b, e) (later x i before l hi s);
            }

    -- ---- find and count

    -- a find's or a count's token is made: the key is K and the field is valid
    pub record Made (key : List ℕ) (f : Field) : Type 0 where
      pub key_is : key ≡ K
      pub valid : field_lengths_bad f ≡ false

    pub field_made : (key : List ℕ) (f : Field) → (key ≡ K) ⊎ (length key ≡ 32 → ⊥) → verdict (field_token_tests key f) ≡ none → Made key f
    unfolding field_token_tests
    field_made key f k e =
        let a = passed (length_not 32 key) _ _ e in
        let b = passed (field_lengths_bad f) _ _ a.1 in
        record { key_is = key_is K key k a.0; valid = b.0 }

    abbrev pair_at : Field → ℕ → Pair
    pair_at f u = record { field = f; u = u }

    module _ (f : Field) (valid : field_lengths_bad f ≡ false) (named : Memᴰ f (flat (map Rattle.scheme.specs.Premise.fields_of calls))) where
      ok_at : (u : ℕ) → u ≤ z.p → PairOk x (pair_at f u)
      ok_at u h = record { named = named; valid = valid; shared = h }

      share_is : (u : ℕ) → (h : u ≤ z.p) → share_reading suite before (field_cl suite K f) u
          ≡ Reading.counter (s.counters.pairs (pair_at f u) (ok_at u h)).B (s.counters.pairs (pair_at f u) (ok_at u h)).start (run_of x (log_in x (s.st.table table_s)) (pair_at f u)) (made_in l (pair_at f u))
      unfolding share_reading
      share_is u h = unfold CL in read_is (pair_at f u) (ok_at u h)

      not_damaged : (u : ℕ) → u ≤ z.p → damaged (share_reading suite before (field_cl suite K f) u) ≡ false
      not_damaged u h = ap damaged (share_is u h)

      count_is : (u : ℕ) → u ≤ z.p → count_of (share_reading suite before (field_cl suite K f) u) ≡ made_in l (pair_at f u)
      count_is u h = ap count_of (share_is u h)

      pub none_damaged : any_of (λ u. damaged (share_reading suite before (field_cl suite K f) u)) (up_to (sizes_of before).p) ≡ false
      none_damaged = rw sizes_are (none_up_to z.p (λ u. damaged (share_reading suite before (field_cl suite K f) u)) not_damaged)

      pub sum_is : sum_of_counts suite before (field_cl suite K f) ≡ ledger_sum (bounds_of z) l f
      unfolding sum_of_counts ledger_sum
      sum_is = rw sizes_are (ap sum (map-up_to z.p (λ u. count_of (share_reading suite before (field_cl suite K f) u)) (λ u. made_in l (pair_at f u)) count_is))

      count_verdict_lem : count_verdict suite before (field_cl suite K f) ≡ none
      unfolding count_verdict token_tests field_cl
      count_verdict_lem =
          rw (length_refused count_token_length (field_cl suite K f) (suite.f_length _ _)) (states_pass _ ∙ rw none_damaged refl)

      MT-length : length (field_mt suite K f) ≡ 32
      unfolding field_mt
      MT-length = suite.f_length _ _

      ME-length : length (field_me suite K f) ≡ 32
      unfolding field_me
      ME-length = suite.f_length _ _

      CL-length : length (field_cl suite K f) ≡ 32
      unfolding field_cl
      CL-length = suite.f_length _ _

      token-MT : find_mt (find_token suite K f) ≡ field_mt suite K f
      unfolding find_mt find_token
      token-MT = take_at (field_mt suite K f) _ 32 MT-length

      rest_is : drop 32 (find_token suite K f) ≡ field_me suite K f ++ field_cl suite K f
      unfolding find_token
      rest_is = drop_at (field_mt suite K f) _ 32 MT-length

      token-ME : find_me (find_token suite K f) ≡ field_me suite K f
      unfolding find_me
      token-ME = ap (take 32) rest_is ∙ take_at (field_me suite K f) _ 32 ME-length

      pub token-CL : find_cl (find_token suite K f) ≡ field_cl suite K f
      unfolding find_cl
      token-CL = sym (drop-drop 32 32 (find_token suite K f)) ∙ ap (drop 32) rest_is ∙ drop_at (field_me suite K f) _ 32 ME-length

      token-length : length (find_token suite K f) ≡ 96
      unfolding find_token
      token-length =
          let a = length-append (field_me suite K f) (field_cl suite K f) in
          let b = MT-length in
          let c = ME-length in
          let d = CL-length in
          length-append (field_mt suite K f) (field_me suite K f ++ field_cl suite K f) ∙ omega arith

      ids_is : (output : List ℕ) (u : ℕ) → u ≤ z.p → ids_of_share suite before (find_token suite K f) u ≡ list_in l (pair_at f u)
      unfolding ids_of_share
      ids_is output u h =
          let ok = ok_at u h in
          let m = s.small (pair_at f u) ok in
          rw (token-MT, token-ME, token-CL, count_is u h, cut_is)
          (unfold MT ME in
          (ids_to_lem x (s.st.table table_m) (s.st.table table_v) (listed l.entries) (list_in l) (made_in l) s.entries (pair_at f u) ok (made_in l (pair_at f u)) (omega arith)
          ∙ s.entries.gathers (pair_at f u) ok))

      held_is : (output : List ℕ) → ids_held suite before (find_token suite K f) ≡ ledger_lists (bounds_of z) l f
      unfolding ids_held ledger_lists
      held_is output = rw sizes_are (ap flat (map-up_to z.p (ids_of_share suite before (find_token suite K f)) (λ u. list_in l (pair_at f u)) (ids_is output)))

      pub found_is : (output : List ℕ) → ids_found suite before (find_token suite K f) ≡ ledger_ids (bounds_of z) l f
      unfolding ids_found ledger_ids
      found_is output = ap distinct (held_is output) ∙ sym (unseen-distinct (ledger_lists (bounds_of z) l f))

      find_verdict_lem : (output : List ℕ) → find_verdict suite before (find_token suite K f) output
          ≡ verdict ((ltb (length output) (16 * length (ledger_ids (bounds_of z) l f)) ⇒ 18 carrying (length (ledger_ids (bounds_of z) l f) ∷ [])) ∷ [])
      unfolding find_verdict token_tests
      find_verdict_lem output =
          rw (token-CL, length_refused find_token_length (find_token suite K f) token-length) (states_pass _ ∙ rw (none_damaged, found_is output) refl)

    module _ (key : List ℕ) (f : Field) (keyed : (key ≡ K) ⊎ (length key ≡ 32 → ⊥)) (named : Memᴰ f (flat (map Rattle.scheme.specs.Premise.fields_of calls))) where
      abbrev room : List ℕ → List Test
      room output = (ltb (length output) (16 * length (ledger_ids (bounds_of z) l f)) ⇒ 18 carrying (length (ledger_ids (bounds_of z) l f) ∷ [])) ∷ []

      ledger_find : (output : List ℕ) → ledger_find_verdict (bounds_of z) l key f output ≡ or_else (verdict (field_token_tests key f)) (verdict (room output))
      unfolding ledger_find_verdict
      ledger_find output = verdict-append (field_token_tests key f) (room output)

      find_result : (output : List ℕ) → verdict (field_token_tests key f) ≡ none
          → find_call suite before key f output ≡ record {
            answer = answer_or (verdict (room output)) (done (length (ledger_ids (bounds_of z) l f) ∷ []));
            store = before;
            output = unless_refused (verdict (room output)) (flat (ledger_ids (bounds_of z) l f) ++ drop (16 * length (ledger_ids (bounds_of z) l f)) output) output;
          }
      unfolding find_call Find.find
      find_result output e =
          let m = field_made key f keyed e in
          rw (e, m.key_is, find_verdict_lem f m.valid named output, found_is f m.valid named output) refl

      pub find_step : (output : List ℕ) (told : Told) (after : List ℕ) → Gives (find_call suite before key f output) told after → After i (Call.find key f output) l told after
      unfolding ledger_step
      find_step output told after g = go (verdict (field_token_tests key f)) refl
        where
          go : (o : Option Answer) → verdict (field_token_tests key f) ≡ o → After i (Call.find key f output) l told after
          go none e =
              let r = find_result output e in
              let v : ledger_find_verdict (bounds_of z) l key f output ≡ verdict (room output) = ledger_find output ∙ rw e refl in
              record {
                told_is = told_eq told _ (g.answer ∙ ap (λ (w : Result). w.answer) r ∙ sym (rw v refl)) (g.output ∙ ap (λ (w : Result). w.output) r ∙ sym (rw v refl));
                sim = rw (g.store ∙ ap (λ (w : Result). w.store) r) (later x i before l hi s);
              }
          go (some r) e =
              let v : ledger_find_verdict (bounds_of z) l key f output ≡ some r = ledger_find output ∙ rw e refl in
              let c : find_call suite before key f output ≡ record { answer = r; store = before; output = output } = unfold find_call in rw e refl in
              record {
                told_is = told_eq told _ (g.answer ∙ ap (λ (w : Result). w.answer) c ∙ sym (rw v refl)) (g.output ∙ ap (λ (w : Result). w.output) c ∙ sym (rw v refl));
                sim = rw (g.store ∙ ap (λ (w : Result). w.store) c) (later x i before l hi s);
              }

      count_result : verdict (field_token_tests key f) ≡ none
          → count_call suite before key f ≡ record { answer = done (ledger_sum (bounds_of z) l f ∷ rows_read suite before (field_cl suite K f) ∷ []); store = before; output = [] }
      unfolding count_call Count.count count_token
      count_result e =
          let m = field_made key f keyed e in
          rw (e, m.key_is, count_verdict_lem f m.valid named, sum_is f m.valid named) refl

      -- the ledger has no rows: what is compared leaves those that were looked at out
      pub count_step : After i (Call.count key f) l (told_by (Call.count key f) (count_call suite before key f)) (count_call suite before key f).store
      unfolding ledger_step
      count_step = go (verdict (field_token_tests key f)) refl
        where
          go : (o : Option Answer) → verdict (field_token_tests key f) ≡ o
              → After i (Call.count key f) l (told_by (Call.count key f) (count_call suite before key f)) (count_call suite before key f).store
          go none e = record { told_is = rw (count_result e, e) refl; sim = rw (count_result e) (later x i before l hi s) }
          go (some r) e =
              let c : count_call suite before key f ≡ record { answer = r; store = before; output = [] } = unfold count_call in rw e refl in
              record {
                told_is = rw (c, e) (told_eq _ _ (view_refused (field_token_tests key f) r e) refl);
                sim = rw c (later x i before l hi s);
              }
