-- A compaction: CL after CL, each treated once, until the log is empty. Its numbers are those of the distinct CL and of the log.
use Prim.Native.Nat.{ℕ, suc, ◌+◌, ◌*◌, ◌-◌, ◌≤◌, ◌<◌}
use mathlib.Core.Path.{◌≡◌, refl, sym, ap, subst, ◌∙◌}
use mathlib.Core.Bool.{Bool, true, false, not}
use mathlib.Core.List.{List, [], ◌∷◌, map, head-eq_of_cons-eq, tail-eq_of_cons-eq}
use native.Mathlib.Nat.{add-zero}
use native.Mathlib.Omega.{arith}
use lib.ListN.{length, take, drop, length-drop}
use lib.Seq.{length-take-le}
use Rattle.answer.specs.Answer.{Answer, done}
use Rattle.table.specs.Lists.{bit, same, count, All, distinct}
use Rattle.table.specs.Table.{Table, used, is_free, free_at}
use Rattle.table.specs.Order.{used_rows}
use Rattle.table.proofs.Counting.{same_true, same_refl, count-le, select-map}
use Rattle.table.proofs.Distinct.{without, without_self, distinct_without}
use Rattle.table.proofs.Rows.{free_at_all, free_at-length}
use Rattle.table.proofs.Order.{Ascending}
use Rattle.table.proofs.Arranging.{Added, free_at_ascending, closed-used}
use Rattle.scheme.specs.Store.{table_c, table_s, width_of, cl_in, anchor_row}
use Rattle.scheme.specs.Reading.{Reading, reading}
use Rattle.scheme.specs.Compaction.{held_places, freed_counters, next_anchor, anchored_table, log_of, free_log, Treated, by_reading, treat_all}
use Rattle.scheme.specs.Ledger.{Pair}
use Rattle.scheme.specs.Premise.{anchor}
use Rattle.scheme.proofs.Setting.{Setting, PairOk, cl_of, ctag, tag_length, counted_used, counted_length, counted_mark}
use Rattle.scheme.proofs.Shape.{RowOk, TableOk, zero_ok, added_ok, closed_ok, used_le}
use Rattle.scheme.proofs.Counters.{run_of, PairCounter, Counters, reading_is}
use Rattle.scheme.proofs.Treat.{anchor_room, counters_treat, without-length}

distinct_nil : (l : List (List ℕ)) → [] ≡ distinct l → l ≡ []
distinct_nil [] e = refl
distinct_nil (y ∷ ys) e = absurd (let z : ◌≡◌ {A = ℕ} 0 1 = cc in omega arith)

record Starts (cl : List ℕ) (cls l : List (List ℕ)) : Type 0 where
  rest : List (List ℕ)
  is : l ≡ cl ∷ rest
  left : cls ≡ distinct (without cl l)

distinct_starts : (cl : List ℕ) (cls l : List (List ℕ)) → cl ∷ cls ≡ distinct l → Starts cl cls l
distinct_starts cl cls [] e = absurd (let z : ◌≡◌ {A = ℕ} 0 1 = cc in omega arith)
distinct_starts cl cls (y ∷ ys) e =
    let h : cl ≡ y = head-eq_of_cons-eq e in
    let t : cls ≡ without y (distinct ys) = tail-eq_of_cons-eq e in
    record {
      rest = ys;
      is = ap (λ (w : List ℕ). w ∷ ys) (sym h);
      left = subst (λ (w : List ℕ). cls ≡ distinct (without w (y ∷ ys))) (sym h) (t ∙ sym (distinct_without y ys) ∙ ap distinct (sym (without_self y ys)));
    }

module _ (x : Setting) where
  open x use {suite, K, z, calls}

  -- a CL in the log is a pair's
  pub record Known (cl : List ℕ) : Type 0 where
    pub pair : Pair
    pub ok : PairOk x pair
    pub is : cl ≡ cl_of x pair

  known : (cl : List ℕ) (P : List Pair) → All (PairOk x) P → 0 < count (same cl) (map (cl_of x) P) → Known cl
  known cl [] a h = absurd (omega arith)
  known cl (p ∷ ps) a h = go (same cl (cl_of x p)) refl h (known cl ps a.1)
    where
      go : (b : Bool) → same cl (cl_of x p) ≡ b → 0 < bit b + count (same cl) (map (cl_of x) ps) → (0 < count (same cl) (map (cl_of x) ps) → Known cl) → Known cl
      go true e h k = record { pair = p; ok = a.0; is = same_true cl (cl_of x p) e }
      go false e h k = k (omega arith)

  pub log_free : (ks cl : List ℕ) (t : Table) → Ascending (used_rows t) → log_of suite ks (free_log suite ks cl t) ≡ without cl (log_of suite ks t)
  unfolding log_of free_log
  log_free ks cl t o = ap (map (cl_in suite ks)) (closed-used (width_of table_s) (λ b. same (cl_in suite ks b) cl) t o) ∙ sym (select-map (cl_in suite ks) (λ y. not (same y cl)) (used t))

  module _ (ks : List ℕ) (i : ℕ) (hi : i ≤ length calls) (made : Pair → ℕ) where
    pub record Compacts (A anchors counters n w : ℕ) (answer : Answer) (t_c' t_s' : Table) : Type 0 where
      pub told : answer ≡ done ((anchors + n) ∷ (counters + w) ∷ [])
      pub counted : Counters x t_c' (log_of suite ks t_s') (A + n) i made
      pub gone : log_of suite ks t_s' ≡ []
      pub c_ok : TableOk table_c z.c t_c'
      pub s_ok : TableOk table_s z.s t_s'

    abbrev pub CompactsBy : ℕ → ℕ → ℕ → ℕ → ℕ → Treated → Type 0
    CompactsBy A anchors counters n w r = Compacts A anchors counters n w r.answer r.t_c r.t_s

    -- the head of the distinct CL: its pair, and what the reading gives
    record First (cl : List ℕ) (cls : List (List ℕ)) (t_c t_s : Table) (A : ℕ) (C : Counters x t_c (log_of suite ks t_s) A i made) : Type 0 where
      pair : Pair
      ok : PairOk x pair
      is : cl ≡ cl_of x pair
      run : 0 < run_of x (log_of suite ks t_s) pair
      read : reading suite z.c cl t_c ≡ Reading.counter (C.pairs pair ok).B (C.pairs pair ok).start (run_of x (log_of suite ks t_s) pair) (made pair)
      left : cls ≡ distinct (log_of suite ks (free_log suite ks cl t_s))

    head_from : (cl : List ℕ) (cls : List (List ℕ)) (t_c t_s : Table) (A : ℕ) (C : Counters x t_c (log_of suite ks t_s) A i made) → TableOk table_c z.c t_c → TableOk table_s z.s t_s
        → cls ≡ distinct (without cl (log_of suite ks t_s)) → 0 < count (same cl) (log_of suite ks t_s) → Known cl → First cl cls t_c t_s A C
    head_from cl cls t_c t_s A C ok ok_s left w k =
        let r : 0 < run_of x (log_of suite ks t_s) k.pair = rw k.is at w in
        let u = used_le table_c z.c t_c ok in
        let t = C.total in
        let c = count-le (same (cl_of x k.pair)) (log_of suite ks t_s) in
        record {
          pair = k.pair;
          ok = k.ok;
          is = k.is;
          run = r;
          read = ap (λ (c : List ℕ). reading suite z.c c t_c) k.is
              ∙ reading_is x t_c (log_of suite ks t_s) A i k.pair (made k.pair) (C.pairs k.pair k.ok) z.c hi (omega arith) (omega arith);
          left = left ∙ ap distinct (sym (log_free ks cl t_s ok_s.form.order));
        }

    head_of : (cl : List ℕ) (cls : List (List ℕ)) (t_c t_s : Table) (A : ℕ) (C : Counters x t_c (log_of suite ks t_s) A i made) → TableOk table_c z.c t_c → TableOk table_s z.s t_s
        → cl ∷ cls ≡ distinct (log_of suite ks t_s) → First cl cls t_c t_s A C
    head_of cl cls t_c t_s A C ok ok_s e =
        let s = distinct_starts cl cls (log_of suite ks t_s) e in
        let one : bit (same cl cl) ≡ 1 = ap bit (same_refl cl) in
        let n : count (same cl) (log_of suite ks t_s) ≡ bit (same cl cl) + count (same cl) s.rest = ap (count (same cl)) s.is in
        let m = C.log_same.counts (same cl) in
        head_from cl cls t_c t_s A C ok ok_s s.left (omega arith) (known cl C.log C.log_ok (omega arith))

    row_busy : (pr : Pair) (nonce : List ℕ) (b a n : ℕ) → is_free (anchor_row suite (cl_of x pr) b nonce a n) ≡ false
    unfolding anchor_row
    row_busy pr nonce b a n = counted_used suite (cl_of x pr) (ctag x pr anchor b) nonce a n

    row_ok : (pr : Pair) (nonce : List ℕ) (b a n : ℕ) → length nonce ≡ 12 → RowOk table_c (anchor_row suite (cl_of x pr) b nonce a n)
    unfolding anchor_row
    row_ok pr nonce b a n h = record {
      width = counted_length suite (cl_of x pr) (ctag x pr anchor b) nonce a n (tag_length suite (cl_of x pr) anchor b) h;
      mark = counted_mark suite (cl_of x pr) (ctag x pr anchor b) nonce a n;
    }

    -- one CL treated: its pair has k + 1 counters
    module _ (A : ℕ) (cl : List ℕ) (cls : List (List ℕ)) (t_c t_s : Table) (nonces : List ℕ) (a w k : ℕ)
        (C : Counters x t_c (log_of suite ks t_s) A i made) (ok_c : TableOk table_c z.c t_c) (ok_s : TableOk table_s z.s t_s)
        (h : 12 * length (log_of suite ks t_s) ≤ length nonces)
        (f : First cl cls t_c t_s A C) (e : run_of x (log_of suite ks t_s) f.pair ≡ suc k) where
      abbrev L : List (List ℕ)
      L = log_of suite ks t_s

      abbrev P : PairCounter x t_c L A i f.pair (made f.pair)
      P = C.pairs f.pair f.ok

      -- the table with its counters freed
      abbrev t₁ : Table
      t₁ = free_at (width_of table_c) (held_places suite (cl_of x f.pair) t_c P.start (run_of x L f.pair)) t_c

      abbrev t_c₁ : Table
      t_c₁ = anchored_table suite cl (take 12 nonces) t_c P.B P.start (suc k) (made f.pair)

      enough : 1 ≤ length L
      enough = let wl = without-length x L f.pair in let run = f.run in omega arith

      nonce_length : length (take 12 nonces) ≡ 12
      nonce_length = let e = enough in length-take-le 12 nonces (omega arith)

      added : Added (width_of table_c) t₁ (anchor_row suite (cl_of x f.pair) (P.B + 1) (take 12 nonces) (P.start + run_of x L f.pair) (made f.pair)) t_c₁
      unfolding anchored_table freed_counters next_anchor
      added = record {
        is = λ j. anchored_table suite (f.is j) (take 12 nonces) t_c P.B P.start (sym e j) (made f.pair);
        room = anchor_room x t_c L A i made C hi f.pair f.ok f.run;
        busy = row_busy f.pair (take 12 nonces) (P.B + 1) (P.start + run_of x L f.pair) (made f.pair);
        order = free_at_ascending (width_of table_c) (held_places suite (cl_of x f.pair) t_c P.start (run_of x L f.pair)) t_c ok_c.form.order;
      }

      log_is : log_of suite ks (free_log suite ks cl t_s) ≡ without (cl_of x f.pair) L
      log_is = log_free ks cl t_s ok_s.form.order ∙ ap (λ (c : List ℕ). without c L) f.is

      C₁ : Counters x t_c₁ (log_of suite ks (free_log suite ks cl t_s)) (A + 1) i made
      C₁ = rw log_is (counters_treat x t_c L A i made C hi f.pair f.ok f.run (take 12 nonces) nonce_length t_c₁ (unfold anchor_row in added))

      ok_c₁ : TableOk table_c z.c t_c₁
      ok_c₁ =
          let is = held_places suite (cl_of x f.pair) t_c P.start (run_of x L f.pair) in
          added_ok table_c z.c t₁ _ t_c₁ added (row_ok f.pair (take 12 nonces) (P.B + 1) (P.start + run_of x L f.pair) (made f.pair) nonce_length)
          (free_at_all (RowOk table_c) (width_of table_c) is t_c (zero_ok table_c) ok_c.all) (free_at-length (width_of table_c) is t_c ∙ ok_c.number)

      ok_s₁ : TableOk table_s z.s (free_log suite ks cl t_s)
      unfolding free_log
      ok_s₁ = closed_ok table_s z.s (λ b. same (cl_in suite ks b) cl) t_s ok_s

      fewer : length L ≡ suc k + length (log_of suite ks (free_log suite ks cl t_s))
      fewer = let wl = without-length x L f.pair in let g = ap length log_is in omega arith

      nonces_left : 12 * length (log_of suite ks (free_log suite ks cl t_s)) ≤ length (drop 12 nonces)
      nonces_left = let e = fewer in let d = length-drop 12 nonces in omega arith

      -- and then the rest
      compacts_on : (r : Treated) → CompactsBy (A + 1) (a + 1) (w + suc k) (length cls) (length (log_of suite ks (free_log suite ks cl t_s))) r → CompactsBy A a w (suc (length cls)) (length L) r
      compacts_on r go =
          let e = fewer in
          let ea : a + 1 + length cls ≡ a + suc (length cls) = omega arith in
          let ew : w + suc k + length (log_of suite ks (free_log suite ks cl t_s)) ≡ w + length L = omega arith in
          let e_a : A + 1 + length cls ≡ A + suc (length cls) = omega arith in
          record {
            told = go.told ∙ (λ i. done (ea i ∷ ew i ∷ []));
            counted = rw e_a at go.counted;
            gone = go.gone;
            c_ok = go.c_ok;
            s_ok = go.s_ok;
          }

      -- the treatment goes on with these tables
      goes_on : treat_all suite z.c ks (cl ∷ cls) t_c t_s nonces a w ≡ treat_all suite z.c ks cls t_c₁ (free_log suite ks cl t_s) (drop 12 nonces) (a + 1) (w + suc k)
      goes_on =
          let r : reading suite z.c cl t_c ≡ Reading.counter P.B P.start (suc k) (made f.pair) =
          f.read ∙ ap (λ (k : ℕ). Reading.counter P.B P.start k (made f.pair)) e in
          ap (λ (r : Reading). by_reading suite ks cl t_c t_s nonces a w r (λ t_c t_s nonces a w. treat_all suite z.c ks cls t_c t_s nonces a w)) r

    -- what the treatment of these CL gives
    abbrev Gives : List (List ℕ) → Type 0
    Gives cls = (A : ℕ) (t_c t_s : Table) (nonces : List ℕ) (a w : ℕ)
        → cls ≡ distinct (log_of suite ks t_s)
        → Counters x t_c (log_of suite ks t_s) A i made
        → TableOk table_c z.c t_c → TableOk table_s z.s t_s
        → 12 * length (log_of suite ks t_s) ≤ length nonces
        → CompactsBy A a w (length cls) (length (log_of suite ks t_s)) (treat_all suite z.c ks cls t_c t_s nonces a w)

    gives_none : Gives []
    gives_none A t_c t_s nonces a w e C ok_c ok_s h =
        let n : log_of suite ks t_s ≡ [] = distinct_nil (log_of suite ks t_s) e in
        let l : w ≡ w + length (log_of suite ks t_s) = rw n (sym (add-zero w)) in
        let m : a ≡ a + 0 = sym (add-zero a) in
        record {
          told = λ i. done (m i ∷ l i ∷ []);
          counted = rw (add-zero A) C;
          gone = n;
          c_ok = ok_c;
          s_ok = ok_s;
        }

    gives_more : (cl : List ℕ) (cls : List (List ℕ)) → Gives cls → Gives (cl ∷ cls)
    gives_more cl cls rest A t_c t_s nonces a w e C ok_c ok_s h =
        from (head_of cl cls t_c t_s A C ok_c ok_s e) (run_of x (log_of suite ks t_s) (head_of cl cls t_c t_s A C ok_c ok_s e).pair - 1)
        (let run = (head_of cl cls t_c t_s A C ok_c ok_s e).run in omega arith)
      where
        from : (f : First cl cls t_c t_s A C) (k : ℕ) → run_of x (log_of suite ks t_s) f.pair ≡ suc k
            → CompactsBy A a w (suc (length cls)) (length (log_of suite ks t_s)) (treat_all suite z.c ks (cl ∷ cls) t_c t_s nonces a w)
        from f k ek =
            subst (CompactsBy A a w (suc (length cls)) (length (log_of suite ks t_s))) (sym (goes_on A cl cls t_c t_s nonces a w k C ok_c ok_s h f ek))
            (compacts_on A cl cls t_c t_s nonces a w k C ok_c ok_s h f ek _
            (rest (A + 1) (t_c₁ A cl cls t_c t_s nonces a w k C ok_c ok_s h f ek) (free_log suite ks cl t_s) (drop 12 nonces) (a + 1) (w + suc k) f.left
            (C₁ A cl cls t_c t_s nonces a w k C ok_c ok_s h f ek)
            (ok_c₁ A cl cls t_c t_s nonces a w k C ok_c ok_s h f ek)
            (ok_s₁ A cl cls t_c t_s nonces a w k C ok_c ok_s h f ek)
            (nonces_left A cl cls t_c t_s nonces a w k C ok_c ok_s h f ek)))

    pub compacts : (cls : List (List ℕ)) → Gives cls
    compacts [] = gives_none
    compacts (cl ∷ cls) = gives_more cl cls (compacts cls)
