-- The corollaries: the claim turns each into a fact about the ledger alone.
use Prim.Native.Nat.{ℕ, zero, suc, ◌+◌, ◌*◌, ◌≤◌}
use mathlib.Core.Path.{◌≡◌, refl, sym, ap, ap₂, subst, ◌∙◌, fun_ext}
use mathlib.Core.Bool.{Bool, true, false, cond, not, ◌||◌, true≢false}
use mathlib.Core.Logic.{⊎_elim}
use mathlib.Core.Option.{Option, none, some}
use mathlib.Core.List.{List, [], ◌∷◌, ◌++◌, map, Memᴰ}
use native.Mathlib.Nat.{zero-add}
use native.Mathlib.Omega.{arith}
use lib.Dec.{eqb, ltb}
use lib.ListN.{length, drop}
use borrow.Author.Tests.{eqb-true, not-false, ltb-false}
use Rattle.answer.specs.Answer.{Answer, done, refused}
use Rattle.table.specs.Lists.{same, select, any_of, all_of, flat, up_to, All, Same, distinct}
use Rattle.table.specs.Order.{used_rows, in_form}
use Rattle.table.proofs.Counting.{ne_same, neither, select-append}
use Rattle.table.proofs.Distinct.{distinct_without}
use Rattle.table.proofs.Rows.{rows-length}
use Rattle.table.proofs.Order.{InForm, form_true, form_fixed}
use Rattle.scheme.specs.Suite.{Suite}
use Rattle.scheme.specs.Labels.{Field, field_lengths_bad}
use Rattle.scheme.specs.Store.{Sizes, Which, plan, table_m, table_v, table_c, table_s, table_r, width_of, rows_of, start_of, sizes_of, Store, cut, joined, header_bad, marks_bad, form_bad, state_tests, fresh}
use Rattle.scheme.specs.Refusals.{id_count, ids_in, length_not, insert_token_tests, insert_input_tests, id_tests, field_token_tests}
use Rattle.answer.specs.Verdict.{Test, verdict, answer_or}
use Rattle.scheme.specs.Call.{Call, Part, Told}
use Rattle.scheme.specs.Ledger.{Pair, Entry, Ledger, Bounds, empty, entry_of, removed, ledger_insert_verdict, appended, after_insert, after_erase, after_compaction, ledger_lists, ledger_ids, ledger_sum, ledger_has, least_made, ledger_joint_ids, ledger_joint_verdict, ledger_find_verdict, ledger_compact_verdict, next_or, ledger_step, ledger_tells, ledger_after}
use Rattle.scheme.specs.Claim.{Claim, bounds_of}
use Rattle.scheme.specs.Corollaries.{Ran, told_at, accepted, Finds, Keeps, NoIdLost, Query, finding, counting, testing, joining, call_of, CompactionHidden, EraseExact, BringsNot, ErasedGone, EachIdOnce, Made, ClientsAlike, RowsFixTable, RowsFixStore, NoFaults}
use Rattle.scheme.specs.Run.{store_after}
use Rattle.scheme.proofs.Setting.{Setting, by_pair}
use Rattle.scheme.proofs.Shape.{cut-joined}
use Rattle.scheme.proofs.Simulation.{Sim, begin}
use Rattle.scheme.proofs.LedgerLaws.{entry_own, entry_other, entry_removed}
use Rattle.scheme.proofs.Verdicts.{both_none, verdict-append, passed, map-up_to}
use Rattle.scheme.proofs.Claim.{claim, follows}
use Rattle.scheme.proofs.Checking.{check_none}
use Rattle.scheme.proofs.Once.{unseen-distinct, mem_select, select_mem, not_selected, distinct_has, distinct_mem, distinct_no_repeats}

-- ---- the ledger along a list

-- what the ledger tells of the call after a first part
pub told_at_lem : (z : Bounds) (l : Ledger) (first : List Call) (call : Call) (rest : List Call)
    → told_at (ledger_tells z l (first ++ (call ∷ rest))) (length first) ≡ (ledger_step z (ledger_after z l first) call).told
told_at_lem z l [] call rest = refl
told_at_lem z l (c ∷ cs) call rest = told_at_lem z (ledger_step z l c).next cs call rest

told_later : (z : Bounds) (l : Ledger) (first : List Call) (call : Call) (rest : List Call) (n : ℕ)
    → told_at (ledger_tells z l (first ++ (call ∷ rest))) (length first + suc n) ≡ told_at (ledger_tells z (ledger_step z (ledger_after z l first) call).next rest) n
told_later z l [] call rest n = ap (λ (k : ℕ). told_at (ledger_tells z l (call ∷ rest)) k) (native.Mathlib.Nat.zero-add (suc n))
told_later z l (c ∷ cs) call rest n =
    ap (λ (k : ℕ). told_at (ledger_tells z l (c ∷ (cs ++ (call ∷ rest)))) k) (native.Mathlib.Nat.suc-add (length cs) (suc n))
    ∙ told_later z (ledger_step z l c).next cs call rest n

-- what a run told is what the ledger tells
pub ran : (suite : Suite) (K : List ℕ) (z : Sizes) (calls : List Call) (told : List Told) → Ran suite K z calls told → told ≡ ledger_tells (bounds_of z) empty calls
ran suite K z calls told r = unfold Claim in (r.run ∙ claim suite K z calls r.key_length r.sizes r.keys r.premise)

-- (d)
pub clients_alike : (suite : Suite) → ClientsAlike suite
unfolding ClientsAlike
clients_alike suite K z calls calls' told told' e r r' =
    ran suite K z (map (λ (m : Made). m.call) calls) told r
    ∙ ap (ledger_tells (bounds_of z) empty) e
    ∙ sym (ran suite K z (map (λ (m : Made). m.call) calls') told' r')

-- ---- (b)

same_least : (z : Bounds) (l l' : Ledger) (f : Field) (fs : List Field) → ((g : Field) → ledger_sum z l' g ≡ ledger_sum z l g) → least_made z l' f fs ≡ least_made z l f fs
same_least z l l' f [] e = refl
same_least z l l' f (g ∷ gs) e =
    ap₂ (λ (a b : ℕ). least_made z l' (cond (ltb a b) g f) gs) (e g) (e f) ∙ same_least z l l' (cond (ltb (ledger_sum z l g) (ledger_sum z l f)) g f) gs e

same_joint : (z : Bounds) (l l' : Ledger) (fs : List Field) → l'.entries ≡ l.entries → ledger_joint_ids z l' fs ≡ ledger_joint_ids z l fs
same_joint z l l' [] e = refl
same_joint z l l' (f ∷ fs) e =
    let h : ledger_has z l' ≡ ledger_has z l = unfold ledger_has in rw e refl in
    let i : ledger_ids z l' ≡ ledger_ids z l = unfold ledger_ids ledger_lists in rw e refl in
    let s : (g : Field) → ledger_sum z l' g ≡ ledger_sum z l g = λ g. unfold ledger_sum in rw e refl in
    ap₂ (λ (has : List ℕ → Field → Bool) (ids : Field → List (List ℕ)). select (λ id. all_of (has id) (f ∷ fs)) (ids (least_made z l' f fs))) h i
    ∙ ap (λ (g : Field). select (λ id. all_of (ledger_has z l id) (f ∷ fs)) (ledger_ids z l g)) (same_least z l l' f fs s)

same_query : (z : Bounds) (l l' : Ledger) (query : Query) → l'.entries ≡ l.entries → (ledger_step z l' (call_of query)).told ≡ (ledger_step z l (call_of query)).told
unfolding ledger_step ledger_find_verdict ledger_ids ledger_lists ledger_sum ledger_has ledger_joint_verdict
same_query z l l' (finding key f output) e = rw e refl
same_query z l l' (counting key f) e = rw e refl
same_query z l l' (testing key f id) e = rw e refl
same_query z l l' (joining parts output) e = rw (same_joint z l l' (map (λ (q : Part). q.field) parts) e) refl

compaction_entries : (z : Bounds) (l : Ledger) (key nonces : List ℕ) → (ledger_step z l (Call.compact key nonces)).next.entries ≡ l.entries
unfolding ledger_step after_compaction
compaction_entries z l key nonces = go (ledger_compact_verdict z l key nonces)
  where
    go : (o : Option Answer) → (next_or z l o (after_compaction z l)).entries ≡ l.entries
    go none = refl
    go (some r) = refl

pub compaction_hidden : (suite : Suite) → CompactionHidden suite
unfolding CompactionHidden
compaction_hidden suite K z first key nonces query told told' r r' =
    let b = bounds_of z in
    let l = ledger_after b empty first in
    ap (λ (t : List Told). told_at t (length first + 1)) (ran suite K z (first ++ (Call.compact key nonces ∷ call_of query ∷ [])) told r)
    ∙ told_later b empty first (Call.compact key nonces) (call_of query ∷ []) 0
    ∙ same_query b l (ledger_step b l (Call.compact key nonces)).next query (compaction_entries b l key nonces)
    ∙ sym (told_at_lem b empty first (call_of query) [])
    ∙ sym (ap (λ (t : List Told). told_at t (length first)) (ran suite K z (first ++ (call_of query ∷ [])) told' r'))

-- ---- a find's ids

-- an accepted answer was not refused
pub accepted-none : (o : Option Answer) (l : List ℕ) (rest : List ℕ) → ((r : Answer) → o ≡ some r → accepted (record { answer = r; output = rest }) ≡ false) → accepted (record { answer = answer_or o (done l); output = rest }) ≡ true → o ≡ none
accepted-none none l rest h e = refl
accepted-none (some r) l rest h e = absurd (true≢false (sym e ∙ h r refl))

-- every refusal is one
pub verdict_refuses : (ts : List Test) (r : Answer) (output : List ℕ) → verdict ts ≡ some r → accepted (record { answer = r; output = output }) ≡ false
verdict_refuses [] r output e = absurd (let w : ◌≡◌ {A = ℕ} 0 1 = cc in omega arith)
verdict_refuses ((Test.◌⇒◌ b n) ∷ ts) r output e = go b e (verdict_refuses ts r output)
  where
    go : (b : Bool) → cond b (some (refused n [])) (verdict ts) ≡ some r → (verdict ts ≡ some r → accepted (record { answer = r; output = output }) ≡ false) → accepted (record { answer = r; output = output }) ≡ false
    go true e k = let q : refused n [] ≡ r = cc in rw (← q) refl
    go false e k = k e
verdict_refuses ((Test.◌⇒◌carrying◌ b n l) ∷ ts) r output e = go b e (verdict_refuses ts r output)
  where
    go : (b : Bool) → cond b (some (refused n l)) (verdict ts) ≡ some r → (verdict ts ≡ some r → accepted (record { answer = r; output = output }) ≡ false) → accepted (record { answer = r; output = output }) ≡ false
    go true e k = let q : refused n l ≡ r = cc in rw (← q) refl
    go false e k = k e

pub find_tells : (z : Bounds) (l : Ledger) (key : List ℕ) (f : Field) (output : List ℕ) → accepted (ledger_step z l (Call.find key f output)).told ≡ true
    → Finds (ledger_step z l (Call.find key f output)).told output (ledger_ids z l f)
unfolding ledger_step ledger_find_verdict
find_tells z l key f output a =
    let v = accepted-none (ledger_find_verdict z l key f output) (length (ledger_ids z l f) ∷ []) [] (λ r e. verdict_refuses (field_token_tests key f ++ (Test.◌⇒◌carrying◌ (ltb (length output) (16 * length (ledger_ids z l f))) 18 (length (ledger_ids z l f) ∷ []) ∷ [])) r [] e) a in
    record { answer = rw v refl; output = rw v refl }

-- ---- lists of ids

flat_snoc : {A : Type 0} (l : List (List A)) (x : List A) → flat (l ++ (x ∷ [])) ≡ flat l ++ x
flat_snoc [] x = mathlib.Core.List.append-nil x
flat_snoc (y ∷ ys) x = ap (λ r. y ++ r) (flat_snoc ys x) ∙ sym (mathlib.Core.List.append_assoc y (flat ys) x)

map_snoc : {A : Type 0} (g : ℕ → A) (l : List ℕ) (n : ℕ) → map g (l ++ (n ∷ [])) ≡ map g l ++ (g n ∷ [])
map_snoc g [] n = refl
map_snoc g (y ∷ ys) n = ap (λ r. g y ∷ r) (map_snoc g ys n)

flat-up_to : (g : ℕ → List (List ℕ)) (n : ℕ) → flat (map g (up_to (suc n))) ≡ flat (map g (up_to n)) ++ g (suc n)
flat-up_to g n = ap flat (map_snoc g (up_to n) (suc n)) ∙ flat_snoc (map g (up_to n)) (g (suc n))

flat-select : (p : List ℕ → Bool) (g : ℕ → List (List ℕ)) (n : ℕ) → flat (map (λ u. select p (g u)) (up_to n)) ≡ select p (flat (map g (up_to n)))
flat-select p g zero =
    mathlib.Core.List.append-nil (select p (g 0)) ∙ ap (select p) (sym (mathlib.Core.List.append-nil (g 0)))
flat-select p g (suc n) =
    flat-up_to (λ u. select p (g u)) n
    ∙ ap (λ (r : List (List ℕ)). r ++ select p (g (suc n))) (flat-select p g n)
    ∙ sym (select-append p (flat (map g (up_to n))) (g (suc n)))
    ∙ ap (select p) (sym (flat-up_to g n))

pub mem_up_to : (g : ℕ → List (List ℕ)) (id : List ℕ) (n u : ℕ) → u ≤ n → Memᴰ id (g u) → Memᴰ id (flat (map g (up_to n)))
mem_up_to g id zero u h m =
    let e : u ≡ 0 = omega arith in
    let k : Memᴰ id (g 0) = rw e at m in
    mathlib.Core.List.Memᴰ.append_left [] k
mem_up_to g id (suc n) u h m = rw (flat-up_to g n) (go (eqb u (suc n)) refl (mem_up_to g id n u))
  where
    go : (b : Bool) → eqb u (suc n) ≡ b → (u ≤ n → Memᴰ id (g u) → Memᴰ id (flat (map g (up_to n)))) → Memᴰ id (flat (map g (up_to n)) ++ g (suc n))
    go true e k = let q = eqb-true u (suc n) e in mathlib.Core.List.Memᴰ.append_right (flat (map g (up_to n))) (rw q at m)
    go false e k =
        let ne : u ≡ suc n → ⊥ = borrow.Author.Tests.eqb-false u (suc n) e in
        mathlib.Core.List.Memᴰ.append_left (g (suc n)) (k (omega (arith, ne)) m)

-- ---- (c)

erased_lists : (z : Bounds) (l : Ledger) (id : List ℕ) (f : Field) → ledger_lists z (after_erase z l id) f ≡ select (λ y. not (same y id)) (ledger_lists z l f)
unfolding ledger_lists after_erase
erased_lists z l id f =
    ap flat (map-up_to z.p (λ u. (entry_of (record { field = f; u = u }) (map (removed id) l.entries)).ids) (λ u. select (λ y. not (same y id)) (entry_of (record { field = f; u = u }) l.entries).ids)
    (λ u h. unfold removed in ap (λ (e : Entry). e.ids) (entry_removed id (record { field = f; u = u }) l.entries)))
    ∙ flat-select (λ y. not (same y id)) (λ u. (entry_of (record { field = f; u = u }) l.entries).ids) z.p

-- each once, a find's ids are the distinct ones of the lists
pub ids_are : (z : Bounds) (l : Ledger) (f : Field) → ledger_ids z l f ≡ distinct (ledger_lists z l f)
unfolding ledger_ids
ids_are z l f = unseen-distinct (ledger_lists z l f)

erased_ids : (z : Bounds) (l : Ledger) (id : List ℕ) (f : Field) → ledger_ids z (after_erase z l id) f ≡ select (λ y. not (same y id)) (ledger_ids z l f)
erased_ids z l id f =
    ids_are z (after_erase z l id) f
    ∙ ap distinct (erased_lists z l id f)
    ∙ distinct_without id (ledger_lists z l f)
    ∙ sym (ap (select (λ y. not (same y id))) (ids_are z l f))

erase_next : (z : Bounds) (l : Ledger) (id : List ℕ) → accepted (ledger_step z l (Call.erase id)).told ≡ true → (ledger_step z l (Call.erase id)).next ≡ after_erase z l id
unfolding ledger_step
erase_next z l id a =
    let v = accepted-none (verdict (id_tests id)) _ [] (λ r e. verdict_refuses (id_tests id) r [] e) a in
    rw v refl

pub finds_as : (t t' : Told) (lent : List ℕ) (found found' : List (List ℕ)) → t ≡ t' → found' ≡ found → Finds t' lent found' → Finds t lent found
finds_as t t' lent found found' e q h = record { answer = rw (e, ← q) h.answer; output = rw (e, ← q) h.output }

pub erase_exact : (suite : Suite) → EraseExact suite
unfolding EraseExact
erase_exact suite K z first id key key' f output output' told told' r r' a b c =
    let w = bounds_of z in
    let l = ledger_after w empty first in
    let e : told_at told (length first) ≡ (ledger_step w l (Call.find key f output)).told =
    ap (λ (t : List Told). told_at t (length first)) (ran suite K z (first ++ (Call.find key f output ∷ [])) told r) ∙ told_at_lem w empty first (Call.find key f output) [] in
    let q = ran suite K z (first ++ (Call.erase id ∷ Call.find key' f output' ∷ [])) told' r' in
    let d : told_at told' (length first) ≡ (ledger_step w l (Call.erase id)).told =
    ap (λ (t : List Told). told_at t (length first)) q ∙ told_at_lem w empty first (Call.erase id) (Call.find key' f output' ∷ []) in
    let n : (ledger_step w l (Call.erase id)).next ≡ after_erase w l id = erase_next w l id (sym (ap accepted d) ∙ b) in
    let g : told_at told' (length first + 1) ≡ (ledger_step w (after_erase w l id) (Call.find key' f output')).told =
    ap (λ (t : List Told). told_at t (length first + 1)) q ∙ told_later w empty first (Call.erase id) (Call.find key' f output' ∷ []) 0
    ∙ ap (λ (k : Ledger). (ledger_step w k (Call.find key' f output')).told) n in
    record {
      found = ledger_ids w l f;
      finds = finds_as _ _ output (ledger_ids w l f) (ledger_ids w l f) e refl (find_tells w l key f output (sym (ap accepted e) ∙ a));
      finds_rest = finds_as _ _ output' _ _ g (erased_ids w l id f) (find_tells w (after_erase w l id) key' f output' (sym (ap accepted g) ∙ c));
    }

-- ---- (a)

abbrev Has : Ledger → Pair → List ℕ → Type 0
Has l pr id = Memᴰ id (entry_of pr l.entries).ids

-- an id in a pair's list stays there, unless it is erased
has_insert : (z : Bounds) (l : Ledger) (id : List ℕ) (f : Field) (u : ℕ) (ids : List ℕ) (pr : Pair) → Has l pr id → Has (after_insert z l f u ids) pr id
unfolding after_insert appended
has_insert z l id f u ids = by_pair (record { field = f; u = u }) (λ pr. Has l pr id → Has (after_insert z l f u ids) pr id)
    (λ m. rw (entry_own (appended z l f u ids) l.entries) (mathlib.Core.List.Memᴰ.append_left (ids_in ids) m))
    (λ pr ne m. rw (entry_other (appended z l f u ids) l.entries pr ne) m)

has_step : (z : Bounds) (l : Ledger) (pr : Pair) (id : List ℕ) (call : Call) → Keeps id call → Has l pr id → Has (ledger_step z l call).next pr id
unfolding ledger_step
has_step z l pr id (Call.insert key f p u nonce ids nonces) k m = go (ledger_insert_verdict z l key f p u nonce ids nonces)
  where
    go : (o : Option Answer) → Has (next_or z l o (after_insert z l f u ids)) pr id
    go none = has_insert z l id f u ids pr m
    go (some r) = m
has_step z l pr id (Call.erase other) k m = go (verdict (id_tests other))
  where
    go : (o : Option Answer) → Has (next_or z l o (after_erase z l other)) pr id
    go none = unfold after_erase removed in
        (rw (entry_removed other pr l.entries) (mem_select (λ y. not (same y other)) id (ap not (ne_same id other (λ e. k (sym e)))) (entry_of pr l.entries).ids m))
    go (some r) = m
has_step z l pr id (Call.find key f output) k m = m
has_step z l pr id (Call.count key f) k m = m
has_step z l pr id (Call.compact key nonces) k m = go (ledger_compact_verdict z l key nonces)
  where
    go : (o : Option Answer) → Has (next_or z l o (after_compaction z l)) pr id
    go none = unfold after_compaction in m
    go (some r) = m
has_step z l pr id Call.order k m = m
has_step z l pr id Call.check k m = m
has_step z l pr id (Call.test key f other) k m = m
has_step z l pr id (Call.joint_find parts output) k m = m

has_calls : (z : Bounds) (l : Ledger) (pr : Pair) (id : List ℕ) (calls : List Call) → All (Keeps id) calls → Has l pr id → Has (ledger_after z l calls) pr id
has_calls z l pr id [] k m = m
has_calls z l pr id (call ∷ calls) k m = has_calls z (ledger_step z l call).next pr id calls k.1 (has_step z l pr id call k.0 m)

share_within : (key : List ℕ) (f : Field) (p u : ℕ) (nonce : List ℕ) → verdict (insert_token_tests key f p u nonce) ≡ none → u ≤ p
unfolding insert_token_tests
share_within key f p u nonce e =
    let a = passed (length_not 32 key) _ _ e in
    let b = passed (field_lengths_bad f) _ _ a.1 in
    let c = passed (ltb 15 p || ltb p u) _ _ b.1 in
    ltb-false p u (neither (ltb 15 p) (ltb p u) c.0).1

pub record Entered (z : Bounds) (l : Ledger) (key : List ℕ) (f : Field) (p u : ℕ) (nonce ids nonces : List ℕ) : Type 0 where
  pub next : (ledger_step z l (Call.insert key f p u nonce ids nonces)).next ≡ after_insert z l f u ids
  pub share : u ≤ z.p

pub entered : (z : Bounds) (l : Ledger) (key : List ℕ) (f : Field) (p u : ℕ) (nonce ids nonces : List ℕ) → accepted (ledger_step z l (Call.insert key f p u nonce ids nonces)).told ≡ true
    → Entered z l key f p u nonce ids nonces
unfolding ledger_step ledger_insert_verdict
entered z l key f p u nonce ids nonces a =
    let ts = (insert_token_tests key f p u nonce ++ (insert_input_tests ids nonces ++ rest)) in
    let v : verdict ts ≡ none = accepted-none (verdict ts) _ [] (λ r e. verdict_refuses ts r [] e) a in
    let b = both_none (verdict (insert_token_tests key f p u nonce)) _ (sym (verdict-append (insert_token_tests key f p u nonce) (insert_input_tests ids nonces ++ rest)) ∙ v) in
    let c = both_none (verdict (insert_input_tests ids nonces)) _ (sym (verdict-append (insert_input_tests ids nonces) rest) ∙ b.1) in
    let d = passed (not (eqb p z.p)) _ _ c.1 in
    let pz : p ≡ z.p = eqb-true p z.p (not-false (eqb p z.p) d.0) in
    let up : u ≤ p = share_within key f p u nonce b.0 in
    record { next = rw v refl; share = omega arith }
  where
    rest : List Test
    rest =
        Test.◌⇒◌ (not (eqb p z.p)) 12
        ∷ Test.◌⇒◌ (ltb 4294967295 ((entry_of (record { field = f; u = u }) l.entries).made + id_count ids)) 14
        ∷ Test.◌⇒◌ (ltb z.m (Rattle.scheme.specs.Ledger.H l + id_count ids)) 15
        ∷ Test.◌⇒◌ (ltb z.c (l.A + l.W + 1)) 16
        ∷ Test.◌⇒◌ (ltb z.s (l.W + 1)) 17
        ∷ Test.◌⇒◌ (ltb z.r (Rattle.scheme.specs.Ledger.H l + id_count ids)) 21
        ∷ []

has_new : (z : Bounds) (l : Ledger) (f : Field) (u : ℕ) (ids id : List ℕ) → Memᴰ id (ids_in ids) → Has (after_insert z l f u ids) (record { field = f; u = u }) id
unfolding after_insert appended
has_new z l f u ids id m = rw (entry_own (appended z l f u ids) l.entries) (mathlib.Core.List.Memᴰ.append_right (entry_of (record { field = f; u = u }) l.entries).ids m)

found_has : (z : Bounds) (l : Ledger) (f : Field) (u : ℕ) (id : List ℕ) → u ≤ z.p → Has l (record { field = f; u = u }) id → Memᴰ id (ledger_ids z l f)
unfolding ledger_lists
found_has z l f u id h m =
    rw (ids_are z l f) (distinct_has id (ledger_lists z l f) (mem_up_to (λ u. (entry_of (record { field = f; u = u }) l.entries).ids) id z.p u h m))

pub no_id_lost : (suite : Suite) → NoIdLost suite
unfolding NoIdLost
no_id_lost suite K z first second third key key' f p u nonce ids nonces output id told r a m k b =
    let w = bounds_of z in
    let l = ledger_after w empty first in
    let rest = second ++ (Call.find key' f output ∷ third) in
    let q = ran suite K z (first ++ (Call.insert key f p u nonce ids nonces ∷ rest)) told r in
    let d : told_at told (length first) ≡ (ledger_step w l (Call.insert key f p u nonce ids nonces)).told =
    ap (λ (t : List Told). told_at t (length first)) q ∙ told_at_lem w empty first (Call.insert key f p u nonce ids nonces) rest in
    let n = entered w l key f p u nonce ids nonces (sym (ap accepted d) ∙ a) in
    let l₁ = (ledger_step w l (Call.insert key f p u nonce ids nonces)).next in
    let h₁ : Has l₁ (record { field = f; u = u }) id = rw n.next (has_new w l f u ids id m) in
    let l₂ = ledger_after w l₁ second in
    let h₂ : Has l₂ (record { field = f; u = u }) id = has_calls w l₁ (record { field = f; u = u }) id second k h₁ in
    let g : told_at told (length first + suc (length second)) ≡ (ledger_step w l₂ (Call.find key' f output)).told =
    ap (λ (t : List Told). told_at t (length first + suc (length second))) q
    ∙ told_later w empty first (Call.insert key f p u nonce ids nonces) rest (length second)
    ∙ told_at_lem w l₁ second (Call.find key' f output) third in
    record {
      found = ledger_ids w l₂ f;
      finds = finds_as _ _ output (ledger_ids w l₂ f) (ledger_ids w l₂ f) g refl (find_tells w l₂ key' f output (sym (ap accepted g) ∙ b));
      has = found_has w l₂ f u id n.share h₂;
    }

-- ---- (c), later finds

abbrev Lacks : Ledger → List ℕ → Type 0
Lacks l id = (pr : Pair) → Has l pr id → ⊥

lacks_erased : (z : Bounds) (l : Ledger) (id : List ℕ) → Lacks (after_erase z l id) id
unfolding after_erase removed
lacks_erased z l id pr m =
    not_selected (λ y. not (same y id)) id (ap not (Rattle.table.proofs.Counting.same_refl id)) (entry_of pr l.entries).ids
    (rw (entry_removed id pr l.entries) at m)

lacks_insert : (z : Bounds) (l : Ledger) (id : List ℕ) (f : Field) (u : ℕ) (ids : List ℕ) → (Memᴰ id (ids_in ids) → ⊥) → Lacks l id → Lacks (after_insert z l f u ids) id
unfolding after_insert appended
lacks_insert z l id f u ids k h = by_pair (record { field = f; u = u }) (λ pr. Has (after_insert z l f u ids) pr id → ⊥)
    (λ m.
    let n : Memᴰ id ((entry_of (record { field = f; u = u }) l.entries).ids ++ ids_in ids) = rw (entry_own (appended z l f u ids) l.entries) at m in
    ⊎_elim (h (record { field = f; u = u })) k (mathlib.Core.List.Memᴰ.append_cases (entry_of (record { field = f; u = u }) l.entries).ids n))
    (λ pr ne m. h pr (rw (entry_other (appended z l f u ids) l.entries pr ne) at m))

lacks_step : (z : Bounds) (l : Ledger) (id : List ℕ) (call : Call) → BringsNot id call → Lacks l id → Lacks (ledger_step z l call).next id
unfolding ledger_step
lacks_step z l id (Call.insert key f p u nonce ids nonces) k h = go (ledger_insert_verdict z l key f p u nonce ids nonces)
  where
    go : (o : Option Answer) → Lacks (next_or z l o (after_insert z l f u ids)) id
    go none = lacks_insert z l id f u ids k h
    go (some r) = h
lacks_step z l id (Call.erase other) k h = go (verdict (id_tests other))
  where
    go : (o : Option Answer) → Lacks (next_or z l o (after_erase z l other)) id
    go none pr m = h pr (unfold after_erase removed in
        (select_mem (λ y. not (same y other)) id (entry_of pr l.entries).ids (rw (entry_removed other pr l.entries) at m)))
    go (some r) pr m = h pr m
lacks_step z l id (Call.find key f output) k h = h
lacks_step z l id (Call.count key f) k h = h
lacks_step z l id (Call.compact key nonces) k h = go (ledger_compact_verdict z l key nonces)
  where
    go : (o : Option Answer) → Lacks (next_or z l o (after_compaction z l)) id
    go none = unfold after_compaction in h
    go (some r) = h
lacks_step z l id Call.order k h = h
lacks_step z l id Call.check k h = h
lacks_step z l id (Call.test key f other) k h = h
lacks_step z l id (Call.joint_find parts output) k h = h

lacks_calls : (z : Bounds) (l : Ledger) (id : List ℕ) (calls : List Call) → All (BringsNot id) calls → Lacks l id → Lacks (ledger_after z l calls) id
lacks_calls z l id [] k h = h
lacks_calls z l id (call ∷ calls) k h = lacks_calls z (ledger_step z l call).next id calls k.1 (lacks_step z l id call k.0 h)

none_up_to_mem : (g : ℕ → List (List ℕ)) (id : List ℕ) → ((u : ℕ) → Memᴰ id (g u) → ⊥) → (n : ℕ) → Memᴰ id (flat (map g (up_to n))) → ⊥
none_up_to_mem g id h zero m = ⊎_elim (h 0) mathlib.Core.List.Memᴰ.not-nil (mathlib.Core.List.Memᴰ.append_cases (g 0) m)
none_up_to_mem g id h (suc n) m =
    ⊎_elim (none_up_to_mem g id h n) (h (suc n)) (mathlib.Core.List.Memᴰ.append_cases (flat (map g (up_to n))) (rw (flat-up_to g n) at m))

found_lacks : (z : Bounds) (l : Ledger) (f : Field) (id : List ℕ) → Lacks l id → Memᴰ id (ledger_ids z l f) → ⊥
unfolding ledger_lists
found_lacks z l f id h m =
    none_up_to_mem (λ u. (entry_of (record { field = f; u = u }) l.entries).ids) id (λ u. h (record { field = f; u = u })) z.p (distinct_mem id (ledger_lists z l f) (rw (ids_are z l f) at m))

pub erased_gone : (suite : Suite) → ErasedGone suite
unfolding ErasedGone
erased_gone suite K z first second third id key f output told r a k b =
    let w = bounds_of z in
    let l = ledger_after w empty first in
    let rest = second ++ (Call.find key f output ∷ third) in
    let q = ran suite K z (first ++ (Call.erase id ∷ rest)) told r in
    let d : told_at told (length first) ≡ (ledger_step w l (Call.erase id)).told =
    ap (λ (t : List Told). told_at t (length first)) q ∙ told_at_lem w empty first (Call.erase id) rest in
    let n : (ledger_step w l (Call.erase id)).next ≡ after_erase w l id = erase_next w l id (sym (ap accepted d) ∙ a) in
    let l₁ = (ledger_step w l (Call.erase id)).next in
    let h₁ : Lacks l₁ id = rw n (lacks_erased w l id) in
    let l₂ = ledger_after w l₁ second in
    let g : told_at told (length first + suc (length second)) ≡ (ledger_step w l₂ (Call.find key f output)).told =
    ap (λ (t : List Told). told_at t (length first + suc (length second))) q
    ∙ told_later w empty first (Call.erase id) rest (length second)
    ∙ told_at_lem w l₁ second (Call.find key f output) third in
    record {
      found = ledger_ids w l₂ f;
      finds = finds_as _ _ output (ledger_ids w l₂ f) (ledger_ids w l₂ f) g refl (find_tells w l₂ key f output (sym (ap accepted g) ∙ b));
      lacks = found_lacks w l₂ f id (lacks_calls w l₁ id second k h₁);
    }

-- ---- (e)

pub each_id_once : (suite : Suite) → EachIdOnce suite
unfolding EachIdOnce
each_id_once suite K z first third key f output told r a =
    let w = bounds_of z in
    let l = ledger_after w empty first in
    let e : told_at told (length first) ≡ (ledger_step w l (Call.find key f output)).told =
    ap (λ (t : List Told). told_at t (length first)) (ran suite K z (first ++ (Call.find key f output ∷ third)) told r) ∙ told_at_lem w empty first (Call.find key f output) third in
    record {
      found = distinct (ledger_lists w l f);
      finds = finds_as _ _ output (distinct (ledger_lists w l f)) (ledger_ids w l f) e (ids_are w l f) (find_tells w l key f output (sym (ap accepted e) ∙ a));
      once = distinct_no_repeats (ledger_lists w l f);
      has = λ id m. distinct_has id (ledger_lists w l f) m;
      no_other = λ id m. distinct_mem id (ledger_lists w l f) m;
    }

-- ---- (f)

-- a store that the state's tests let pass has its tables in form
forms : (b : List ℕ) → verdict (state_tests b) ≡ none → (k : Which) → InForm (width_of k) ((cut b).table k)
unfolding state_tests form_bad
forms b e =
    let h = passed (header_bad b) _ _ e in
    let m = passed (marks_bad (cut b)) _ _ h.1 in
    let f = passed (any_of (λ k. not (in_form (width_of k) ((cut b).table k))) plan) _ _ m.1 in
    let g = neither (not (in_form (width_of table_m) ((cut b).table table_m))) _ f.0 in
    let i = neither (not (in_form (width_of table_v) ((cut b).table table_v))) _ g.1 in
    let j = neither (not (in_form (width_of table_c) ((cut b).table table_c))) _ i.1 in
    let n = neither (not (in_form (width_of table_s) ((cut b).table table_s))) _ j.1 in
    let o = neither (not (in_form (width_of table_r) ((cut b).table table_r))) _ n.1 in
    by g.0 i.0 j.0 n.0 o.0
  where
    one : (k : Which) → not (in_form (width_of k) ((cut b).table k)) ≡ false → InForm (width_of k) ((cut b).table k)
    one k e = form_true (width_of k) ((cut b).table k) (not-false (in_form (width_of k) ((cut b).table k)) e)

    by : not (in_form (width_of table_m) ((cut b).table table_m)) ≡ false → not (in_form (width_of table_v) ((cut b).table table_v)) ≡ false → not (in_form (width_of table_c) ((cut b).table table_c)) ≡ false → not (in_form (width_of table_s) ((cut b).table table_s)) ≡ false → not (in_form (width_of table_r) ((cut b).table table_r)) ≡ false
        → (k : Which) → InForm (width_of k) ((cut b).table k)
    by g i j n o table_m = one table_m g
    by g i j n o table_v = one table_v i
    by g i j n o table_c = one table_c j
    by g i j n o table_s = one table_s n
    by g i j n o table_r = one table_r o

pub rows_fix_table : RowsFixTable
unfolding RowsFixTable
rows_fix_table b b' k e e' n s = form_fixed (width_of k) ((cut b).table k) ((cut b').table k) (forms b e k) (forms b' e' k) (count b ∙ n ∙ sym (count b')) s
  where
    count : (b : List ℕ) → length ((cut b).table k) ≡ rows_of (sizes_of b) k
    count b = unfold cut in rows-length (width_of k) (rows_of (sizes_of b) k) (drop (start_of (sizes_of b) k) b)

-- the store after a list of calls, as a store in form
stands : (suite : Suite) (K : List ℕ) (z : Sizes) (calls : List Call) (told : List Told) (r : Ran suite K z calls told)
    → Sim (record { suite = suite; K = K; z = z; calls = calls; key_length = r.key_length; sizes_good = r.sizes; premise = r.premise }) (length calls) (store_after suite calls (fresh z)) (ledger_after (bounds_of z) empty calls)
stands suite K z calls told r =
    let x : Setting = record { suite = suite; K = K; z = z; calls = calls; key_length = r.key_length; sizes_good = r.sizes; premise = r.premise } in
    rw (zero-add (length calls)) at (follows x calls 0 (fresh z) empty (omega arith) (record { names = λ f m. m; brings = λ y m. m }) r.keys (begin x)).sim

pub rows_fix_store : (suite : Suite) → RowsFixStore suite
unfolding RowsFixStore
rows_fix_store suite K K' z calls calls' told told' r r' s =
    let a = stands suite K z calls told r in
    let b = stands suite K' z calls' told' r' in
    let e : cut (store_after suite calls (fresh z)) ≡ a.st = ap cut a.bytes ∙ cut-joined z a.st a.shaped in
    let f : cut (store_after suite calls' (fresh z)) ≡ b.st = ap cut b.bytes ∙ cut-joined z b.st b.shaped in
    let h : a.st.header ≡ b.st.header = a.shaped.head ∙ sym b.shaped.head in
    let t : (k : Which) → a.st.table k ≡ b.st.table k =
    λ k. form_fixed (width_of k) (a.st.table k) (b.st.table k) (a.shaped.tables k).form (b.shaped.tables k).form ((a.shaped.tables k).number ∙ sym (b.shaped.tables k).number)
    (subst (λ (st : Store). Same (used_rows (a.st.table k)) (used_rows (st.table k))) f (subst (λ (st : Store). Same (used_rows (st.table k)) (used_rows ((cut (store_after suite calls' (fresh z))).table k))) e (s k))) in
    a.bytes ∙ ap joined (λ j. record { header = h j; table = fun_ext t j }) ∙ sym b.bytes

-- ---- (h)

pub no_faults : (suite : Suite) → NoFaults suite
unfolding NoFaults
no_faults suite K z calls told r = check_none _ (length calls) _ _ (omega arith) (stands suite K z calls told r)
