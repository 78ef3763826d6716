-- A joint find gives the ids that each field's own find gives: in the ledger a pair has one entry, of a share up to p, so that an id is in a
-- list of a field exactly where the field's find gives it.
use Prim.Native.Nat.{ℕ, ◌*◌, ◌≤◌}
use mathlib.Core.Path.{◌≡◌, refl, sym, ap, ◌∙◌, fun_ext}
use mathlib.Core.Bool.{Bool, true, false, cond, ◌&&◌, ◌||◌, true≢false}
use mathlib.Core.Option.{Option, none, some}
use mathlib.Core.List.{List, [], ◌∷◌, ◌++◌, map, Memᴰ}
use lib.Dec.{ltb}
use lib.ListN.{length}
use Rattle.answer.specs.Answer.{Answer}
use Rattle.answer.specs.Verdict.{Test, verdict}
use Rattle.table.specs.Lists.{same, select, any_of, all_of, flat, All}
use Rattle.table.proofs.Counting.{both, all_map}
use Rattle.scheme.specs.Suite.{Suite}
use Rattle.scheme.specs.Labels.{Field, same_field}
use Rattle.scheme.specs.Call.{Call, Part, Told}
use Rattle.scheme.specs.Refusals.{id_tests}
use Rattle.scheme.specs.Ledger.{Bounds, Pair, same_pair, Entry, Ledger, empty, entry_of, with_entry, removed, ledger_lists, ledger_ids, ledger_has, ledger_joint_ids, ledger_joint_verdict, ledger_insert_verdict, ledger_compact_verdict, appended, after_insert, after_erase, after_compaction, next_or, ledger_step, ledger_after}
use Rattle.scheme.specs.Run.{part_token_tests}
use Rattle.scheme.specs.Claim.{bounds_of}
use Rattle.scheme.specs.Corollaries.{accepted, told_at, Finds, JointIsEach}
use Rattle.scheme.proofs.Setting.{same_pair-true, same_pair_refl, same_pair_sym, same_field-true}
use Rattle.scheme.proofs.Marks.{has_in}
use Rattle.scheme.proofs.Joining.{has_own, all_at}
use Rattle.scheme.proofs.Least.{fields, chosen}
use Rattle.scheme.proofs.Once.{mem_any, any_mem, distinct_has}
use Rattle.scheme.proofs.Corollaries.{ran, told_at_lem, finds_as, find_tells, accepted-none, verdict_refuses, entered, ids_are, mem_up_to}

-- ---- each pair has one entry

abbrev Apart : List Entry → Type 0
Apart [] = Unit {0}
Apart (e ∷ es) = All (λ y. same_pair y.pair e.pair ≡ false) es × Apart es

-- and its share is up to p
record Sound (z : Bounds) (l : Ledger) : Type 0 where
  apart : Apart l.entries
  shares : All (λ e. e.pair.u ≤ z.p) l.entries

-- what holds of all pairs and of a new one holds of all pairs with it
all_with : (P : Pair → Type 0) (e : Entry) (es : List Entry) → P e.pair → All (λ y. P y.pair) es → All (λ y. P y.pair) (with_entry e es)
all_with P e [] p a = (p, tt)
all_with P e (y ∷ ys) p a = go (same_pair y.pair e.pair) (all_with P e ys p a.1)
  where
    go : (b : Bool) → All (λ y. P y.pair) (with_entry e ys) → All (λ y. P y.pair) (cond b (e ∷ ys) (y ∷ with_entry e ys))
    go true k = (p, a.1)
    go false k = (a.0, k)

apart_with : (e : Entry) (es : List Entry) → Apart es → Apart (with_entry e es)
apart_with e [] a = (tt, tt)
apart_with e (y ∷ ys) a = go (same_pair y.pair e.pair) refl (apart_with e ys a.1)
  where
    go : (b : Bool) → same_pair y.pair e.pair ≡ b → Apart (with_entry e ys) → Apart (cond b (e ∷ ys) (y ∷ with_entry e ys))
    go true q k = let h = same_pair-true y.pair e.pair q in (all_map (λ v w. ap (same_pair v.pair) (sym h) ∙ w) ys a.0, a.1)
    go false q k = (all_with (λ p. same_pair p y.pair ≡ false) e ys (same_pair_sym e.pair y.pair ∙ q) a.0, k)

all_removed : (P : Pair → Type 0) (id : List ℕ) (es : List Entry) → All (λ y. P y.pair) es → All (λ y. P y.pair) (map (removed id) es)
unfolding removed
all_removed P id [] a = tt
all_removed P id (y ∷ ys) a = (a.0, all_removed P id ys a.1)

apart_removed : (id : List ℕ) (es : List Entry) → Apart es → Apart (map (removed id) es)
unfolding removed
apart_removed id [] a = tt
apart_removed id (y ∷ ys) a = (all_removed (λ p. same_pair p y.pair ≡ false) id ys a.0, apart_removed id ys a.1)

sound_step : (z : Bounds) (l : Ledger) (call : Call) → Sound z l → Sound z (ledger_step z l call).next
unfolding ledger_step
sound_step z l (Call.insert key f p u nonce ids nonces) s = go (ledger_insert_verdict z l key f p u nonce ids nonces) refl
  where
    go : (o : Option Answer) → ledger_insert_verdict z l key f p u nonce ids nonces ≡ o → Sound z (next_or z l o (after_insert z l f u ids))
    go none e = unfold after_insert appended in record {
      apart = apart_with (appended z l f u ids) l.entries s.apart;
      shares = all_with (λ q. q.u ≤ z.p) (appended z l f u ids) l.entries (entered z l key f p u nonce ids nonces (unfold ledger_step in rw e refl)).share s.shares;
    }
    go (some r) e = s
sound_step z l (Call.erase id) s = go (verdict (id_tests id))
  where
    go : (o : Option Answer) → Sound z (next_or z l o (after_erase z l id))
    go none = unfold after_erase in record { apart = apart_removed id l.entries s.apart; shares = all_removed (λ q. q.u ≤ z.p) id l.entries s.shares }
    go (some r) = s
sound_step z l (Call.find key f output) s = s
sound_step z l (Call.count key f) s = s
sound_step z l (Call.compact key nonces) s = go (ledger_compact_verdict z l key nonces)
  where
    go : (o : Option Answer) → Sound z (next_or z l o (after_compaction z l))
    go none = unfold after_compaction in record { apart = s.apart; shares = s.shares }
    go (some r) = s
sound_step z l Call.order s = s
sound_step z l Call.check s = s
sound_step z l (Call.test key f id) s = s
sound_step z l (Call.joint_find parts output) s = s

sound : (z : Bounds) (l : Ledger) (calls : List Call) → Sound z l → Sound z (ledger_after z l calls)
sound z l [] s = s
sound z l (call ∷ calls) s = sound z (ledger_step z l call).next calls (sound_step z l call s)

sound_empty : (z : Bounds) → Sound z empty
unfolding empty
sound_empty z = record { apart = tt; shares = tt }

-- ---- a field's lists, and what its find gives

-- where a pair has no entry
no_entry : (pr : Pair) (es : List Entry) → All (λ y. same_pair y.pair pr ≡ false) es → (entry_of pr es).ids ≡ []
no_entry pr [] a = refl
no_entry pr (y ∷ ys) a = rw a.0 (no_entry pr ys a.1)

-- the share in whose list an id is
record InShare (p : ℕ) (f : Field) (id : List ℕ) (es : List Entry) : Type 0 where
  u : ℕ
  within : u ≤ p
  listed : Memᴰ id (entry_of (record { field = f; u = u }) es).ids

in_share : (p : ℕ) (f : Field) (id : List ℕ) (es : List Entry) → Apart es → All (λ e. e.pair.u ≤ p) es → has_in id f es ≡ true → InShare p f id es
in_share p f id [] a s h = absurd (true≢false (sym h))
in_share p f id (e ∷ es) a s h = go (same_field e.pair.field f && any_of (same id) e.ids) refl h (in_share p f id es a.1 s.1)
  where
    go : (b : Bool) → (same_field e.pair.field f && any_of (same id) e.ids) ≡ b → (b || has_in id f es) ≡ true → (has_in id f es ≡ true → InShare p f id es) → InShare p f id (e ∷ es)
    go true q h k =
        let w = both (same_field e.pair.field f) (any_of (same id) e.ids) q in
        let g : f ≡ e.pair.field = sym (same_field-true e.pair.field f w.0) in
        record { u = e.pair.u; within = s.0; listed = rw (g, same_pair_refl e.pair) (any_mem id e.ids w.1) }
    go false q h k = rest (k h)
      where
        rest : InShare p f id es → InShare p f id (e ∷ es)
        rest n = by (same_pair e.pair (record { field = f; u = n.u })) refl
          where
            by : (b : Bool) → same_pair e.pair (record { field = f; u = n.u }) ≡ b → InShare p f id (e ∷ es)
            by true r =
                let h = same_pair-true e.pair (record { field = f; u = n.u }) r in
                let o = no_entry (record { field = f; u = n.u }) es (all_map (λ v w. ap (same_pair v.pair) (sym h) ∙ w) es a.0) in
                absurd (mathlib.Core.List.Memᴰ.not-nil (rw o at n.listed))
            by false r = record { u = n.u; within = n.within; listed = rw r n.listed }

has_found : (z : Bounds) (l : Ledger) → Sound z l → (id : List ℕ) (f : Field) → ledger_has z l id f ≡ any_of (same id) (ledger_ids z l f)
unfolding ledger_has
has_found z l s id f = go (has_in id f l.entries) (any_of (same id) (ledger_ids z l f)) refl refl
  where
    gives : has_in id f l.entries ≡ true → any_of (same id) (ledger_ids z l f) ≡ true
    gives h =
        let n = in_share z.p f id l.entries s.apart s.shares h in
        let m : Memᴰ id (ledger_lists z l f) = unfold ledger_lists in mem_up_to (λ u. (entry_of (record { field = f; u = u }) l.entries).ids) id z.p n.u n.within n.listed in
        ap (any_of (same id)) (ids_are z l f) ∙ mem_any id _ (distinct_has id (ledger_lists z l f) m)

    stands : any_of (same id) (ledger_ids z l f) ≡ true → has_in id f l.entries ≡ true
    stands h = unfold ledger_has in all_at (λ id. ledger_has z l id f ≡ true) (ledger_ids z l f) (has_own z l f) id (any_mem id (ledger_ids z l f) h)

    go : (a b : Bool) → has_in id f l.entries ≡ a → any_of (same id) (ledger_ids z l f) ≡ b → a ≡ b
    go true true p q = refl
    go true false p q = sym (gives p) ∙ q
    go false true p q = sym p ∙ stands q
    go false false p q = refl

all_fields : (z : Bounds) (l : Ledger) → Sound z l → (id : List ℕ) (parts : List Part)
    → all_of (ledger_has z l id) (fields parts) ≡ all_of (λ q. any_of (same id) (ledger_ids z l q.field)) parts
all_fields z l s id [] = refl
all_fields z l s id (q ∷ qs) = rw (has_found z l s id q.field, all_fields z l s id qs) refl

-- ---- (g)

joint_tells : (z : Bounds) (l : Ledger) (parts : List Part) (output : List ℕ) → accepted (ledger_step z l (Call.joint_find parts output)).told ≡ true
    → Finds (ledger_step z l (Call.joint_find parts output)).told output (ledger_joint_ids z l (fields parts))
unfolding ledger_step ledger_joint_verdict
joint_tells z l parts output a =
    let n = length (ledger_joint_ids z l (fields parts)) in
    let room = Test.◌⇒◌carrying◌ (ltb (length output) (16 * n)) 18 (n ∷ []) ∷ [] in
    let tests = flat (map part_token_tests parts) ++ (Test.◌⇒◌ (ltb (length parts) 1 || ltb 8 (length parts)) 6 ∷ room) in
    let v = accepted-none (verdict tests) (n ∷ []) [] (λ r e. verdict_refuses tests r [] e) a in
    record { answer = rw v refl; output = rw v refl }

record Order (z : Bounds) (l : Ledger) (parts : List Part) : Type 0 where
  part : Part
  among : Memᴰ part parts
  ids : select (λ id. all_of (λ q. any_of (same id) (ledger_ids z l q.field)) parts) (ledger_ids z l part.field) ≡ ledger_joint_ids z l (fields parts)

order_of : (z : Bounds) (l : Ledger) → Sound z l → (parts : List Part) (output : List ℕ) → accepted (ledger_step z l (Call.joint_find parts output)).told ≡ true → Order z l parts
order_of z l s [] output a = absurd (unfold ledger_step ledger_joint_verdict in true≢false (sym a))
order_of z l s (q ∷ qs) output a =
    let c = chosen z l (λ (q : Part). []) q qs in
    record {
      part = c.part;
      among = c.among;
      ids =
          ap (λ (p : List ℕ → Bool). select p (ledger_ids z l c.part.field)) (fun_ext (λ id. sym (all_fields z l s id (q ∷ qs))))
          ∙ ap (λ (f : Field). select (λ id. all_of (ledger_has z l id) (fields (q ∷ qs))) (ledger_ids z l f)) c.field_is;
    }

pub joint_is_each : (suite : Suite) → JointIsEach suite
unfolding JointIsEach
joint_is_each suite K z first third parts output told r a =
    let w = bounds_of z in
    let l = ledger_after w empty first in
    let e : told_at told (length first) ≡ (ledger_step w l (Call.joint_find parts output)).told =
    ap (λ (t : List Told). told_at t (length first)) (ran suite K z (first ++ (Call.joint_find parts output ∷ third)) told r) ∙ told_at_lem w empty first (Call.joint_find parts output) third in
    let b = sym (ap accepted e) ∙ a in
    let o = order_of w l (sound w empty first (sound_empty w)) parts output b in
    record {
      own = λ q. ledger_ids w l q.field;
      each = λ q out told' m r' a'.
          let g : told_at told' (length first) ≡ (ledger_step w l (Call.find q.key q.field out)).told =
          ap (λ (t : List Told). told_at t (length first)) (ran suite K z (first ++ (Call.find q.key q.field out ∷ [])) told' r') ∙ told_at_lem w empty first (Call.find q.key q.field out) [] in
          finds_as _ _ out (ledger_ids w l q.field) (ledger_ids w l q.field) g refl (find_tells w l q.key q.field out (sym (ap accepted g) ∙ a'));
      chosen = o.part;
      among = o.among;
      finds = finds_as _ _ output _ _ e (sym o.ids) (joint_tells w l parts output b);
    }
