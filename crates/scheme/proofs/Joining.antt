-- A test and a joint find tell what the ledger tells.
use Prim.Native.Nat.{ℕ, ◌*◌, ◌%◌, ◌≤◌}
use mathlib.Core.Path.{◌≡◌, refl, sym, ap, ap₂, subst, ◌∙◌}
use mathlib.Core.Bool.{Bool, true, false, cond, ◌&&◌, ◌||◌, or-true}
use mathlib.Core.Logic.{◌⊎◌, ⊎_elim}
use mathlib.Core.Option.{Option, none, some}
use mathlib.Core.List.Memᴰ
use mathlib.Core.List.{List, [], ◌∷◌, ◌++◌, append-nil, map, Memᴰ}
use native.Mathlib.Omega.{arith}
use lib.Dec.{ltb}
use lib.ListN.{length, get_or, drop, length-map}
use borrow.Author.Tests.{eq-eqb}
use Rattle.answer.specs.Answer.{Answer, done}
use Rattle.answer.specs.Verdict.{Test, ◌⇒◌, ◌⇒◌carrying◌, verdict, answer_or, unless_refused}
use Rattle.table.specs.Lists.{same, select, any_of, all_of, flat, up_to, All}
use Rattle.table.specs.Table.{rows}
use Rattle.table.proofs.Counting.{select_agree, same_refl}
use Rattle.table.proofs.Rows.{flat-length, rows-flat}
use Rattle.scheme.specs.Labels.{Field, same_field, field_lengths_bad}
use Rattle.scheme.specs.Keys.{RL, field_cl, find_cl, mark_token, mark_token_length, part_token, part_find}
use Rattle.scheme.specs.Store.{table_r, cut, state_tests}
use Rattle.scheme.specs.Refusals.{Result, id_tests, field_token_tests, token_tests, part_count, parts_in, part_tests}
use Rattle.scheme.specs.Test
use Rattle.scheme.specs.Test.{tests, test_verdict}
use Rattle.scheme.specs.JointFind
use Rattle.scheme.specs.JointFind.{least_at, without, part_damaged, part_sum, part_ids, part_test, chosen_at, chosen_part, ids_kept, joint_verdict}
use Rattle.scheme.specs.Call.{Call, Part}
use Rattle.scheme.specs.Ledger.{Bounds, Pair, same_pair, Entry, entry_of, unseen, Ledger, ledger_lists, ledger_ids, ledger_has, ledger_joint_ids, ledger_joint_verdict, ledger_sum, ledger_step}
use Rattle.scheme.specs.Run.{part_of, part_token_tests, test_call, joint_call, told_by}
use Rattle.scheme.specs.Premise.{PartFits, fields_of}
use Rattle.scheme.specs.Claim.{bounds_of}
use Rattle.scheme.proofs.Setting.{Setting, same_pair-true, same_field_refl}
use Rattle.scheme.proofs.Marks.{has_in, tests_is}
use Rattle.scheme.proofs.Simulation.{Sim, later}
use Rattle.scheme.proofs.Verdicts.{or_else, or_none, both_none, verdict-append, length_refused}
use Rattle.scheme.proofs.Queries.{After, Made, field_made, cut_is, states_pass, none_damaged, sum_is, token-CL, found_is}
use Rattle.scheme.proofs.Tokens.{RL-length, part_find_lem, part_rl_lem, part_length}
use Rattle.scheme.proofs.Least.{fields, sums, chosen}

-- ---- what a field's find gives, the ledger has under the field

all_in : (P : List ℕ → Type 0) (es seen : List (List ℕ)) → All P es → All P (unseen seen es)
all_in P [] seen a = tt
all_in P (y ∷ ys) seen a = go (any_of (same y) seen) (all_in P ys seen a.1) (all_in P ys (y ∷ seen) a.1)
  where
    go : (b : Bool) → All P (unseen seen ys) → All P (unseen (y ∷ seen) ys) → All P (cond b (unseen seen ys) (y ∷ unseen (y ∷ seen) ys))
    go true h k = h
    go false h k = (a.0, k)

all_flat : {A : Type 0} (P : A → Type 0) (l : List (List A)) → All (All P) l → All P (flat l)
all_flat P [] a = tt
all_flat P (y ∷ ys) a = Rattle.table.proofs.Counting.all_append P y (flat ys) a.0 (all_flat P ys a.1)

pub all_of_map : {A B : Type 0} (P : B → Type 0) (h : A → B) → ((y : A) → P (h y)) → (l : List A) → All P (map h l)
all_of_map P h k [] = tt
all_of_map P h k (y ∷ ys) = (k y, all_of_map P h k ys)

pub all_at : {A : Type 0} (P : A → Type 0) (l : List A) → All P l → (y : A) → Memᴰ y l → P y
all_at P [] a y m = absurd (Memᴰ.not-nil m)
all_at P (v ∷ vs) a y m = ⊎_elim (λ q. subst P (sym q) a.0) (λ n. all_at P vs a.1 y n) (Memᴰ.cases_cons m)

-- every element of a list is in it
any_own : (l seen : List (List ℕ)) → ((i : List ℕ) → any_of (same i) l ≡ true → any_of (same i) seen ≡ true) → All (λ i. any_of (same i) seen ≡ true) l
any_own [] seen h = tt
any_own (y ∷ ys) seen h = (h y (rw (same_refl y) refl), any_own ys seen (λ i e. h i (rw e (or-true (same i y)))))

has_listed : (f : Field) (u : ℕ) (es : List Entry) → All (λ i. has_in i f es ≡ true) (entry_of (record { field = f; u = u }) es).ids
has_listed f u [] = tt
has_listed f u (e ∷ es) = go (same_pair e.pair (record { field = f; u = u })) refl (has_listed f u es)
  where
    go : (b : Bool) → same_pair e.pair (record { field = f; u = u }) ≡ b → All (λ i. has_in i f es ≡ true) (entry_of (record { field = f; u = u }) es).ids
        → All (λ i. has_in i f (e ∷ es) ≡ true) (cond b e (entry_of (record { field = f; u = u }) es)).ids
    go true p k =
        let q : same_field e.pair.field f ≡ true = ap (λ (r : Pair). same_field r.field f) (same_pair-true e.pair (record { field = f; u = u }) p) ∙ same_field_refl f in
        Rattle.table.proofs.Counting.all_map (λ i h. rw (q, h) refl) e.ids (any_own e.ids e.ids (λ i h. h))
    go false p k = Rattle.table.proofs.Counting.all_map (λ i h. rw h (or-true (same_field e.pair.field f && any_of (same i) e.ids))) (entry_of (record { field = f; u = u }) es).ids k

pub has_own : (z : Bounds) (l : Ledger) (f : Field) → All (λ id. ledger_has z l id f ≡ true) (ledger_ids z l f)
unfolding ledger_ids ledger_lists ledger_has
has_own z l f =
    all_in (λ id. has_in id f l.entries ≡ true) (ledger_lists z l f) []
    (all_flat (λ id. has_in id f l.entries ≡ true) (map (λ u. (entry_of (record { field = f; u = u }) l.entries).ids) (up_to z.p))
    (all_of_map (All (λ id. has_in id f l.entries ≡ true)) (λ u. (entry_of (record { field = f; u = u }) l.entries).ids) (λ u. has_listed f u l.entries) (up_to z.p)))

module _ (x : Setting) (i : ℕ) (before : List ℕ) (l : Ledger) (hi : i ≤ length x.calls) (s : Sim x i before l) where
  open x use {suite, K, z, calls}

  abbrev Named : Field → Type 0
  Named f = Memᴰ f (flat (map fields_of calls))

  has_is : (f : Field) → field_lengths_bad f ≡ false → Named f → (id : List ℕ) → tests suite ((cut before).table table_r) (RL suite K f) id ≡ ledger_has (bounds_of z) l id f
  unfolding ledger_has
  has_is f valid named id =
      rw (cut_is x i before l hi s)
      (tests_is x (s.st.table table_r) _ l.entries s.marks f (record { named = named; valid = valid; shared = omega arith }) id)

  -- ---- test

  module _ (key : List ℕ) (f : Field) (id : List ℕ) (keyed : (key ≡ K) ⊎ (length key ≡ 32 → ⊥)) (named : Named f) where
    abbrev call : Call
    call = Call.test key f id

    test_verdict_lem : test_verdict suite before id (mark_token suite K f) ≡ verdict (id_tests id)
    unfolding test_verdict token_tests mark_token
    test_verdict_lem =
        verdict-append (id_tests id) (token_tests mark_token_length (RL suite K f) ++ state_tests before)
        ∙ ap (or_else (verdict (id_tests id)))
        (rw (length_refused mark_token_length (RL suite K f) (RL-length suite K f)) (ap verdict (sym (append-nil (state_tests before))) ∙ states_pass x i before l hi s []))
        ∙ or_none (verdict (id_tests id))

    test_result : Made x i before l hi s key f → Test.test suite before id (mark_token suite K f)
        ≡ record { answer = answer_or (verdict (id_tests id)) (done (cond (ledger_has (bounds_of z) l id f) 1 0 ∷ [])); store = before; output = [] }
    unfolding Test.test mark_token
    test_result m = rw (test_verdict_lem, has_is f m.valid named id) refl

    pub test_step : After x i call l (told_by call (test_call suite before key f id)) (test_call suite before key f id).store
    unfolding ledger_step test_call
    test_step = go (verdict (field_token_tests key f)) refl
      where
        go : (o : Option Answer) → verdict (field_token_tests key f) ≡ o
            → After x i call l (told_by call (test_call suite before key f id)) (test_call suite before key f id).store
        go none e =
            let m = field_made x i before l hi s key f keyed e in
            let v : verdict (field_token_tests key f ++ id_tests id) ≡ verdict (id_tests id) = verdict-append (field_token_tests key f) (id_tests id) ∙ rw e refl in
            record { told_is = rw (v, e, m.key_is, test_result m) refl; sim = rw (e, m.key_is, test_result m) (later x i before l hi s) }
        go (some r) e =
            let v : verdict (field_token_tests key f ++ id_tests id) ≡ some r = verdict-append (field_token_tests key f) (id_tests id) ∙ rw e refl in
            record { told_is = rw (e, v) refl; sim = rw e (later x i before l hi s) }

  -- ---- joint find

  abbrev T : Part → List ℕ
  T q = part_token suite K q.field

  abbrev L : List Part → List (List ℕ)
  L parts = map T parts

  -- a part's find, count and test are the ledger's, and no share of it is damaged
  pub record PartIs (q : Part) : Type 0 where
    pub sound : part_damaged suite before (T q) ≡ false
    pub sum : part_sum suite before (T q) ≡ ledger_sum (bounds_of z) l q.field
    pub ids : part_ids suite before (T q) ≡ ledger_ids (bounds_of z) l q.field
    pub has : (id : List ℕ) → part_test suite before id (T q) ≡ ledger_has (bounds_of z) l id q.field

  part_is : (q : Part) → field_lengths_bad q.field ≡ false → Named q.field → PartIs q
  unfolding part_damaged part_sum part_ids part_test
  part_is q valid named =
      let f : Field = q.field in
      let c : find_cl (part_find (T q)) ≡ field_cl suite K f = ap find_cl (part_find_lem suite K f) ∙ token-CL x i before l hi s f valid named in
      record {
        sound = rw c (none_damaged x i before l hi s f valid named);
        sum = rw c (sum_is x i before l hi s f valid named);
        ids = rw (part_find_lem suite K f) (found_is x i before l hi s f valid named []);
        has = λ id. rw (part_rl_lem suite K f) (has_is f valid named id);
      }

  -- where no making is refused, the tokens are those of K
  pub record PartsMade (parts : List Part) : Type 0 where
    pub tokens : map (part_of suite) parts ≡ L parts
    pub each : All PartIs parts

  parts_made : (parts : List Part) → All (PartFits K) parts → ((f : Field) → Memᴰ f (fields parts) → Named f) → verdict (flat (map part_token_tests parts)) ≡ none → PartsMade parts
  parts_made [] k n e = record { tokens = refl; each = tt }
  parts_made (q ∷ qs) k n e =
      let b = both_none (verdict (part_token_tests q)) (verdict (flat (map part_token_tests qs))) (sym (verdict-append (part_token_tests q) (flat (map part_token_tests qs))) ∙ e) in
      let m = field_made x i before l hi s q.key q.field k.0 b.0 in
      let r = parts_made qs k.1 (λ f h. n f (Memᴰ.tail h)) b.1 in
      record {
        tokens = ap₂ (λ (a : List ℕ) (b : List (List ℕ)). a ∷ b) (ap (λ (key : List ℕ). part_token suite key q.field) m.key_is) r.tokens;
        each = (part_is q m.valid (n q.field (Memᴰ.head refl)), r.each);
      }

  -- the bytes of the parts are as many parts of 128 bytes
  wide : (parts : List Part) → All (λ r. length r ≡ 128) (L parts)
  wide parts = all_of_map (λ r. length r ≡ 128) T (λ q. part_length suite K q.field) parts

  bytes_length : (parts : List Part) → length (flat (L parts)) ≡ 128 * length parts
  bytes_length parts = flat-length 128 (L parts) (wide parts) ∙ ap (λ (n : ℕ). 128 * n) (length-map parts T)

  count_is : (parts : List Part) → part_count (flat (L parts)) ≡ length parts
  count_is parts = let e = bytes_length parts in omega arith

  parts_are : (parts : List Part) → parts_in (flat (L parts)) ≡ L parts
  parts_are parts =
      ap₂ (λ (n : ℕ) (b : List ℕ). rows 128 n b) (count_is parts ∙ sym (length-map parts T)) (sym (append-nil (flat (L parts))))
      ∙ rows-flat 128 (L parts) [] (wide parts)

  abbrev number : List Part → List Test
  number parts = (ltb (length parts) 1 || ltb 8 (length parts) ⇒ 6) ∷ []

  tests_are : (parts : List Part) → part_tests (flat (L parts)) ≡ number parts
  unfolding part_tests
  tests_are parts =
      let e = bytes_length parts in
      let w : length (flat (L parts)) % 128 ≡ 0 = omega arith in
      rw (eq-eqb (length (flat (L parts)) % 128) 0 w, count_is parts) refl

  none_sound : (parts : List Part) → All PartIs parts → any_of (part_damaged suite before) (L parts) ≡ false
  none_sound [] a = refl
  none_sound (q ∷ qs) a = rw (a.0.sound, none_sound qs a.1) refl

  sums_are : (parts : List Part) → All PartIs parts → map (part_sum suite before) (L parts) ≡ sums (bounds_of z) l parts
  sums_are [] a = refl
  sums_are (q ∷ qs) a = rw (a.0.sum, sums_are qs a.1) refl

  has_all : (id : List ℕ) (parts : List Part) → All PartIs parts → All (λ q. part_test suite before id (T q) ≡ ledger_has (bounds_of z) l id q.field) parts
  has_all id parts a = Rattle.table.proofs.Counting.all_map (λ q h. h.has id) parts a

  -- the ids of a part for which every part but the one at a place tests yes
  abbrev kept_at : List (List ℕ) → ℕ → List ℕ → List (List ℕ)
  kept_at ps n part = select (λ id. all_of (part_test suite before id) (without n ps)) (part_ids suite before part)

  abbrev kept_of : List (List ℕ) → List (List ℕ)
  kept_of ps = kept_at ps (least_at (map (part_sum suite before) ps)) (get_or ps (least_at (map (part_sum suite before) ps)) [])

  -- the ids kept are the ledger's
  kept_are : (q : Part) (qs : List Part) → All PartIs (q ∷ qs) → ids_kept suite before (flat (L (q ∷ qs))) ≡ ledger_joint_ids (bounds_of z) l (fields (q ∷ qs))
  unfolding ids_kept chosen_part chosen_at
  kept_are q qs a =
      let c = chosen (bounds_of z) l T q qs in
      let d = all_at PartIs (q ∷ qs) a c.part c.among in
      let n : ℕ = least_at (sums (bounds_of z) l (q ∷ qs)) in
      ap kept_of (parts_are (q ∷ qs))
      ∙ ap (λ (k : ℕ). kept_at (L (q ∷ qs)) k (get_or (L (q ∷ qs)) k [])) (ap least_at (sums_are (q ∷ qs) a))
      ∙ ap (kept_at (L (q ∷ qs)) n) c.at
      ∙ ap (select (λ id. all_of (part_test suite before id) (without n (L (q ∷ qs))))) d.ids
      ∙ select_agree (λ id. ledger_has (bounds_of z) l id c.part.field ≡ true)
      (λ id. all_of (part_test suite before id) (without n (L (q ∷ qs))))
      (λ id. all_of (ledger_has (bounds_of z) l id) (fields (q ∷ qs)))
      (λ id h. c.others (part_test suite before id) (ledger_has (bounds_of z) l id) (has_all id (q ∷ qs) a) h)
      (ledger_ids (bounds_of z) l c.part.field) (has_own (bounds_of z) l c.part.field)
      ∙ ap (λ (f : Field). select (λ id. all_of (ledger_has (bounds_of z) l id) (fields (q ∷ qs))) (ledger_ids (bounds_of z) l f)) c.field_is

  module _ (output : List ℕ) where
    abbrev found : List Part → List (List ℕ)
    found parts = ledger_joint_ids (bounds_of z) l (fields parts)

    abbrev room : List Part → List Test
    room parts = (ltb (length output) (16 * length (found parts)) ⇒ 18 carrying (length (found parts) ∷ [])) ∷ []

    -- 6 by the number of parts, then 18 by the ids kept
    abbrev refusal : List Part → Option Answer
    refusal parts = or_else (verdict (number parts)) (verdict (room parts))

    joint_verdict_lem : (q : Part) (qs : List Part) → All PartIs (q ∷ qs) → joint_verdict suite before (flat (L (q ∷ qs))) output ≡ refusal (q ∷ qs)
    unfolding joint_verdict
    joint_verdict_lem q qs a =
        verdict-append (part_tests (flat (L (q ∷ qs)))) _
        ∙ ap₂ or_else (ap verdict (tests_are (q ∷ qs))) (states_pass x i before l hi s _ ∙ rw (parts_are (q ∷ qs), none_sound (q ∷ qs) a, kept_are q qs a) refl)

    abbrev result : List Part → Result
    result parts = record {
      answer = answer_or (refusal parts) (done (length (found parts) ∷ []));
      store = before;
      output = unless_refused (refusal parts) (flat (found parts) ++ drop (16 * length (found parts)) output) output;
    }

    joint_result : (parts : List Part) → All PartIs parts → JointFind.joint_find suite before (flat (L parts)) output ≡ result parts
    unfolding JointFind.joint_find
    joint_result [] a = unfold joint_verdict part_tests in refl
    joint_result (q ∷ qs) a = rw (joint_verdict_lem q qs a, kept_are q qs a) refl

    ledger_joint : (parts : List Part) → ledger_joint_verdict (bounds_of z) l parts output ≡ or_else (verdict (flat (map part_token_tests parts))) (refusal parts)
    unfolding ledger_joint_verdict
    ledger_joint parts = verdict-append (flat (map part_token_tests parts)) (number parts ++ room parts) ∙ ap (or_else (verdict (flat (map part_token_tests parts)))) (verdict-append (number parts) (room parts))

    module _ (parts : List Part) (keyed : All (PartFits K) parts) (named : (f : Field) → Memᴰ f (fields parts) → Named f) where
      abbrev joint : Call
      joint = Call.joint_find parts output

      pub joint_step : After x i joint l (told_by joint (joint_call suite before parts output)) (joint_call suite before parts output).store
      unfolding ledger_step joint_call
      joint_step = go (verdict (flat (map part_token_tests parts))) refl
        where
          go : (o : Option Answer) → verdict (flat (map part_token_tests parts)) ≡ o
              → After x i joint l (told_by joint (joint_call suite before parts output)) (joint_call suite before parts output).store
          go none e =
              let m = parts_made parts keyed named e in
              let v : ledger_joint_verdict (bounds_of z) l parts output ≡ refusal parts = ledger_joint parts ∙ rw e refl in
              let c : joint_call suite before parts output ≡ result parts = unfold joint_call in rw (e, m.tokens) (joint_result parts m.each) in
              record { told_is = rw (c, v) refl; sim = rw c (later x i before l hi s) }
          go (some r) e =
              let v : ledger_joint_verdict (bounds_of z) l parts output ≡ some r = ledger_joint parts ∙ rw e refl in
              record { told_is = rw (e, v) refl; sim = rw e (later x i before l hi s) }
