-- Document 01, "The ledger". It is fed raw arguments alone, never an answer or a byte of the store [01:LG3], and shares with
-- the store's side bytes, fields, answers and the conditions 1 to 6.
use Rattle.std.specs.Prelude.{ℕ, ◌+◌, ◌*◌, ◌/◌, Bool, cond, not, ◌&&◌, ◌||◌, List, [], ◌∷◌, ◌++◌, map, ltb, eqb, length, drop, replicate}
use Rattle.std.proofs.Math.Option.{Option, none, some}
use Rattle.table.specs.Lists.{same, select, count, any_of, all_of, flat, sum, up_to}
use Rattle.answer.specs.Answer.{Answer, done}
use Rattle.scheme.specs.Labels.{Field, same_field}
use Rattle.scheme.specs.Refusals.{id_count, ids_in, insert_token_tests, field_token_tests, key_tests, insert_input_tests, id_tests, compaction_input_tests}
use Rattle.answer.specs.Verdict.{◌⇒◌, ◌⇒◌carrying◌, verdict, answer_or, unless_refused}
use Rattle.scheme.specs.Call.{Call, Part, Told}

-- a field with its value, and a share [01:LG1]
pub record Pair : Type 0 where
  pub field : Field
  pub u : ℕ

unfoldable pub same_pair : Pair → Pair → Bool
same_pair a b = same_field a.field b.field && eqb a.u b.u

-- a pair's list of ids and its number made [01:LG1]
pub record Entry : Type 0 where
  pub pair : Pair
  pub ids : List (List ℕ)
  pub made : ℕ

-- the pairs' entries; W, accepted inserts since the last compaction; T, the pairs they touched; A, anchors [01:LG1]
pub record Ledger : Type 0 where
  pub entries : List Entry
  pub W : ℕ
  pub T : List Pair
  pub A : ℕ

-- p, m, c, s, r of the store [01:LG4] [02:W4.29]
pub record Bounds : Type 0 where
  pub p : ℕ
  pub m : ℕ
  pub c : ℕ
  pub s : ℕ
  pub r : ℕ

-- all begin empty or 0 [01:LG2]
unfoldable pub empty : Ledger
empty = record { entries = []; W = 0; T = []; A = 0 }

-- a pair's entry, empty and 0 where it has none
abbrev pub entry_of : Pair → List Entry → Entry
entry_of pr [] = record { pair = pr; ids = []; made = 0 }
entry_of pr (e ∷ es) = cond (same_pair e.pair pr) e (entry_of pr es)

-- the entries with a pair's entry set
abbrev pub with_entry : Entry → List Entry → List Entry
with_entry e [] = e ∷ []
with_entry e (x ∷ xs) = cond (same_pair x.pair e.pair) (e ∷ xs) (x ∷ with_entry e xs)

-- all ids in lists; H is their number [01:LG1]
abbrev pub listed : List Entry → List (List ℕ)
listed es = flat (map (λ e. e.ids) es)

unfoldable pub H : Ledger → ℕ
H l = length (listed l.entries)

-- an entry with an id removed from its list
unfoldable pub removed : List ℕ → Entry → Entry
removed id e = record { pair = e.pair; ids = select (λ x. not (same x id)) e.ids; made = e.made }

-- the ids of a list at their first places, where some were seen before it
abbrev pub unseen : List (List ℕ) → List (List ℕ) → List (List ℕ)
unseen seen [] = []
unseen seen (x ∷ xs) = cond (any_of (same x) seen) (unseen seen xs) (x ∷ unseen (x ∷ seen) xs)

-- the set with a pair put in
unfoldable pub with_pair : Pair → List Pair → List Pair
with_pair pr T = cond (any_of (same_pair pr) T) T (pr ∷ T)

-- what a call tells, and the ledger after it; a refused call leaves the ledger as it was [01:LG5]
pub record Outcome : Type 0 where
  pub told : Told
  pub next : Ledger

module _ (z : Bounds) (l : Ledger) where
  -- insert of j ids [01:LG4 LG7] [02:W4.29 W4.30]
  unfoldable pub ledger_insert_verdict : List ℕ → Field → ℕ → ℕ → List ℕ → List ℕ → List ℕ → Option Answer
  ledger_insert_verdict key f p u nonce ids nonces = verdict (insert_token_tests key f p u nonce ++ (insert_input_tests ids nonces ++
      ((not (eqb p z.p) ⇒ 12)
      ∷ (ltb 4294967295 ((entry_of (record { field = f; u = u }) l.entries).made + id_count ids) ⇒ 14)
      ∷ (ltb z.m (H l + id_count ids) ⇒ 15)
      ∷ (ltb z.c (l.A + l.W + 1) ⇒ 16)
      ∷ (ltb z.s (l.W + 1) ⇒ 17)
      ∷ (ltb z.r (H l + id_count ids) ⇒ 21)
      ∷ [])))

  -- append, made grows by j, H by j, W by 1, pair into T [01:LG8]
  unfoldable pub appended : Field → ℕ → List ℕ → Entry
  appended f u ids = record {
    pair = record { field = f; u = u };
    ids = (entry_of (record { field = f; u = u }) l.entries).ids ++ ids_in ids;
    made = (entry_of (record { field = f; u = u }) l.entries).made + id_count ids;
  }

  unfoldable pub after_insert : Field → ℕ → List ℕ → Ledger
  after_insert f u ids = record {
    entries = with_entry (appended f u ids) l.entries;
    W = l.W + 1;
    T = with_pair (record { field = f; u = u }) l.T;
    A = l.A;
  }

  -- erase: removes the id from all lists; answer the number removed, repeats counted [01:LG9] [02:W1.6]
  unfoldable pub after_erase : List ℕ → Ledger
  after_erase id = record { entries = map (removed id) l.entries; W = l.W; T = l.T; A = l.A }

  -- find: lists for u = 0 to p joined, without later repeats [01:LG10] [02:W1.5]; count: sum of made [01:LG11] [02:W1.4]
  unfoldable pub ledger_lists : Field → List (List ℕ)
  ledger_lists f = flat (map (λ u. (entry_of (record { field = f; u = u }) l.entries).ids) (up_to z.p))

  unfoldable pub ledger_ids : Field → List (List ℕ)
  ledger_ids f = unseen [] (ledger_lists f)

  unfoldable pub ledger_sum : Field → ℕ
  ledger_sum f = sum (map (λ u. (entry_of (record { field = f; u = u }) l.entries).made) (up_to z.p))

  -- 18 by the different ids [01:LG10] [02:W1.3]
  unfoldable pub ledger_find_verdict : List ℕ → Field → List ℕ → Option Answer
  ledger_find_verdict key f output = verdict (field_token_tests key f ++
      ((ltb (length output) (16 * length (ledger_ids f)) ⇒ 18 carrying (length (ledger_ids f) ∷ [])) ∷ []))

  -- test: whether the id is in a list of the field and value, in whatever share [02:W4.17 W4.26]
  unfoldable pub ledger_has : List ℕ → Field → Bool
  ledger_has id f = any_of (λ e. same_field e.pair.field f && any_of (same id) e.ids) l.entries

  -- joint find: of the fields, the one with the least number made, the earlier on a tie; its ids that all fields have, in the order of
  -- its find [02:W4.19 W4.20 W4.26]
  abbrev pub least_made : Field → List Field → Field
  least_made f [] = f
  least_made f (g ∷ gs) = least_made (cond (ltb (ledger_sum g) (ledger_sum f)) g f) gs

  abbrev pub ledger_joint_ids : List Field → List (List ℕ)
  ledger_joint_ids [] = []
  ledger_joint_ids (f ∷ fs) = select (λ id. all_of (ledger_has id) (f ∷ fs)) (ledger_ids (least_made f fs))

  -- the parts made in order, then 6 by their number, then 18 by the ids kept [02:W4.18 W4.23 W4.24 W4.25]
  unfoldable pub ledger_joint_verdict : List Part → List ℕ → Option Answer
  ledger_joint_verdict parts output = verdict (flat (map (λ (q : Part). field_token_tests q.key q.field) parts) ++
      ((ltb (length parts) 1 || ltb 8 (length parts) ⇒ 6)
      ∷ (ltb (length output) (16 * length (ledger_joint_ids (map (λ (q : Part). q.field) parts)))
      ⇒ 18 carrying (length (ledger_joint_ids (map (λ (q : Part). q.field) parts)) ∷ []))
      ∷ []))

  -- compaction: 19 if fewer than W nonces; A grows by |T|, W is 0, T empty [01:LG12]
  unfoldable pub ledger_compact_verdict : List ℕ → List ℕ → Option Answer
  ledger_compact_verdict key nonces = verdict (key_tests key ++ (compaction_input_tests nonces ++ ((ltb (length nonces / 12) l.W ⇒ 19) ∷ [])))

  unfoldable pub after_compaction : Ledger
  after_compaction = record { entries = l.entries; W = 0; T = []; A = l.A + length l.T }

  abbrev pub next_or : Option Answer → Ledger → Ledger
  next_or none next = next
  next_or (some r) next = l

  -- the ledger's step; it never gives 10, 11, 13 or 20 [01:LG5 LG6] [02:W2.10 W2.11]
  unfoldable pub ledger_step : Call → Outcome
  ledger_step (Call.insert key f p u nonce ids nonces) = record {
    told = record {
      answer = answer_or (ledger_insert_verdict key f p u nonce ids nonces) (done ((appended f u ids).made ∷ []));
      output = [];
    };
    next = next_or (ledger_insert_verdict key f p u nonce ids nonces) (after_insert f u ids);
  }
  ledger_step (Call.erase id) = record {
    told = record { answer = answer_or (verdict (id_tests id)) (done (count (λ x. same x id) (listed l.entries) ∷ [])); output = [] };
    next = next_or (verdict (id_tests id)) (after_erase id);
  }
  ledger_step (Call.find key f output) = record {
    told = record {
      answer = answer_or (ledger_find_verdict key f output) (done (length (ledger_ids f) ∷ []));
      output = unless_refused (ledger_find_verdict key f output) (flat (ledger_ids f) ++ drop (16 * length (ledger_ids f)) output) output;
    };
    next = l;
  }
  ledger_step (Call.count key f) = record {
    told = record { answer = answer_or (verdict (field_token_tests key f)) (done (ledger_sum f ∷ [])); output = [] };
    next = l;
  }
  ledger_step (Call.compact key nonces) = record {
    told = record { answer = answer_or (ledger_compact_verdict key nonces) (done (length l.T ∷ l.W ∷ [])); output = [] };
    next = next_or (ledger_compact_verdict key nonces) after_compaction;
  }
  ledger_step Call.order = record { told = record { answer = done ((3 * H l + l.A + 2 * l.W) ∷ []); output = [] }; next = l }
  -- a ledger has no rows that could fail to go together: seven zeros [check:10]
  ledger_step Call.check = record { told = record { answer = done (replicate 7 0); output = [] }; next = l }
  ledger_step (Call.test key f id) = record {
    told = record { answer = answer_or (verdict (field_token_tests key f ++ id_tests id)) (done (cond (ledger_has id f) 1 0 ∷ [])); output = [] };
    next = l;
  }
  ledger_step (Call.joint_find parts output) = record {
    told = record {
      answer = answer_or (ledger_joint_verdict parts output) (done (length (ledger_joint_ids (map (λ (q : Part). q.field) parts)) ∷ []));
      output = unless_refused (ledger_joint_verdict parts output)
          (flat (ledger_joint_ids (map (λ (q : Part). q.field) parts)) ++ drop (16 * length (ledger_joint_ids (map (λ (q : Part). q.field) parts))) output) output;
    };
    next = l;
  }

-- what the ledger tells of a list of calls [01:LG14]
abbrev pub ledger_tells : Bounds → Ledger → List Call → List Told
ledger_tells z l [] = []
ledger_tells z l (call ∷ calls) = (ledger_step z l call).told ∷ ledger_tells z (ledger_step z l call).next calls

-- the ledger after a list of calls
abbrev pub ledger_after : Bounds → Ledger → List Call → Ledger
ledger_after z l [] = l
ledger_after z l (call ∷ calls) = ledger_after z (ledger_step z l call).next calls
