-- What callers rely on, as consequences of the claim, each for every list of calls under the premise; RowsFixTable and ZerosMean for every store.
use Rattle.std.specs.Prelude.{ℕ, suc, ◌+◌, ◌*◌, ◌≤◌, ◌≡◌, Bool, true, false, not, length, get_or, take, drop, replicate}
use mathlib.Core.List.{List, [], ◌∷◌, ◌++◌, map, Memᴰ}
use Rattle.answer.specs.Answer.{Answer, done, refused}
use Rattle.std.proofs.Math.Option.{none}
use Rattle.answer.specs.Verdict.{verdict}
use Rattle.table.specs.Lists.{same, select, any_of, all_of, flat, All, Same}
use Rattle.table.specs.Table.{used, holds}
use Rattle.table.specs.Order.{used_rows}
use Rattle.scheme.specs.Suite.{Suite}
use Rattle.scheme.specs.Labels.{Field}
use Rattle.scheme.specs.Store.{Sizes, Which, table_m, table_v, table_c, table_r, rows_of, sizes_bad, sizes_of, cut, state_tests, fresh}
use Rattle.scheme.specs.Refusals.{ids_in}
use Rattle.scheme.specs.Erase.{erase}
use Rattle.scheme.specs.Check.{tags_in, reverse_tags, reverse_ids, label_ids, check}
use Rattle.scheme.specs.Call.{Call, Part, Told}
use Rattle.scheme.specs.Run.{store_tells, store_after}
use Rattle.scheme.specs.Premise.{Premise, KeyFits}
use Rattle.scheme.specs.Ledger.{empty, ledger_lists, ledger_after}
use Rattle.scheme.specs.Claim.{bounds_of}

-- a list of calls that ran from a fresh store, and what it told
pub record Ran (suite : Suite) (K : List ℕ) (z : Sizes) (calls : List Call) (told : List Told) : Type 0 where
  pub key_length : length K ≡ 32
  pub sizes : sizes_bad z ≡ false
  pub keys : All (KeyFits K) calls
  pub premise : Premise suite K z.p calls
  pub run : told ≡ store_tells suite calls (fresh z)

-- what the call of an index told
abbrev pub told_at : List Told → ℕ → Told
told_at told i = get_or told i (record { answer = done []; output = [] })

abbrev pub is_done : Answer → Bool
is_done (done l) = true
is_done (refused n l) = false

abbrev pub accepted : Told → Bool
accepted t = is_done t.answer

-- a find told these ids
pub record Finds (t : Told) (lent : List ℕ) (found : List (List ℕ)) : Type 0 where
  pub answer : t.answer ≡ done (length found ∷ [])
  pub output : t.output ≡ flat found ++ drop (16 * length found) lent

pub record FindsId (t : Told) (lent id : List ℕ) : Type 0 where
  pub found : List (List ℕ)
  pub finds : Finds t lent found
  pub has : Memᴰ id found

-- the call does not erase the id
abbrev pub Keeps : List ℕ → Call → Type 0
Keeps id (Call.insert key f p u nonce ids nonces) = Unit {0}
Keeps id (Call.erase other) = other ≡ id → ⊥
Keeps id (Call.find key f output) = Unit {0}
Keeps id (Call.count key f) = Unit {0}
Keeps id (Call.compact key nonces) = Unit {0}
Keeps id Call.order = Unit {0}
Keeps id Call.check = Unit {0}
Keeps id (Call.test key f other) = Unit {0}
Keeps id (Call.joint_find parts output) = Unit {0}

-- (a) no id is lost: one of an accepted insert that no later erase names is in every later accepted find of its field and value
unfoldable pub NoIdLost : Suite → Type 0
NoIdLost suite =
    (K : List ℕ) (z : Sizes) (first second third : List Call) (key key' : List ℕ) (f : Field) (p u : ℕ) (nonce ids nonces output id : List ℕ) (told : List Told)
    → Ran suite K z (first ++ (Call.insert key f p u nonce ids nonces ∷ (second ++ (Call.find key' f output ∷ third)))) told
    → accepted (told_at told (length first)) ≡ true
    → Memᴰ id (ids_in ids)
    → All (Keeps id) second
    → accepted (told_at told (length first + suc (length second))) ≡ true
    → FindsId (told_at told (length first + suc (length second))) output id

-- a find, a count, a test or a joint find
pub data Query : Type 0 where
  finding : (key : List ℕ) (f : Field) (output : List ℕ) → Query
  counting : (key : List ℕ) (f : Field) → Query
  testing : (key : List ℕ) (f : Field) (id : List ℕ) → Query
  joining : (parts : List Part) (output : List ℕ) → Query

abbrev pub call_of : Query → Call
call_of (finding key f output) = Call.find key f output
call_of (counting key f) = Call.count key f
call_of (testing key f id) = Call.test key f id
call_of (joining parts output) = Call.joint_find parts output

-- (b) compaction changes no find, count, test or joint find: right after it they tell what they would have told right before it
unfoldable pub CompactionHidden : Suite → Type 0
CompactionHidden suite =
    (K : List ℕ) (z : Sizes) (first : List Call) (key nonces : List ℕ) (query : Query) (told told' : List Told)
    → Ran suite K z (first ++ (Call.compact key nonces ∷ call_of query ∷ [])) told
    → Ran suite K z (first ++ (call_of query ∷ [])) told'
    → told_at told (length first + 1) ≡ told_at told' (length first)

-- a find before and one after an erase: the same ids in the same order, the erased one taken out
pub record Without (id : List ℕ) (before after : Told) (lent lent' : List ℕ) : Type 0 where
  pub found : List (List ℕ)
  pub finds : Finds before lent found
  pub finds_rest : Finds after lent' (select (λ y. not (same y id)) found)

-- (c) erase takes exactly the named id
unfoldable pub EraseExact : Suite → Type 0
EraseExact suite =
    (K : List ℕ) (z : Sizes) (first : List Call) (id key key' : List ℕ) (f : Field) (output output' : List ℕ) (told told' : List Told)
    → Ran suite K z (first ++ (Call.find key f output ∷ [])) told
    → Ran suite K z (first ++ (Call.erase id ∷ Call.find key' f output' ∷ [])) told'
    → accepted (told_at told (length first)) ≡ true
    → accepted (told_at told' (length first)) ≡ true
    → accepted (told_at told' (length first + 1)) ≡ true
    → Without id (told_at told (length first)) (told_at told' (length first + 1)) output output'

-- the call does not insert the id
abbrev pub BringsNot : List ℕ → Call → Type 0
BringsNot id (Call.insert key f p u nonce ids nonces) = Memᴰ id (ids_in ids) → ⊥
BringsNot id (Call.erase other) = Unit {0}
BringsNot id (Call.find key f output) = Unit {0}
BringsNot id (Call.count key f) = Unit {0}
BringsNot id (Call.compact key nonces) = Unit {0}
BringsNot id Call.order = Unit {0}
BringsNot id Call.check = Unit {0}
BringsNot id (Call.test key f other) = Unit {0}
BringsNot id (Call.joint_find parts output) = Unit {0}

pub record FindsNoId (t : Told) (lent id : List ℕ) : Type 0 where
  pub found : List (List ℕ)
  pub finds : Finds t lent found
  pub lacks : Memᴰ id found → ⊥

-- (c) and no later find has it, of whatever field, until an insert brings it again
unfoldable pub ErasedGone : Suite → Type 0
ErasedGone suite =
    (K : List ℕ) (z : Sizes) (first second third : List Call) (id key : List ℕ) (f : Field) (output : List ℕ) (told : List Told)
    → Ran suite K z (first ++ (Call.erase id ∷ (second ++ (Call.find key f output ∷ third)))) told
    → accepted (told_at told (length first)) ≡ true
    → All (BringsNot id) second
    → accepted (told_at told (length first + suc (length second))) ≡ true
    → FindsNoId (told_at told (length first + suc (length second))) output id

-- none stands twice
abbrev pub NoRepeats : List (List ℕ) → Type 0
NoRepeats [] = Unit {0}
NoRepeats (x ∷ xs) = (Memᴰ x xs → ⊥) × NoRepeats xs

-- a find told each of these ids once, and no other
pub record FindsOnce (t : Told) (lent : List ℕ) (ids : List (List ℕ)) : Type 0 where
  pub found : List (List ℕ)
  pub finds : Finds t lent found
  pub once : NoRepeats found
  pub has : (id : List ℕ) → Memᴰ id ids → Memᴰ id found
  pub no_other : (id : List ℕ) → Memᴰ id found → Memᴰ id ids

-- (e) no find's output has an id twice, and it has every id of the field's lists, and no other [02:W1.1]
unfoldable pub EachIdOnce : Suite → Type 0
EachIdOnce suite =
    (K : List ℕ) (z : Sizes) (first third : List Call) (key : List ℕ) (f : Field) (output : List ℕ) (told : List Told)
    → Ran suite K z (first ++ (Call.find key f output ∷ third)) told
    → accepted (told_at told (length first)) ≡ true
    → FindsOnce (told_at told (length first)) output (ledger_lists (bounds_of z) (ledger_after (bounds_of z) empty first) f)

-- a joint find told the ids that the own find of each field gives in its place, in the order of one of these
pub record FindsJointly (suite : Suite) (K : List ℕ) (z : Sizes) (first : List Call) (parts : List Part) (t : Told) (lent : List ℕ) : Type 0 where
  pub own : Part → List (List ℕ)
  pub each : (q : Part) (output : List ℕ) (told : List Told) → Memᴰ q parts → Ran suite K z (first ++ (Call.find q.key q.field output ∷ [])) told
      → accepted (told_at told (length first)) ≡ true → Finds (told_at told (length first)) output (own q)
  pub chosen : Part
  pub among : Memᴰ chosen parts
  pub finds : Finds t lent (select (λ id. all_of (λ q. any_of (same id) (own q)) parts) (own chosen))

-- (g) a joint find gives exactly the ids that each field's own find gives, in the order of the chosen one [02:W4.26]
unfoldable pub JointIsEach : Suite → Type 0
JointIsEach suite =
    (K : List ℕ) (z : Sizes) (first third : List Call) (parts : List Part) (output : List ℕ) (told : List Told)
    → Ran suite K z (first ++ (Call.joint_find parts output ∷ third)) told
    → accepted (told_at told (length first)) ≡ true
    → FindsJointly suite K z first parts (told_at told (length first)) output

-- a call made by a client
pub record Made : Type 0 where
  pub client : ℕ
  pub call : Call

-- (d) the answers do not depend on which client makes a call
unfoldable pub ClientsAlike : Suite → Type 0
ClientsAlike suite =
    (K : List ℕ) (z : Sizes) (calls calls' : List Made) (told told' : List Told)
    → map (λ (m : Made). m.call) calls ≡ map (λ (m : Made). m.call) calls'
    → Ran suite K z (map (λ (m : Made). m.call) calls) told
    → Ran suite K z (map (λ (m : Made). m.call) calls') told'
    → told ≡ told'

-- (f) each table's rows, repeats counted, fix that table's bytes: in any two stores that 10, 11 and 20 let pass [02:W2.5]
unfoldable pub RowsFixTable : Type 0
RowsFixTable =
    (b b' : List ℕ) (k : Which)
    → verdict (state_tests b) ≡ none
    → verdict (state_tests b') ≡ none
    → rows_of (sizes_of b) k ≡ rows_of (sizes_of b') k
    → Same (used_rows ((cut b).table k)) (used_rows ((cut b').table k))
    → (cut b).table k ≡ (cut b').table k

-- (f) so two histories that leave the same rows leave the same bytes, whatever calls, keys and nonces they had [02:W2.5]
unfoldable pub RowsFixStore : Suite → Type 0
RowsFixStore suite =
    (K K' : List ℕ) (z : Sizes) (calls calls' : List Call) (told told' : List Told)
    → Ran suite K z calls told
    → Ran suite K' z calls' told'
    → ((k : Which) → Same (used_rows ((cut (store_after suite calls (fresh z))).table k)) (used_rows ((cut (store_after suite calls' (fresh z))).table k)))
    → store_after suite calls (fresh z) ≡ store_after suite calls' (fresh z)

-- (h) after every list of calls a check is not refused, and its seven numbers are 0 [check:10]
unfoldable pub NoFaults : Suite → Type 0
NoFaults suite =
    (K : List ℕ) (z : Sizes) (calls : List Call) (told : List Told)
    → Ran suite K z calls told
    → (check (store_after suite calls (fresh z))).answer ≡ done (replicate 7 0)

-- an entry, a row of M without its mark, can be erased: a row of V has its tag under an id, and an erase of that id is done, frees that row
-- and leaves no row of M with the tag
pub record Erasable (before entry : List ℕ) : Type 0 where
  pub id : List ℕ
  pub id_length : length id ≡ 16
  pub reverse : Memᴰ (id ++ take 32 entry) (used ((cut before).table table_v))
  pub freed : ℕ
  pub answer : (erase before id).answer ≡ done (freed ∷ [])
  pub frees : 1 ≤ freed
  pub gone : holds (take 32 entry) ((cut (erase before id).store).table table_m) ≡ false

-- the rows of a store go together: no two entries share an address's tag, nor two rows of C a tag; each entry can be erased by its id, and
-- each row of V leads to an entry; V and R have the same ids, and R no more rows than V
pub record GoTogether (before : List ℕ) : Type 0 where
  pub entries : NoRepeats (tags_in ((cut before).table table_m))
  pub counters : NoRepeats (tags_in ((cut before).table table_c))
  pub erasable : (entry : List ℕ) → Memᴰ entry (used ((cut before).table table_m)) → Erasable before entry
  pub leads : (tag : List ℕ) → Memᴰ tag (reverse_tags ((cut before).table table_v)) → Memᴰ tag (tags_in ((cut before).table table_m))
  pub labelled : (id : List ℕ) → Memᴰ id (reverse_ids ((cut before).table table_v)) → Memᴰ id (label_ids ((cut before).table table_r))
  pub reversed : (id : List ℕ) → Memᴰ id (label_ids ((cut before).table table_r)) → Memᴰ id (reverse_ids ((cut before).table table_v))
  pub excess : length (used ((cut before).table table_r)) ≤ length (used ((cut before).table table_v))

-- (h) seven zeros mean that the rows go together, in every store, whatever left its bytes [check:11]
unfoldable pub ZerosMean : Type 0
ZerosMean = (before : List ℕ) → (check before).answer ≡ done (replicate 7 0) → GoTogether before
