-- A list of calls on a store: each call is the function that its contract states (document 01, "The ledger", last paragraph).
use Rattle.std.specs.Prelude.{ℕ, List, [], ◌∷◌, map}
use Rattle.std.proofs.Math.Option.{Option, none, some}
use Rattle.answer.specs.Answer.{Answer}
use Rattle.scheme.specs.Suite.{Suite}
use Rattle.scheme.specs.Labels.{Field}
use Rattle.scheme.specs.Keys.{insert_token, find_token, count_token, compaction_token, mark_token, part_token}
use Rattle.scheme.specs.Refusals.{Result, insert_token_tests, field_token_tests, key_tests}
use Rattle.answer.specs.Verdict.{Test, verdict}
use Rattle.table.specs.Lists.{flat}
use Rattle.scheme.specs.Insert
use Rattle.scheme.specs.Erase
use Rattle.scheme.specs.Find
use Rattle.scheme.specs.Count
use Rattle.scheme.specs.Compaction
use Rattle.scheme.specs.Order
use Rattle.scheme.specs.Check
use Rattle.scheme.specs.Test
use Rattle.scheme.specs.JointFind
use Rattle.scheme.specs.Call.{Call, Part, Told, compared}

-- a token's making that is refused ends the call and changes nothing
abbrev pub made_or : Option Answer → Result → List ℕ → List ℕ → Result
made_or none result before output = result
made_or (some r) result before output = record { answer = r; store = before; output = output }

-- a part of a joint find as its client makes it, and what refuses the makings: the first that is refused ends the call [02:W4.24 W4.25]
abbrev pub part_of : Suite → Part → List ℕ
part_of suite part = part_token suite part.key part.field

abbrev pub part_token_tests : Part → List Test
part_token_tests part = field_token_tests part.key part.field

module _ (suite : Suite) (before : List ℕ) where
  -- the making of its token, then the operation with it [01:LG16]
  unfoldable pub insert_call : List ℕ → Field → ℕ → ℕ → List ℕ → List ℕ → List ℕ → Result
  insert_call key f p u nonce ids nonces =
      made_or (verdict (insert_token_tests key f p u nonce)) (Insert.insert suite before ids nonces (insert_token suite key f p u nonce)) before []

  unfoldable pub find_call : List ℕ → Field → List ℕ → Result
  find_call key f output =
      made_or (verdict (field_token_tests key f)) (Find.find suite before (find_token suite key f) output) before output

  unfoldable pub count_call : List ℕ → Field → Result
  count_call key f =
      made_or (verdict (field_token_tests key f)) (Count.count suite before (count_token suite key f)) before []

  unfoldable pub compact_call : List ℕ → List ℕ → Result
  compact_call key nonces =
      made_or (verdict (key_tests key)) (Compaction.compact suite before nonces (compaction_token suite key)) before []

  unfoldable pub test_call : List ℕ → Field → List ℕ → Result
  test_call key f id = made_or (verdict (field_token_tests key f)) (Test.test suite before id (mark_token suite key f)) before []

  unfoldable pub joint_call : List Part → List ℕ → Result
  joint_call parts output =
      made_or (verdict (flat (map part_token_tests parts))) (JointFind.joint_find suite before (flat (map (part_of suite) parts)) output) before output

-- one call of the nine on a store: what it answers, the store after it, its output [01:LG20]
abbrev pub perform : Suite → Call → List ℕ → Result
perform suite (Call.insert key f p u nonce ids nonces) before = insert_call suite before key f p u nonce ids nonces
perform suite (Call.erase id) before = Erase.erase before id
perform suite (Call.find key f output) before = find_call suite before key f output
perform suite (Call.count key f) before = count_call suite before key f
perform suite (Call.compact key nonces) before = compact_call suite before key nonces
perform suite Call.order before = Order.order before
perform suite Call.check before = Check.check before
perform suite (Call.test key f id) before = test_call suite before key f id
perform suite (Call.joint_find parts output) before = joint_call suite before parts output

-- what is told of a call's result
abbrev pub told_by : Call → Result → Told
told_by call r = record { answer = compared call r.answer; output = r.output }

-- what a list of calls tells, call after call, and the store after it
abbrev pub store_tells : Suite → List Call → List ℕ → List Told
store_tells suite [] before = []
store_tells suite (call ∷ calls) before = told_by call (perform suite call before) ∷ store_tells suite calls (perform suite call before).store

abbrev pub store_after : Suite → List Call → List ℕ → List ℕ
store_after suite [] before = before
store_after suite (call ∷ calls) before = store_after suite calls (perform suite call before).store
