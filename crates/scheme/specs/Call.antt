-- A call of a list, by its raw arguments, and what it tells (document 01, "The ledger", last paragraph).
use Rattle.std.specs.Prelude.{ℕ, List}
use Rattle.answer.specs.Answer.{Answer, without_rows}
use Rattle.scheme.specs.Labels.{Field}

-- what a part of a joint find is made of
pub record Part : Type 0 where
  pub key : List ℕ
  pub field : Field

-- the making of the call's token, where it takes one, then the operation with it [01:LG16]; a joint find's parts are made in order
-- [02:W4.24]
pub data Call : Type 0 where
  insert : (key : List ℕ) (f : Field) (p u : ℕ) (nonce ids nonces : List ℕ) → Call
  erase : (id : List ℕ) → Call
  find : (key : List ℕ) (f : Field) (output : List ℕ) → Call
  count : (key : List ℕ) (f : Field) → Call
  compact : (key nonces : List ℕ) → Call
  order : Call
  check : Call
  test : (key : List ℕ) (f : Field) (id : List ℕ) → Call
  joint_find : (parts : List Part) (output : List ℕ) → Call

-- what is compared of a call's answer: the rows that a count looked at are left out [02:W3.8]
abbrev pub compared : Call → Answer → Answer
compared (Call.insert key f p u nonce ids nonces) a = a
compared (Call.erase id) a = a
compared (Call.find key f output) a = a
compared (Call.count key f) a = without_rows a
compared (Call.compact key nonces) a = a
compared Call.order a = a
compared Call.check a = a
compared (Call.test key f id) a = a
compared (Call.joint_find parts output) a = a

-- the answer, or the refusal's number with what it carries, and a find's whole output slice; no row bytes [01:LG14 LG15]
pub record Told : Type 0 where
  pub answer : Answer
  pub output : List ℕ
