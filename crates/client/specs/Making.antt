-- What the making of a token answers and writes (document 01, "Keys and tokens"): refused by the conditions 1 to 4 that apply to
-- it, with the token's array left as lent; otherwise the token.
use Rattle.std.specs.Prelude.{List, [], ℕ}
use Rattle.answer.specs.Answer.{Answer, done}
use Rattle.answer.specs.Verdict.{Test, verdict, answer_or, unless_refused}
pub use Rattle.labels.specs.Field.{field_of}

abbrev pub making_answer : List Test → Answer
making_answer tests = answer_or (verdict tests) (done [])

abbrev pub making_token : List Test → List ℕ → List ℕ → List ℕ
making_token tests token lent = unless_refused (verdict tests) token lent
