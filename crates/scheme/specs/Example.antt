-- What an example states: what the definitions give, beside what documents 01 and 02 say. The right side is written down from the documents
-- and is never what the definitions gave.
use Rattle.std.specs.Prelude.{ℕ, zero, suc, ◌≡◌, List, [], ◌∷◌, map, replicate}
use Rattle.answer.specs.Answer.{Answer, done, refused}
use Rattle.scheme.specs.Suite.{Suite}
use Rattle.scheme.specs.Labels.{Field}
use Rattle.scheme.specs.Call.{Told}

infix 10 ◌is◌ ◌gives◌ ◌yields◌ ◌tells◌
-- bytes that are these bytes
pub data Equation : Type 0 where
  ◌is◌ : List ℕ → List ℕ → Equation

-- a call or the making of a token that gives this answer
pub data Case : Type 0 where
  ◌gives◌ : Answer → Answer → Case

-- a label, what calls tell, bytes, bytes for every suite and any four byte lists, answers
pub data Example : Type 0 where
  ◌yields◌ : List ℕ → List ℕ → Example
  ◌tells◌ : List Told → List Told → Example
  bytes : List Equation → Example
  every : (Suite → List ℕ → List ℕ → List ℕ → List ℕ → List Equation) → Example
  cases : List Case → Example

abbrev pub left_bytes : Equation → List ℕ
left_bytes (a is b) = a

abbrev pub right_bytes : Equation → List ℕ
right_bytes (a is b) = b

abbrev pub left_answer : Case → Answer
left_answer (a gives b) = a

abbrev pub right_answer : Case → Answer
right_answer (a gives b) = b

abbrev pub Holds : Example → Type 0
Holds (a yields b) = a ≡ b
Holds (a tells b) = a ≡ b
Holds (bytes es) = map left_bytes es ≡ map right_bytes es
Holds (every es) = (suite : Suite) (k l nonce id : List ℕ) → map left_bytes (es suite k l nonce id) ≡ map right_bytes (es suite k l nonce id)
Holds (cases cs) = map left_answer cs ≡ map right_answer cs

-- ---- what examples are written with

abbrev pub field_of : List ℕ → List ℕ → Field
field_of name value = record { name = name; value = value }

abbrev pub zeros : ℕ → List ℕ
zeros n = replicate n 0

-- n bytes from a on, so that each byte tells its place
abbrev pub places : ℕ → ℕ → List ℕ
places a zero = []
places a (suc n) = a ∷ places (suc a) n

-- the 8 bytes of a number below 256
abbrev pub eight : ℕ → List ℕ
eight n = 0 ∷ 0 ∷ 0 ∷ 0 ∷ 0 ∷ 0 ∷ 0 ∷ n ∷ []

-- an answer with no value, with one; a refusal that carries nothing
abbrev pub accepted : Answer
accepted = done []

abbrev pub number : ℕ → Answer
number n = done (n ∷ [])

abbrev pub by : ℕ → Answer
by n = refused n []
