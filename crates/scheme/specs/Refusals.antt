-- Document 01, "Refusals from the input" and "Refusals from the state": ordered lists of conditions with their numbers. The
-- first condition that holds refuses the call. Those from the input serve the store and the ledger alike.
use Rattle.std.specs.Prelude.{ℕ, ◌+◌, ◌*◌, ◌/◌, ◌%◌, Bool, not, ◌||◌, List, [], ◌∷◌, ltb, eqb, length}
use Rattle.table.specs.Table.{rows}
use Rattle.answer.specs.Answer.{Answer}
use Rattle.answer.specs.Verdict.{Test, ◌⇒◌}
use Rattle.scheme.specs.Labels.{Field, field_lengths_bad}

-- what a call answers, the store after it, and the output after it
pub record Result : Type 0 where
  pub answer : Answer
  pub store : List ℕ
  pub output : List ℕ

abbrev pub length_not : ℕ → List ℕ → Bool
length_not n l = not (eqb (length l) n)

-- making an insert token: 1 to 4 [01:RI2 RI3 RI4 RI5]
unfoldable pub insert_token_tests : List ℕ → Field → ℕ → ℕ → List ℕ → List Test
insert_token_tests key f p u nonce =
    (length_not 32 key ⇒ 1) ∷ (field_lengths_bad f ⇒ 2) ∷ (ltb 15 p || ltb p u ⇒ 3) ∷ (length_not 12 nonce ⇒ 4) ∷ []

-- making a find or a count token: 1 and 2 [01:RI2 RI3]
unfoldable pub field_token_tests : List ℕ → Field → List Test
field_token_tests key f = (length_not 32 key ⇒ 1) ∷ (field_lengths_bad f ⇒ 2) ∷ []

-- making a compaction token: 1 [01:RI2]
unfoldable pub key_tests : List ℕ → List Test
key_tests key = (length_not 32 key ⇒ 1) ∷ []

-- how many ids: the id bytes divided by 16, rounded down [01:RI5]
abbrev pub id_count : List ℕ → ℕ
id_count ids = length ids / 16

-- the ids in the id bytes [01:ST7]
abbrev pub ids_in : List ℕ → List (List ℕ)
ids_in ids = rows 16 (id_count ids) ids

-- insert: 4 and 5 [01:RI5 RI6] [02:W4.11]
unfoldable pub insert_input_tests : List ℕ → List ℕ → List Test
insert_input_tests ids nonces =
    (length_not (12 * (2 * id_count ids + 1)) nonces ⇒ 4)
    ∷ (not (eqb (length ids % 16) 0) || (ltb (id_count ids) 1 || ltb 64 (id_count ids)) ⇒ 5)
    ∷ []

-- erase and test: 5 [01:RI6] [02:W4.15]
unfoldable pub id_tests : List ℕ → List Test
id_tests id = (length_not 16 id ⇒ 5) ∷ []

-- compaction: 4 [01:RI5]
unfoldable pub compaction_input_tests : List ℕ → List Test
compaction_input_tests nonces = (not (eqb (length nonces % 12) 0) ⇒ 4) ∷ []

-- a token of another length: 6 [01:RI7]
unfoldable pub token_tests : ℕ → List ℕ → List Test
token_tests n token = (length_not n token ⇒ 6) ∷ []

-- how many parts of 128 bytes, and these
abbrev pub part_count : List ℕ → ℕ
part_count parts = length parts / 128

abbrev pub parts_in : List ℕ → List (List ℕ)
parts_in parts = rows 128 (part_count parts) parts

-- joint find: other than 1 to 8 parts of 128 bytes: 6 [02:W4.18]
unfoldable pub part_tests : List ℕ → List Test
part_tests parts = (not (eqb (length parts % 128) 0) || (ltb (part_count parts) 1 || ltb 8 (part_count parts)) ⇒ 6) ∷ []
