-- The parts of a joint find in a list of calls (document 02, "Find by several fields"), given as one text and the places where its pieces end:
-- each part's key, name and value, one after the other.
use Rattle.std.specs.Prelude.{ℕ, zero, suc, ◌+◌, ◌*◌, ◌-◌, ◌/◌, cond, List, [], ◌∷◌, ◌++◌, map, ltb, length, get_or, take, drop, replicate}
use Rattle.answer.specs.Verdict.{Test, verdict, unless_refused}
use Rattle.octets.specs.Part.{written}
use Rattle.table.specs.Lists.{flat}
use Rattle.scheme.specs.Call.{Part}
use Rattle.scheme.specs.Run.{part_of, part_token_tests}
use Rattle.suite.specs.Program.{program}
use Rattle.client.specs.Making.{field_of}

-- where piece j begins: at 0, or where the one before it ends
unfoldable pub edge : List ℕ → ℕ → ℕ
edge ends j = get_or (0 ∷ ends) j 0

-- the bytes of a text from a place to another, as far as it goes
unfoldable pub piece : List ℕ → ℕ → ℕ → List ℕ
piece text a e = take (e - a) (drop a text)

-- the part of number i [02:W4.24]
abbrev pub part_at : List ℕ → List ℕ → ℕ → Part
part_at text ends i = record {
  key = piece text (edge ends (3 * i)) (edge ends (3 * i + 1));
  field = field_of (piece text (edge ends (3 * i + 1)) (edge ends (3 * i + 2))) (piece text (edge ends (3 * i + 2)) (edge ends (3 * i + 3)));
}

-- the first n parts, in order, and all of them
unfoldable pub parts_to : List ℕ → List ℕ → ℕ → List Part
parts_to text ends zero = []
parts_to text ends (suc n) = parts_to text ends n ++ (part_at text ends n ∷ [])

abbrev pub parts_of : List ℕ → List ℕ → List Part
parts_of text ends = parts_to text ends (length ends / 3)

-- what refuses their makings, in order [02:W4.24 W4.25]
abbrev pub parts_tests : List Part → List Test
parts_tests parts = flat (map part_token_tests parts)

-- the parts that are made, one after the other
abbrev pub parts_bytes : List Part → List ℕ
parts_bytes parts = flat (map (part_of program) parts)

-- a slice of 1,024 bytes with the part of number i, if that is one of the first 8
unfoldable pub placed : List ℕ → ℕ → List ℕ → List ℕ
placed to i part = cond (ltb i 8) (written to (128 * i) part) to

-- the first 8 parts in a slice of 1,024 bytes; zeros where a making is refused
unfoldable pub kept_parts : List Part → List ℕ → List ℕ
kept_parts parts lent = unless_refused (verdict (parts_tests parts)) (written lent 0 (take 1024 (parts_bytes parts))) (replicate 1024 0)
