-- The parts that a find's words name.
use Rattle.std.specs.Prelude.{ℕ, zero, suc, ◌+◌, ◌*◌, List, [], ◌∷◌, map, replicate}
use Rattle.answer.specs.Verdict.{Test, verdict, unless_refused}
use Rattle.table.specs.Lists.{flat}
use Rattle.scheme.specs.Call.{Part}
use Rattle.scheme.specs.Run.{part_of, part_token_tests}
use Rattle.suite.specs.Program.{program}
use Rattle.client.specs.Making.{field_of}
use Rattle.words.specs.Line.{word_at}

-- pair i after find STORE KEYFILE: FIELD and VALUE [02:W4.24]
abbrev pub part_at : List ℕ → List ℕ → ℕ → Part
part_at line key i = record { key = key; field = field_of (word_at (3 + 2 * i) line) (word_at (4 + 2 * i) line) }

-- n pairs from pair i on, all with one key
unfoldable pub parts_from : List ℕ → List ℕ → ℕ → ℕ → List Part
parts_from line key i zero = []
parts_from line key i (suc n) = part_at line key i ∷ parts_from line key (i + 1) n

abbrev pub parts_of : List ℕ → List ℕ → ℕ → List Part
parts_of line key n = parts_from line key 0 n

-- what refuses their makings, in order, and the parts that are made, one after the other [02:W4.24 W4.25]
abbrev pub parts_tests : List Part → List Test
parts_tests parts = flat (map part_token_tests parts)

abbrev pub parts_bytes : List Part → List ℕ
parts_bytes parts = flat (map (part_of program) parts)

-- n parts that are made; zeros where a making is refused
unfoldable pub made_parts : List Part → ℕ → List ℕ
made_parts parts n = unless_refused (verdict (parts_tests parts)) (parts_bytes parts) (replicate (128 * n) 0)
