-- The treatment of the logged CL over table C alone (document 01, "Operations", compaction): CL after CL, in order of first row.
use Rattle.std.specs.Prelude.{ℕ, zero, suc, ◌+◌, ◌*◌, Bool, false, cond, List, [], ◌∷◌, take, drop}
use Rattle.table.specs.Lists.{distinct}
use Rattle.table.specs.Table.{Table}
use Rattle.scheme.specs.Reading.{Reading, reading}
use Rattle.suite.specs.Program.{program}
use Rattle.treatment.specs.Treatment.{done_by, table_by}
use Rattle.answer.specs.declared.Tally.{Tally}
use Rattle.course.specs.Totals.{stops, anchors_in, counters_in}

-- table C, the numbers so far, and whether damage stopped it
pub record Course : Type 0 where
  pub t_c : Table
  pub anchors : ℕ
  pub counters : ℕ
  pub stopped : Bool

-- as the code has it
abbrev pub course_of : Table → Tally → Bool → Course
course_of t x stopped = record { t_c = t; anchors = x.anchors; counters = x.counters; stopped = stopped }

abbrev pub begun : Table → Course
begun t = record { t_c = t; anchors = 0; counters = 0; stopped = false }

-- one CL, by its reading: the nonce of the next anchor stands at 12 times the anchors so far [01:OP11 OP13 RS13]
abbrev pub step_by : List ℕ → List ℕ → Course → Reading → Course
step_by nonces cl s r = record {
  t_c = table_by cl (take 12 (drop (12 * s.anchors) nonces)) s.t_c r;
  anchors = s.anchors + anchors_in (done_by r);
  counters = s.counters + counters_in (done_by r);
  stopped = stops (done_by r);
}

unfoldable pub step_on : ℕ → List ℕ → List ℕ → Course → Course
step_on c nonces cl s = cond s.stopped s (step_by nonces cl s (reading program c cl s.t_c))

abbrev pub course : ℕ → List ℕ → List (List ℕ) → Course → Course
course c nonces [] s = s
course c nonces (cl ∷ cls) s = course c nonces cls (step_on c nonces cl s)

-- after the distinct CL of the first k rows of the log [01:OP10]
unfoldable pub course_to : ℕ → List ℕ → List (List ℕ) → Table → ℕ → Course
course_to c nonces log t k = course c nonces (distinct (take k log)) (begun t)

-- how many of these rows stand before the one that stopped it; all, if none did [01:RS13]
abbrev pub treated_to : ℕ → List ℕ → List (List ℕ) → Table → ℕ → ℕ
treated_to c nonces log t zero = 0
treated_to c nonces log t (suc k) = cond (course_to c nonces log t (suc k)).stopped (treated_to c nonces log t k) (suc k)
