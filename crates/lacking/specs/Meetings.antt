-- How a walk through two tables goes on.
use Rattle.std.specs.Prelude.{ℕ, ◌-◌, Bool, ◌&&◌, cond, List, [], ltb, length, get_or}
use Rattle.std.specs.declared.cmp.Ordering.{Ordering}
use Rattle.std.specs.declared.cmp.Ordering.TheVariants.{Greater}
use Rattle.std.specs.Ordering.{nat_cmp}
use Rattle.std.specs.Cmp.Lexicographic.{slice_cmp}
use Rattle.table.specs.Lists.{same}

-- how text j of a list stands to a text; after it where there is none
unfoldable pub meeting_of : List ℕ → List (List ℕ) → ℕ → Ordering
meeting_of x l j = cond (ltb j (length l)) (slice_cmp nat_cmp (get_or l j []) x) Greater

-- whether the text before text j of a list is this one
unfoldable pub met_before : List ℕ → List (List ℕ) → ℕ → Bool
met_before x l j = ltb 0 j && same x (get_or l (j - 1) [])
