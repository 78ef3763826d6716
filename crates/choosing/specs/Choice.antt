-- The part of a joint find that counts least (document 02, "Find by several fields"): chosen part after part. The laws in proofs/Least.antt
-- say that it is the scheme's.
use Rattle.std.specs.Prelude.{ℕ, zero, suc, cond, Option, Some, None, Result, Ok, Err, List, [], ltb, get_or}
use Rattle.scheme.specs.Keys.{find_cl, part_find}
use Rattle.scheme.specs.Find.{share_reading}
use Rattle.suite.specs.Program.{program}
use Rattle.find.specs.declared.Counts.{Counts}
use Rattle.find.specs.Counts.{counts_of}
use Rattle.choosing.specs.declared.Choice.{Choice}

-- what a part counts in the shares 0 to p, or none where one is damaged
unfoldable pub part_counts : List ℕ → ℕ → List ℕ → Option Counts
part_counts before p part = counts_of (share_reading program before (find_cl (part_find part))) p

abbrev pub choice : ℕ → Counts → Choice
choice i k = record { at = i; counts = k }

-- the part of number i in the place of the one chosen so far, where it counts less [02:W4.20]
unfoldable pub better_of : Choice → ℕ → Counts → Choice
better_of c i k = cond (ltb k.sum c.counts.sum) (choice i k) c

-- the part of number 0, or that it is damaged
abbrev pub first_of : Option Counts → Result Choice ℕ
first_of None = Err zero
first_of (Some k) = Ok (choice zero k)

-- by one part more: the first that is damaged stays [02:W4.22]
abbrev pub next_of : Result Choice ℕ → ℕ → Option Counts → Result Choice ℕ
next_of (Err j) i k = Err j
next_of (Ok c) i None = Err i
next_of (Ok c) i (Some k) = Ok (better_of c i k)

-- chosen of the parts 0 to i, by what each counts; or the number of the first that is damaged
abbrev pub chosen_to : (List ℕ → Option Counts) → List (List ℕ) → ℕ → Result Choice ℕ
chosen_to f ps zero = first_of (f (get_or ps zero []))
chosen_to f ps (suc i) = next_of (chosen_to f ps i) (suc i) (f (get_or ps (suc i) []))
