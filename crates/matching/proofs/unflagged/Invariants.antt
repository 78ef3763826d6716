-- What is left of the rows decides; the first row of a tag is known from the row before.
use Prim.Native.Nat.{ℕ, ◌+◌, ◌-◌, ◌≤◌}
use mathlib.Core.Path.{◌≡◌}
use mathlib.Core.Logic.{◌⊎◌}
use mathlib.Core.List.{List, [], map}
use lib.Dec.{eqb}
use lib.ListN.{get_or, take, drop}
use Rattle.table.specs.Lists.{count}
use Rattle.table.specs.Table.{Table, rows, used, place_of}
use Rattle.matching.specs.Matching
use Rattle.matching.proofs.unflagged.Given as goal

abbrev pub rest : Table → List ℕ → ℕ → ℕ
rest t flags i = count (λ b. eqb (get_or flags (place_of (take 32 b) t) 0) 0) (drop i (used t))

abbrev pub invariant-loop-j : goal.invariant-loop-j
invariant-loop-j l = (l.left ≤ l.j) × (((l.j ≡ 0) ⊎ (l.first ≡ place_of (get_or (map (take 32) (used (rows l.w l.n l.t))) (l.j - 1) []) (rows l.w l.n l.t))) × (l.left + rest (rows l.w l.n l.t) l.flags l.j ≡ Matching.unflagged (rows l.w l.n l.t) l.flags))
