-- What is left of the path decides.
use Prim.Native.Nat.{◌≤◌}
use mathlib.Core.Path.{◌≡◌}
use lib.ListN.{drop}
use Rattle.paths.specs.Folder.{folder_from, folder_of}
use Rattle.paths.proofs.folder.Given as goal

abbrev pub invariant-loop-i : goal.invariant-loop-i
invariant-loop-i l = (l.n ≤ l.i) × (folder_from l.n l.i (drop l.i l.path) ≡ folder_of l.path)
