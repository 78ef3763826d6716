-- A word that names a file; needs.
use Prim.Native.Nat.{ℕ, ◌≤◌}
use mathlib.Core.Path.{◌≡◌, sym, subst}
use mathlib.Core.Bool.{true, true≢false}
use mathlib.Core.List.{List, [], ◌∷◌}
use native.Mathlib.Omega.{arith}
use lib.ListN.{length}
use denote.Enum.Declared.{tag_of}
use types.Run.{OneOf, miss}
use Rattle.demand.specs.contracts.Needs.{the_type as needs}
use Rattle.demand.specs.declared.Needs.{Needs}
use Rattle.demand.specs.declared.Needs.TheVariants.{KeyAlone}
use Rattle.operands.specs.Token.{names_file}

-- there is an `@` in a word that names a file
pub named : (word : List ℕ) → names_file word ≡ true → 1 ≤ length word
named [] e = absurd (true≢false (sym e))
named (b ∷ bs) e = omega arith

-- what needs more than a key file, or less
pub not_alone : (q : Needs) → OneOf (0 ∷ 1 ∷ 3 ∷ 4 ∷ 5 ∷ []) (tag_of needs q) → q ≡ KeyAlone → ⊥
not_alone q h e = miss (0 ∷ 1 ∷ 3 ∷ 4 ∷ 5 ∷ []) 2 tt (subst (λ (z : Needs). OneOf (0 ∷ 1 ∷ 3 ∷ 4 ∷ 5 ∷ []) (tag_of needs z)) e h)
