-- The mark, then id, nonce and the scheme's R mark.
use mathlib.Core.Path.{ap, ◌∙◌}
use mathlib.Core.List.{List, ◌∷◌, ◌++◌}
use Prim.Native.Nat.{ℕ}
use native.Mathlib.Omega.{arith}
use Rattle.octets.proofs.Parts.{marked_three}
use Rattle.scheme.specs.Store.{label_row}
use Rattle.format.proofs.Tags.{r_mark_is}
use Rattle.format.proofs.row.label_row.Goals as goal

pub returns : goal.returns
unfolding label_row
returns c =
    let a = c.args in
    marked_three 1 _ a.id.now a.nonce.now c.r_mark-mark.result _ _ _ 16 28 c.requires.1.1 (omega (arith, c.requires.1.0)) (omega arith) c.copy_at.ensures c.copy_at-2.ensures c.copy_at-3.ensures
    ∙ ap (λ (l : List ℕ). 1 ∷ a.id.now ++ (a.nonce.now ++ l)) (c.r_mark-mark.ensures ∙ r_mark_is a.k a.rl.now a.nonce.now a.id.now c.requires.0)
