-- The mark, then tag, nonce and the text under the key.
use Prim.Native.Nat.{ℕ}
use mathlib.Core.Path.{ap, ◌∙◌}
use mathlib.Core.List.{List, ◌∷◌, ◌++◌}
use native.Mathlib.Omega.{arith}
use Rattle.octets.proofs.Parts.{marked_three}
use Rattle.chacha20.specs.Cipher.{E}
use Rattle.format.proofs.row.sealed_row.Goals as goal

pub returns : goal.returns
returns c =
    marked_three 1 _ c.args.tag.now c.args.nonce.now c.apply_short.new.text _ _ _ 32 44 c.requires.0.0 (omega arith)
    (omega (arith, c.apply_short.auto.text, c.copy.auto.to)) c.copy_at.ensures c.copy_at-2.ensures c.copy_at-3.ensures
    ∙ ap (λ (l : List ℕ). 1 ∷ c.args.tag.now ++ (c.args.nonce.now ++ l)) (c.apply_short.ensures ∙ ap (E c.args.key.now c.args.nonce.now) c.copy.ensures)
