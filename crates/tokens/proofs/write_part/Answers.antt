-- The find token, then RL.
use Prim.Native.Nat.{ℕ}
use mathlib.Core.Path.{ap₂, ◌∙◌}
use mathlib.Core.List.{List, ◌++◌}
use native.Mathlib.Omega.{arith}
use Rattle.octets.proofs.Parts.{halves, length_part}
use Rattle.scheme.specs.Keys.{part_token}
use Rattle.format.proofs.Tags.{prepared}
use Rattle.tokens.proofs.write_part.Goals as goal

pub returns : goal.returns
unfolding part_token
returns c =
    let k = c.prepare in
    let key = c.args.key.now in
    halves c.args.to.now c.write_find.new.to c.copy.new.to 96 128 c.requires.1
    (c.write_find.auto.to ∙ length_part c.args.to.now 0 96 (omega (arith, c.requires.1)))
    ∙ ap₂ (λ (x y : List ℕ). x ++ y) c.write_find.ensures (c.copy.ensures ∙ c.mark_key-rl.ensures key (prepared k.result key k.ensures))
