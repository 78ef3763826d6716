-- The used key over zeros.
use Prim.Native.Nat.{ℕ}
use mathlib.Core.List.{List}
use Rattle.sha256.proofs.Laws.{length-hash}
use Rattle.sha256.specs.Hash.{hash, final, digest}
use Rattle.hmac.proofs.Laws.{block_is, used_long}
use native.Mathlib.Omega.{arith}
use lib.ListN.{length}
use mathlib.Core.Path.{sym, ap, ◌∙◌}
use Rattle.hmac.proofs.block.Goals as goal

pub returns-else-n-le64 : goal.returns-else-n-le64
unfolding hash
returns-else-n-le64 c =
    let key = c.args.key.now in
    let long = used_long key (omega arith) in
    block_is key c.digest.new.to c.args.to.now 32 c.requires.1
    (c.digest.ensures ∙ ap digest (c.finish.ensures ∙ ap (λ (s : List ℕ). final s 0 key) c.initial.ensures) ∙ sym long)
    (sym (ap length long ∙ length-hash key))
