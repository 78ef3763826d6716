-- Nonce and id fill the message.
use mathlib.Core.Path.{sym, ap, ◌∙◌}
use mathlib.Core.List.{List, [], ◌++◌, append-nil}
use Prim.Native.Nat.{ℕ, ◌+◌}
use native.Mathlib.Omega.{arith}
use lib.ListN.{length}
use Rattle.octets.specs.Part.{written}
use Rattle.octets.proofs.Parts.{three_written, written_none}
use Rattle.format.specs.Tags.{tag_by, r_mark_by}
use Rattle.format.proofs.r_mark.Goals as goal

pub returns : goal.returns
unfolding r_mark_by
returns c =
    let n = c.args.nonce.now in
    let i = c.args.id.now in
    c.tagged.ensures
    ∙ ap (tag_by c.args.rl)
    (three_written _ n i [] _ c.copy_at-2.new.to c.copy_at-2.new.to (omega (arith, c.requires.0, c.requires.1)) c.copy_at.ensures
    (c.copy_at-2.ensures ∙ ap (λ (k : ℕ). written c.copy_at.new.to k i) (sym c.requires.0)) (sym (written_none c.copy_at-2.new.to (length n + length i)))
    ∙ ap (λ (l : List ℕ). n ++ l) (append-nil i))
