use Rattle.std.proofs.Common.{ℕ, ◌∙◌, ap, length, set, take, arith}
use Rattle.replacing.proofs.Places.{flag_turn}
use Rattle.replacing.proofs.flag_places.Goals as goal

pub loop-place-preserved : goal.loop-place-preserved
loop-place-preserved c =
    let l = c.loop-place in
    let p = take c.args.k c.args.places.now in
    ap (λ (i : ℕ). set l.flags i 1) c.from.ensures ∙ flag_turn p (length p) l.place-index (omega arith) c.loop-place-test.true c.args.flags.now l.flags l.invariant
