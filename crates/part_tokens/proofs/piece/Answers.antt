-- Both ends within the text.
use native.Mathlib.Nat.{min-le_right}
use native.Mathlib.Omega.{arith}
use Prim.Native.Nat.{ℕ, ◌+◌, ◌-◌, ◌≤◌, min}
use lib.ListN.{length}
use Rattle.part_tokens.proofs.Parts.{piece_is}
use mathlib.Core.Path.{ap, ◌∙◌}
use Rattle.part_tokens.proofs.piece.Goals as goal
use Rattle.part_tokens.proofs.piece.Lts.View as view
use Rattle.part_tokens.proofs.piece.Goals.{After-least, After-least-start}

start_inside : (c : After-least-start) → c.least-start.result ≤ length c.args.text.now
start_inside c = let a = c.args in omega (arith, c.least-start.ensures, min-le_right a.a (length a.text.now))

end_inside : (c : After-least) → c.least-start.result + c.least.result ≤ length c.args.text.now
end_inside c = let l = (view.up-After-least-start _ _ _ c.before.before.before) in
    omega (arith, c.least.ensures, min-le_right c.above.result (length l.args.text.now - l.least-start.result), start_inside l)

pub returns : goal.returns
returns c =
    let a = c.args in
    piece_is a.text.now a.a a.e c.least-start.result c.least.result c.least-start.ensures (c.least.ensures ∙ ap (λ (k : ℕ). min k (length a.text.now - c.least-start.result)) c.above.ensures)

pub overflow_sub-n : goal.overflow_sub-n
overflow_sub-n c = omega (arith, start_inside (goal.at.overflow_sub-n c).After-least-start)

pub overflow_add-end : goal.overflow_add-end
overflow_add-end c = omega (arith, end_inside c)

pub slice_bounds-result-end : goal.slice_bounds-result-end
slice_bounds-result-end c = omega (arith, end_inside c)
