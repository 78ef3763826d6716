use Rattle.std.proofs.Common.{arith, ℕ, ◌≡◌, ◌+◌, ◌-◌, ◌*◌, ◌/◌, ◌%◌, sym, ap, ◌∙◌}
use Rattle.moving.specs.Moves.{moved}
use Rattle.moving.proofs.Moves.{rise, moved_none}
use Rattle.moving.proofs.up.Goals as goal

pub loop-i-init : goal.loop-i-init
loop-i-init c =
    let a = c.args in
    let q = a.n / 64 in
    let x = a.at + a.n % 64 + 64 * q in
    let e : 64 * (q - q) ≡ 0 = omega arith in
    sym (ap (λ (m : ℕ). moved a.t.now x m (x + a.d)) e ∙ moved_none a.t.now x (x + a.d))

pub loop-i-preserved : goal.loop-i-preserved
loop-i-preserved c =
    let a = c.args in
    let l = c.loop-i in
    let q = a.n / 64 in
    let r = a.n % 64 in
    rise a.t.now l.t _ (a.at + r + 64 * (l.i - 1)) (a.at + r + 64 * l.i) 64 (64 * (q - l.i)) (64 * (q - (l.i - 1))) a.d l.invariant c.piece.ensures (omega arith) (omega arith) (omega arith)

pub returns : goal.returns
returns c =
    let a = c.args in
    let l = c.loop-i in
    rise a.t.now l.t _ a.at (a.at + a.n % 64 + 64 * l.i) (a.n % 64) (64 * (a.n / 64 - l.i)) a.n a.d l.invariant c.piece-2.ensures (omega arith) (omega arith) c.requires
