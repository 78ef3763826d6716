use Rattle.std.proofs.Common.{arith, ◌+◌, ◌-◌, ◌*◌, ◌%◌, sym}
use Rattle.moving.proofs.Moves.{sink, moved_none}
use Rattle.moving.proofs.down.Goals as goal

pub loop-i-init : goal.loop-i-init
loop-i-init c = let a = c.args in sym (moved_none a.t.now (a.to + a.d) a.to)

pub loop-i-preserved : goal.loop-i-preserved
loop-i-preserved c =
    let a = c.args in
    let l = c.loop-i in
    sink a.t.now l.t _ a.to (a.to + 64 * l.i) 64 (64 * l.i) (64 * (l.i + 1)) a.d l.invariant c.piece.ensures (omega arith) (omega arith) (omega arith)

pub returns : goal.returns
returns c =
    let a = c.args in
    let l = c.loop-i in
    sink a.t.now l.t _ a.to (a.to + (a.n - a.n % 64)) (a.n % 64) (64 * l.i) a.n a.d l.invariant c.piece-2.ensures (omega arith) (omega arith) c.requires
