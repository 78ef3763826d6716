-- One id's line more.
use Prim.Native.Nat.{◌+◌, ◌*◌, ◌-◌}
use native.Mathlib.Omega.{arith}
use Rattle.lines.proofs.Laws.{next_id}
use Rattle.lines.proofs.ids.Goals as goal

pub loop-i-preserved : goal.loop-i-preserved
loop-i-preserved c =
    let l = c.loop-i in
    let p = c.put_hex-at.ensures in
    (omega (arith, p.1, l.invariant.0), next_id c.args.found.now l.i ((16 * l.i + 16) - 16 * l.i) (omega arith) l.invariant.1 p.0)
