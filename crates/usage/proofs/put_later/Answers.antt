-- Five lines.
use native.Mathlib.Omega.{arith}
use Rattle.buffer.proofs.Laws.{then}
use Rattle.usage.specs.Usage.{usage_line, later_lines}
use Rattle.usage.proofs.put_later.Goals as goal

pub returns : goal.returns
unfolding usage_line later_lines
returns c =
    let p = c.put-a.ensures in
    let q = c.put-b.ensures in
    let r = c.put-c.ensures in
    let s = c.put-d.ensures in
    let t = c.put.ensures in
    (then p (then q (then r (then s t))), omega (arith, p.ends, q.ends, r.ends, s.ends, t.ends))
