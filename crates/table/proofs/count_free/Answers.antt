use Rattle.std.proofs.Common.{arith, ◌*◌, eqb, slice_index}
use Rattle.octets.proofs.Compare.{bit_from}
use Rattle.table.specs.Table.{is_free}
use Rattle.table.proofs.Walk.{count_turn, count_end}
use Rattle.table.proofs.count_free.Goals as goal

pub loop-i-preserved : goal.loop-i-preserved
loop-i-preserved c =
    let l = c.loop-i in
    let s = c.args in
    let e = count_turn (λ x. eqb x 0) s.w s.n l.i s.t.now c.requires.0 c.loop-i-test.true in
    let b = bit_from (eqb (slice_index s.t.now (s.w * l.i)) 0) in
    (omega arith, omega arith)

pub returns : goal.returns
returns c =
    let l = c.loop-i in
    let s = c.args in
    count_end is_free s.w s.n l.i l.free _ s.t.now c.loop-i-test.false l.invariant.1
