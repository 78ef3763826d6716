use Rattle.std.proofs.Common.{ap, sym, Ok, Err, arith, ◌∙◌, ◌*◌, eqb, slice_index}
use Rattle.octets.proofs.Compare.{bit_from}
use Rattle.table.specs.Table.{is_free}
use Rattle.table.proofs.Walk.{count_turn, count_end, bad_turn, bad_end}
use Rattle.table.proofs.survey.Goals as goal

pub loop-i-preserved : goal.loop-i-preserved
loop-i-preserved c =
    let l = c.loop-i in
    let s = c.args in
    let h = c.loop-i-test.true in
    let e = count_turn (λ x. eqb x 0) s.w s.n l.i s.t.now c.requires.0 h in
    let b = bit_from (eqb (slice_index s.t.now (s.w * l.i)) 0) in
    (omega arith, bad_turn s.most s.w s.n l.i s.t.now l.bad c.requires.0 h ∙ l.invariant.1, omega arith)

pub returns-then-bad : goal.returns-then-bad
returns-then-bad c =
    let l = c.loop-i in
    let s = c.args in
    let h = c.loop-i-test.false in
    rw (sym (bad_end s.most s.w s.n l.i s.t.now l.bad _ h l.invariant.1) ∙ c.if-bad.true)
    (ap Err (count_end is_free s.w s.n l.i l.free _ s.t.now h l.invariant.2))

pub returns-else-bad : goal.returns-else-bad
returns-else-bad c =
    let l = c.loop-i in
    let s = c.args in
    let h = c.loop-i-test.false in
    rw (sym (bad_end s.most s.w s.n l.i s.t.now l.bad _ h l.invariant.1) ∙ c.if-bad.false)
    (ap Ok (count_end is_free s.w s.n l.i l.free _ s.t.now h l.invariant.2))
