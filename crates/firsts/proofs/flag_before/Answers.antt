use Rattle.std.proofs.Common.{ltb, ap, ◌∙◌, arith}
use Rattle.octets.proofs.Compare.{bit_from}
use Rattle.table.specs.Lists.{bit}
use Rattle.firsts.proofs.Flags.{marking_turn}
use Rattle.firsts.proofs.flag_before.Goals as goal

pub loop-i-preserved : goal.loop-i-preserved
loop-i-preserved c =
    let a = c.args in
    let l = c.loop-i in
    marking_turn a.upto a.first.now a.flags.now l.i l.flags l.invariant (omega arith) (omega arith) c.from.result
    (c.from.ensures ∙ (bit_from (ltb c.from-at.result a.upto)).0 ∙ ap (λ x. bit (ltb x a.upto)) c.from-at.ensures)
