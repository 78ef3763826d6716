-- Each piece is written where the one before ends.
use Rattle.octets.proofs.Parts.{three_written}
use Rattle.tokens.proofs.three.Goals as goal

pub returns : goal.returns
returns c =
    let a = c.args in
    three_written a.to.now a.a.now a.b.now a.c.now c.copy_at.new.to c.copy_at-2.new.to c.copy_at-3.new.to c.requires
    c.copy_at.ensures c.copy_at-2.ensures c.copy_at-3.ensures
