-- A row of the log is a part of it.
use mathlib.Core.Path.{◌∙◌}
use Rattle.table.proofs.Walk.{row_part}
use Rattle.course.proofs.cl_at.Goals as goal

pub returns : goal.returns
returns c =
    let a = c.args in
    c.copy_from_slice.ensures.after ∙ row_part 32 a.n a.i a.log.now c.requires.0
