-- 10, 11 and 20, or the seven numbers.
use mathlib.Core.Path.{sym, ◌∙◌}
use Rattle.consistency.proofs.Laws.{check_refused, check_done}
use Rattle.consistency.proofs.check.Goals as goal

pub count_faults-requires : goal.count_faults-requires
count_faults-requires c = sym c.in_ok-z.ensures

pub returns : goal.returns
returns c =
    check_done c.args.store.now c.in_ok-z.z (sym c.in_ok-z.ensures) c.count_faults.result c.count_faults.ensures
