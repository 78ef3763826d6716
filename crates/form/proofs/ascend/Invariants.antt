-- The rows passed do not come before those in front of them; those left decide.
use Rattle.std.proofs.Common.{◌≡◌, ◌-◌, take, drop}
use Rattle.table.specs.Table.{rows}
use Rattle.form.proofs.Laws.{rising}
use Rattle.form.proofs.ascend.Given as goal

abbrev pub invariant-loop-i : goal.invariant-loop-i
invariant-loop-i l = rising (drop (l.i - 1) (take l.u (rows l.w l.n l.t))) ≡ rising (take l.u (rows l.w l.n l.t))
