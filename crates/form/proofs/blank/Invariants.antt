-- The bytes passed are all zero where their union is; those left decide the rest.
use Rattle.std.proofs.Common.{◌≡◌, ◌&&◌, eqb, drop}
use Rattle.form.proofs.Laws.{zeros}
use Rattle.form.proofs.blank.Given as goal

abbrev pub invariant-loop-x : goal.invariant-loop-x
invariant-loop-x l = (eqb l.seen 0 && zeros (drop l.x-index l.t)) ≡ zeros l.t
