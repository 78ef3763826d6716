-- Ascending rows, as many as are used, and nothing but zeros behind them.
use Prim.Native.Nat.{ℕ, ◌*◌, ◌-◌}
use mathlib.Core.Bool.{Bool, ◌&&◌}
use mathlib.Core.Path.{sym, ap, ◌∙◌}
use native.Mathlib.Omega.{arith}
use lib.ListN.{length, drop, length-drop}
use lib.Seq.{take_all}
use Rattle.form.proofs.Laws.{zeros, free_most, form_is}
use Rattle.form.proofs.in_form.Goals as goal

-- the used rows are no more than the table's
pub overflow_sub-u : goal.overflow_sub-u
overflow_sub-u c =
    let a = c.args in
    free_most a.w a.n a.free a.t.now c.requires.1.0 c.requires.1.1

pub returns-then-ascend : goal.returns-then-ascend
returns-then-ascend c =
    let a = c.args in
    let at : ℕ = a.w * (a.n - a.free) in
    sym (form_is a.w a.n a.free a.t.now c.requires.1.0 c.requires.1.1
    ∙ rw (sym c.ascend.ensures ∙ c.if-ascend.true)
    (sym (c.blank.ensures ∙ ap zeros (take_all (length a.t.now - at) (drop at a.t.now) (omega (arith, length-drop at a.t.now))))))

pub returns-else-ascend : goal.returns-else-ascend
returns-else-ascend c =
    let a = c.args in
    c.if-ascend.false ∙ sym (form_is a.w a.n a.free a.t.now c.requires.1.0 c.requires.1.1 ∙ ap (λ (b : Bool). b && zeros (drop (a.w * (a.n - a.free)) a.t.now)) (sym c.ascend.ensures ∙ c.if-ascend.false))
