-- A flag that is set stays; else the test decides.
use mathlib.Core.Path.{refl, sym, ap, ◌∙◌}
use mathlib.Core.Bool.{Bool, cond}
use borrow.Author.Tests.{eq-eqb, ne_eqb}
use Rattle.table.specs.Table.{rows}
use Rattle.scheme.specs.Store.{table_r, width_of}
use Rattle.test.specs.Marked.{tests_by}
use Rattle.sifting.specs.Sifting.{flag_of}
use Rattle.sifting.proofs.flag_of.Goals as goal

pub returns-then-flag-ne0 : goal.returns-then-flag-ne0
unfolding flag_of
returns-then-flag-ne0 c = rw (ne_eqb c.args.flag 0 c.if-flag-ne0.true) refl

pub returns-then-tests : goal.returns-then-tests
unfolding flag_of
returns-then-tests c =
    let t = c in
    let s = t in
    let a = s.args in
    let q = tests_by a.rl (rows (width_of table_r) a.r a.labels.now) in
    rw (eq-eqb a.flag 0 t.if-flag-ne0.false) (ap (λ (b : Bool). cond b 0 1) (sym (sym (t.tests.ensures ∙ ap q t.id_at-id.ensures) ∙ c.if-tests.true)))

pub returns-else-tests : goal.returns-else-tests
unfolding flag_of
returns-else-tests c =
    let t = c in
    let s = t in
    let a = s.args in
    let q = tests_by a.rl (rows (width_of table_r) a.r a.labels.now) in
    rw (eq-eqb a.flag 0 t.if-flag-ne0.false) (ap (λ (b : Bool). cond b 0 1) (sym (sym (t.tests.ensures ∙ ap q t.id_at-id.ensures) ∙ c.if-tests.false)))
