-- RL is prepared, and R is the part that is lent.
-- the part that holds R
use Prim.Native.Nat.{ℕ, ◌-◌}
use mathlib.Core.Path.{refl, ap, ◌∙◌}
use mathlib.Core.List.{[], ◌∷◌}
use native.Mathlib.Omega.{arith}
use lib.ListN.{take, drop}
use Rattle.answer.specs.Answer.{done}
use Rattle.table.specs.Table.{rows}
use Rattle.scheme.specs.Store.{width_of}
use Rattle.store.proofs.Laws.{table_r, Fits, fits, free_le, part_searchable}
use Rattle.test.specs.Marked.{tests_by}
use Rattle.test.proofs.Laws.{fit_store}
use Rattle.test.proofs.test_in.Goals as goal
use Rattle.test.proofs.test_in.Goals.{After-prepare-rl, Start}

in_r : (s : Start) → Fits s.args.store.now s.args.z table_r
in_r s = fits s.args.store.now s.args.z s.requires.0 table_r

abbrev start : After-prepare-rl → Start
start c = c.before.before.before.before.before.before.before.before.before

pub tests-yes-requires : goal.tests-yes-requires
tests-yes-requires c =
    let s = start (goal.at.tests-yes-requires c).After-prepare-rl in
    ((in_r s).long, part_searchable s.args.store.now s.args.z s.requires.0 table_r refl)

pub returns : goal.returns
returns c =
    let t = c.tests-yes in
    let p = (goal.at.returns c).After-prepare-rl in
    let s = start p in
    let a = s.args in
    let r = rows (width_of table_r) a.z.r.rows (take (a.z.r.end - a.z.r.start) (drop a.z.r.start a.store.now)) in
    ap (λ (n : ℕ). done (n ∷ [])) c.answered.ensures
    ∙ fit_store a.store.now a.id.now a.token.now s.requires.1.0 s.requires.1.1 a.z p.prepare-rl.result r t.result s.requires.0
    (record { inner = p.prepare-rl.ensures.0; outer = p.prepare-rl.ensures.1 }) (in_r s).same (t.ensures ∙ ap (tests_by p.prepare-rl.result r) p.copy_from_slice.ensures.after)

pub slice_bounds-tests-count : goal.slice_bounds-tests-count
slice_bounds-tests-count c = omega (arith, in_r (start c))

pub slice_bounds-tests-start : goal.slice_bounds-tests-start
slice_bounds-tests-start c = omega (arith, in_r (start c))

pub slice_bounds-tests-end : goal.slice_bounds-tests-end
slice_bounds-tests-end c = omega (arith, in_r (start c))

pub overflow_sub-r : goal.overflow_sub-r
overflow_sub-r c = let s = start (goal.at.overflow_sub-r c).After-prepare-rl in free_le s.args.store.now s.args.z s.requires.0 table_r
