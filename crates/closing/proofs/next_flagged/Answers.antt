use Rattle.std.proofs.Common.{◌-◌, not, eqb, take, drop, rules, tests}
use Rattle.std.proofs.lemmas.Iterator.{YieldsList-from_slice}
use Rattle.std.proofs.lemmas.Iterator.Search.{position_from_yields_List}
use Rattle.closing.proofs.Runs.{twice, run_found, run_over}
use Rattle.closing.proofs.next_flagged.Goals as goal

pub returns-in-Some : goal.returns-in-Some
returns-in-Some c =
    let a = c.args in
    let e = position_from_yields_List (λ x. not (eqb x 0)) _ _ c.position.result c.position.ensures.ran (YieldsList-from_slice (take (a.u - a.from) (drop a.from a.flags.now)) cc) (λ x b q k. search (rules, tests)) in
    run_found (λ x. eqb x 0) (λ x. not (eqb x 0)) (λ x. twice (eqb x 0)) a.flags.now a.from a.u c.requires.0 c.requires.1 c.position.result e c.in-Some.k c.in-Some.is

pub returns-in-None : goal.returns-in-None
returns-in-None c =
    let a = c.args in
    let e = position_from_yields_List (λ x. not (eqb x 0)) _ _ c.position.result c.position.ensures.ran (YieldsList-from_slice (take (a.u - a.from) (drop a.from a.flags.now)) cc) (λ x b q k. search (rules, tests)) in
    run_over (λ x. eqb x 0) (λ x. not (eqb x 0)) (λ x. twice (eqb x 0)) a.flags.now a.from a.u c.requires.0 c.requires.1 c.position.result e c.in-None.is
