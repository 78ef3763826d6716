-- Each table starts where the one before it ended; the first with a bad mark is 11.
use mathlib.Core.Path.{refl, ap}
use native.Mathlib.Omega.{arith}
use Rattle.std.proofs.lemmas.Result.{err_from_is_err_and}
use Rattle.scheme.specs.Store.{Sizes, table_m, table_v, table_c, table_s, table_r, length_for}
use Rattle.store.specs.declared.Part.{Part}
use Rattle.store.proofs.Laws.{good_survey, bad_survey, bad_surveys, good_surveys}
use Rattle.store.proofs.survey_all.Goals as goal

pub returns-in_err-of_m : goal.returns-in_err-of_m
returns-in_err-of_m c =
    let b = c.args.store.now in
    let z : Sizes = record { p = c.args.p; m = c.args.m; c = c.args.c; s = c.args.s; r = c.args.r } in
    let bad = bad_survey b z table_m (10) refl c.in_err-of_m.field-0.0 c.in_err-of_m.ensures in
    let p = err_from_is_err_and c.from_residual.result c.from_residual.ensures.1 in
    rw (p.1, p.2) (bad_surveys b z c.in_err-of_m.field-0.0 (rw (bad.0) refl) bad.1)

pub survey-requires-2 : goal.survey-requires-2
unfolding length_for
survey-requires-2 c =
    let b = c.args.store.now in
    let z : Sizes = record { p = c.args.p; m = c.args.m; c = c.args.c; s = c.args.s; r = c.args.r } in
    let on_m = good_survey b z table_m (10) refl c.in_ok-of_m.of_m c.in_ok-of_m.ensures in
    (omega arith, omega (arith, ap (λ (x : Part). x.end) on_m.is, c.requires))

pub returns-in_err-of_v : goal.returns-in_err-of_v
returns-in_err-of_v c =
    let b = c.args.store.now in
    let z : Sizes = record { p = c.args.p; m = c.args.m; c = c.args.c; s = c.args.s; r = c.args.r } in
    let on_m = good_survey b z table_m (10) refl c.in_ok-of_m.of_m c.in_ok-of_m.ensures in
    let bad = bad_survey b z table_v (c.in_ok-of_m.of_m.end) (ap (λ (x : Part). x.end) on_m.is) c.in_err-of_v.field-0.0 c.in_err-of_v.ensures in
    let p = err_from_is_err_and c.from_residual-in_err-of_v.result c.from_residual-in_err-of_v.ensures.1 in
    rw (p.1, p.2) (bad_surveys b z c.in_err-of_v.field-0.0 (rw (on_m.fine, bad.0) refl) bad.1)

pub survey-requires-3 : goal.survey-requires-3
unfolding length_for
survey-requires-3 c =
    let b = c.args.store.now in
    let z : Sizes = record { p = c.args.p; m = c.args.m; c = c.args.c; s = c.args.s; r = c.args.r } in
    let on_m = good_survey b z table_m (10) refl c.in_ok-of_m.of_m c.in_ok-of_m.ensures in
    let on_v = good_survey b z table_v (c.in_ok-of_m.of_m.end) (ap (λ (x : Part). x.end) on_m.is) c.in_ok-of_v.of_v c.in_ok-of_v.ensures in
    (omega arith, omega (arith, ap (λ (x : Part). x.end) on_v.is, c.requires))

pub returns-in_err-of_c : goal.returns-in_err-of_c
returns-in_err-of_c c =
    let b = c.args.store.now in
    let z : Sizes = record { p = c.args.p; m = c.args.m; c = c.args.c; s = c.args.s; r = c.args.r } in
    let on_m = good_survey b z table_m (10) refl c.in_ok-of_m.of_m c.in_ok-of_m.ensures in
    let on_v = good_survey b z table_v (c.in_ok-of_m.of_m.end) (ap (λ (x : Part). x.end) on_m.is) c.in_ok-of_v.of_v c.in_ok-of_v.ensures in
    let bad = bad_survey b z table_c (c.in_ok-of_v.of_v.end) (ap (λ (x : Part). x.end) on_v.is) c.in_err-of_c.field-0.0 c.in_err-of_c.ensures in
    let p = err_from_is_err_and c.from_residual-in_err-of_c.result c.from_residual-in_err-of_c.ensures.1 in
    rw (p.1, p.2) (bad_surveys b z c.in_err-of_c.field-0.0 (rw (on_m.fine, on_v.fine, bad.0) refl) bad.1)

pub survey-requires-4 : goal.survey-requires-4
unfolding length_for
survey-requires-4 c =
    let b = c.args.store.now in
    let z : Sizes = record { p = c.args.p; m = c.args.m; c = c.args.c; s = c.args.s; r = c.args.r } in
    let on_m = good_survey b z table_m (10) refl c.in_ok-of_m.of_m c.in_ok-of_m.ensures in
    let on_v = good_survey b z table_v (c.in_ok-of_m.of_m.end) (ap (λ (x : Part). x.end) on_m.is) c.in_ok-of_v.of_v c.in_ok-of_v.ensures in
    let on_c = good_survey b z table_c (c.in_ok-of_v.of_v.end) (ap (λ (x : Part). x.end) on_v.is) c.in_ok-of_c.of_c c.in_ok-of_c.ensures in
    (omega arith, omega (arith, ap (λ (x : Part). x.end) on_c.is, c.requires))

pub returns-in_err-of_s : goal.returns-in_err-of_s
returns-in_err-of_s c =
    let b = c.args.store.now in
    let z : Sizes = record { p = c.args.p; m = c.args.m; c = c.args.c; s = c.args.s; r = c.args.r } in
    let on_m = good_survey b z table_m (10) refl c.in_ok-of_m.of_m c.in_ok-of_m.ensures in
    let on_v = good_survey b z table_v (c.in_ok-of_m.of_m.end) (ap (λ (x : Part). x.end) on_m.is) c.in_ok-of_v.of_v c.in_ok-of_v.ensures in
    let on_c = good_survey b z table_c (c.in_ok-of_v.of_v.end) (ap (λ (x : Part). x.end) on_v.is) c.in_ok-of_c.of_c c.in_ok-of_c.ensures in
    let bad = bad_survey b z table_s (c.in_ok-of_c.of_c.end) (ap (λ (x : Part). x.end) on_c.is) c.in_err-of_s.field-0.0 c.in_err-of_s.ensures in
    let p = err_from_is_err_and c.from_residual-in_err-of_s.result c.from_residual-in_err-of_s.ensures.1 in
    rw (p.1, p.2) (bad_surveys b z c.in_err-of_s.field-0.0 (rw (on_m.fine, on_v.fine, on_c.fine, bad.0) refl) bad.1)

pub survey-requires-5 : goal.survey-requires-5
unfolding length_for
survey-requires-5 c =
    let b = c.args.store.now in
    let z : Sizes = record { p = c.args.p; m = c.args.m; c = c.args.c; s = c.args.s; r = c.args.r } in
    let on_m = good_survey b z table_m (10) refl c.in_ok-of_m.of_m c.in_ok-of_m.ensures in
    let on_v = good_survey b z table_v (c.in_ok-of_m.of_m.end) (ap (λ (x : Part). x.end) on_m.is) c.in_ok-of_v.of_v c.in_ok-of_v.ensures in
    let on_c = good_survey b z table_c (c.in_ok-of_v.of_v.end) (ap (λ (x : Part). x.end) on_v.is) c.in_ok-of_c.of_c c.in_ok-of_c.ensures in
    let on_s = good_survey b z table_s (c.in_ok-of_c.of_c.end) (ap (λ (x : Part). x.end) on_c.is) c.in_ok-of_s.of_s c.in_ok-of_s.ensures in
    (omega arith, omega (arith, ap (λ (x : Part). x.end) on_s.is, c.requires))

pub returns-in_err-of_r : goal.returns-in_err-of_r
returns-in_err-of_r c =
    let b = c.args.store.now in
    let z : Sizes = record { p = c.args.p; m = c.args.m; c = c.args.c; s = c.args.s; r = c.args.r } in
    let on_m = good_survey b z table_m (10) refl c.in_ok-of_m.of_m c.in_ok-of_m.ensures in
    let on_v = good_survey b z table_v (c.in_ok-of_m.of_m.end) (ap (λ (x : Part). x.end) on_m.is) c.in_ok-of_v.of_v c.in_ok-of_v.ensures in
    let on_c = good_survey b z table_c (c.in_ok-of_v.of_v.end) (ap (λ (x : Part). x.end) on_v.is) c.in_ok-of_c.of_c c.in_ok-of_c.ensures in
    let on_s = good_survey b z table_s (c.in_ok-of_c.of_c.end) (ap (λ (x : Part). x.end) on_c.is) c.in_ok-of_s.of_s c.in_ok-of_s.ensures in
    let bad = bad_survey b z table_r (c.in_ok-of_s.of_s.end) (ap (λ (x : Part). x.end) on_s.is) c.in_err-of_r.field-0.0 c.in_err-of_r.ensures in
    let p = err_from_is_err_and c.from_residual-in_err-of_r.result c.from_residual-in_err-of_r.ensures.1 in
    rw (p.1, p.2) (bad_surveys b z c.in_err-of_r.field-0.0 (rw (on_m.fine, on_v.fine, on_c.fine, on_s.fine, bad.0) refl) bad.1)

pub returns : goal.returns
returns c =
    let b = c.args.store.now in
    let z : Sizes = record { p = c.args.p; m = c.args.m; c = c.args.c; s = c.args.s; r = c.args.r } in
    let on_m = good_survey b z table_m (10) refl c.in_ok-of_m.of_m c.in_ok-of_m.ensures in
    let on_v = good_survey b z table_v (c.in_ok-of_m.of_m.end) (ap (λ (x : Part). x.end) on_m.is) c.in_ok-of_v.of_v c.in_ok-of_v.ensures in
    let on_c = good_survey b z table_c (c.in_ok-of_v.of_v.end) (ap (λ (x : Part). x.end) on_v.is) c.in_ok-of_c.of_c c.in_ok-of_c.ensures in
    let on_s = good_survey b z table_s (c.in_ok-of_c.of_c.end) (ap (λ (x : Part). x.end) on_c.is) c.in_ok-of_s.of_s c.in_ok-of_s.ensures in
    let on_r = good_survey b z table_r (c.in_ok-of_s.of_s.end) (ap (λ (x : Part). x.end) on_s.is) c.in_ok-of_r.of_r c.in_ok-of_r.ensures in
    good_surveys b z _ (rw (on_m.fine, on_v.fine, on_c.fine, on_s.fine, on_r.fine) refl)
    (λ i. record { p = z.p; m = on_m.is i; v = on_v.is i; c = on_c.is i; s = on_s.is i; r = on_r.is i })
