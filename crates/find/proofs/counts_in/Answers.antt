-- The part that holds C, and the token's last 32 bytes.
use Prim.Native.Nat.{ℕ}
use mathlib.Core.Path.{refl, ap, ◌∙◌}
use native.Mathlib.Omega.{arith}
use Rattle.scheme.specs.Reading.{Reading}
use Rattle.store.proofs.Laws.{table_c, Fits, fit_range, fits, free_le, part_searchable}
use Rattle.find.specs.Counts.{counts_of}
use Rattle.find.proofs.Laws.{readings}
use Rattle.find.proofs.counts_in.Goals as goal
use Rattle.find.proofs.counts_in.Goals.{Start}

in_c : (s : Start) → Fits s.args.store.now s.args.z table_c
in_c s = fits s.args.store.now s.args.z s.requires.0 table_c

pub slice_bounds-read_all-count : goal.slice_bounds-read_all-count
slice_bounds-read_all-count c =
    omega (arith, in_c (goal.at.slice_bounds-read_all-count c).Start)

pub slice_bounds-read_all-start : goal.slice_bounds-read_all-start
slice_bounds-read_all-start c =
    omega (arith, in_c (goal.at.slice_bounds-read_all-start c).Start)

pub slice_bounds-read_all-end : goal.slice_bounds-read_all-end
slice_bounds-read_all-end c =
    omega (arith, in_c (goal.at.slice_bounds-read_all-end c).Start)

pub overflow_sub-c : goal.overflow_sub-c
overflow_sub-c c =
    free_le c.args.store.now c.args.z c.requires.0 table_c

pub read_all-requires : goal.read_all-requires
read_all-requires c =
    let s = (goal.at.read_all-requires c).Start in
    (((in_c s).long, part_searchable s.args.store.now s.args.z s.requires.0 table_c refl), ((in_c s).most, (fit_range s.args.store.now s.args.z s.requires.0).p_most))

pub returns : goal.returns
returns c =
    let p = c.prepare-clx in
    let a = c.args in
    c.read_all.ensures
    ∙ ap (λ (f : ℕ → Reading). counts_of f a.z.p)
    (readings a.store.now a.token.now a.z c.requires.0 c.requires.1 p.result (record { inner = p.ensures.0; outer = p.ensures.1 }))
