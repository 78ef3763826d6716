-- 12, then the reading; a damaged one is 13.
use mathlib.Core.Path.{refl}
use native.Mathlib.Omega.{arith}
use Rattle.store.proofs.Laws.{table_c, Fits, fits, free_le, part_searchable}
use Rattle.placing.specs.Placed.{Lengths}
use Rattle.insert.proofs.Answers.{lengths}
use Rattle.insert.proofs.insert_checked.Goals as goal
use Rattle.insert.proofs.insert_checked.Goals.{Start}

long : (s : Start) → Lengths s.args.ids.now s.args.nonces.now s.args.token.now
long s = lengths s.args.ids.now s.args.nonces.now s.args.token.now s.requires.0

-- the part that holds C
in_c : (s : Start) → Fits s.args.store.now s.args.z table_c
in_c s = fits s.args.store.now s.args.z s.requires.1 table_c

pub slice_bounds-read_keyed-count : goal.slice_bounds-read_keyed-count
slice_bounds-read_keyed-count c =
    omega (arith, in_c (goal.at.slice_bounds-read_keyed-count c).Start)

pub slice_bounds-read_keyed-start : goal.slice_bounds-read_keyed-start
slice_bounds-read_keyed-start c =
    omega (arith, in_c (goal.at.slice_bounds-read_keyed-start c).Start)

pub slice_bounds-read_keyed-end : goal.slice_bounds-read_keyed-end
slice_bounds-read_keyed-end c =
    omega (arith, in_c (goal.at.slice_bounds-read_keyed-end c).Start)

pub overflow_sub-c : goal.overflow_sub-c
overflow_sub-c c =
    free_le c.args.store.now c.args.z c.requires.1 table_c

pub read_keyed-requires : goal.read_keyed-requires
read_keyed-requires c =
    let s = (goal.at.read_keyed-requires c).Start in
    ((in_c s).long, (((in_c s).most, c.keys_of-keys.ensures), part_searchable s.args.store.now s.args.z s.requires.1 table_c refl))
