-- All shares are read; then the ids are gathered in the smaller or the larger index.
use Prim.Native.Nat.{ℕ, ◌+◌, ◌-◌, ◌≤◌}
use mathlib.Core.Path.{◌≡◌, refl, sym, ap, ◌∙◌}
use mathlib.Core.List.{List, map}
use native.Mathlib.Omega.{arith}
use lib.ListN.{get_or, take, drop}
use Rattle.table.specs.Lists.{sum, up_to, distinct}
use Rattle.table.specs.Table.{Table, rows}
use Rattle.table.specs.Order.{Searchable}
use Rattle.scheme.specs.Store.{width_of}
use Rattle.scheme.specs.Keys.{find_mt, find_me, find_cl}
use Rattle.scheme.specs.Find
use Rattle.scheme.specs.Find.{share_reading, ids_found}
use Rattle.suite.specs.Program.{program}
use Rattle.store.proofs.Laws.{table_m, Fits, fit_range, fits, free_le, part_searchable}
use Rattle.ids.specs.declared.EntryKeys.{EntryKeys}
use Rattle.ids.specs.Ids.{ids_in}
use Rattle.find.specs.Given.{given_answer, given_output}
use Rattle.find.proofs.Laws.{Sound, told_damage, told_sound, counts_sum, ids_are, damage_found, given, room_for_few, room_for_many}
use Rattle.find.proofs.find_in.Goals as goal
use Rattle.find.proofs.find_in.Goals.{After-prepare-me, Start}

-- the part that holds M
in_m : (s : Start) → Fits s.args.store.now s.args.z table_m
in_m s = fits s.args.store.now s.args.z s.requires.0 table_m

shares : (s : Start) → s.args.z.p ≤ 15
shares s = (fit_range s.args.store.now s.args.z s.requires.0).p_most

rows_m : (s : Start) → s.args.z.m.rows ≤ 4096
rows_m s = (fit_range s.args.store.now s.args.z s.requires.0).m_most

searched : (s : Start) → Searchable (width_of table_m) (s.args.z.m.rows - s.args.z.m.free) (rows (width_of table_m) s.args.z.m.rows (take (s.args.z.m.end - s.args.z.m.start) (drop s.args.z.m.start s.args.store.now)))
searched s = part_searchable s.args.store.now s.args.z s.requires.0 table_m refl

-- where the function starts, the keys, M's rows, and the counts
abbrev start : After-prepare-me → Start
start c = c.before.before.before.before.before.before.before.before.before.before.before

sound : (c : After-prepare-me) → let a = (start c).args in Sound (share_reading program a.store.now (find_cl a.token.now)) a.z.p c.in-Some.counts
sound c = let a = (start c).args in
    told_sound (share_reading program a.store.now (find_cl a.token.now)) a.z.p c.in-Some.counts (sym c.in-Some.is ∙ c.counts_in.ensures)

abbrev keys_at : After-prepare-me → EntryKeys
keys_at c = record { mt = c.prepare-mt.result; me = c.prepare-me.result }

abbrev table_at : After-prepare-me → Table
table_at c = let a = (start c).args in rows (width_of table_m) a.z.m.rows (take (a.z.m.end - a.z.m.start) (drop a.z.m.start a.store.now))

abbrev of_at : After-prepare-me → List ℕ
of_at c = c.in-Some.counts.of

ids : (c : After-prepare-me) → let a = (start c).args in distinct (ids_in (keys_at c) (table_at c) (of_at c) (a.z.p + 1)) ≡ ids_found program a.store.now a.token.now
unfolding find_mt find_me
ids c = let s = start c in
    let a = s.args in
    let p = c.prepare-mt in
    ids_are a.store.now a.token.now a.z s.requires.0 s.requires.1 (keys_at c) c.in-Some.counts
    (record { inner = p.ensures.0; outer = p.ensures.1 }) (record { inner = c.prepare-me.ensures.0; outer = c.prepare-me.ensures.1 }) (sound c)

total : (c : After-prepare-me) → sum (map (λ u. get_or (of_at c) u 0) (up_to (start c).args.z.p)) ≡ c.in-Some.counts.sum
total c = let a = (start c).args in
    counts_sum (share_reading program a.store.now (find_cl a.token.now)) a.z.p c.in-Some.counts (sound c) (shares (start c))

-- what is given of them is what find gives
gives : (c : After-prepare-me) →
    let a = (start c).args in
    let l = distinct (ids_in (keys_at c) (table_at c) (of_at c) (a.z.p + 1)) in
    (given_answer l a.output.now ≡ (Find.find program a.store.now a.token.now a.output.now).answer) × (given_output l a.output.now ≡ (Find.find program a.store.now a.token.now a.output.now).output)
gives c = let s = start c in
    let a = s.args in
    let g = given a.store.now a.token.now a.output.now s.requires.1 a.z s.requires.0 (sound c).none_damaged in
    (ap (λ (l : List (List ℕ)). given_answer l a.output.now) (ids c) ∙ g.0, ap (λ (l : List (List ℕ)). given_output l a.output.now) (ids c) ∙ g.1)

pub returns-in_default : goal.returns-in_default
returns-in_default c =
    let a = c.args in
    let both = damage_found a.store.now a.token.now a.output.now c.requires.1 a.z c.requires.0
    (told_damage (share_reading program a.store.now (find_cl a.token.now)) a.z.p (sym c.in_default.is ∙ c.counts_in.ensures)) in
    record { result_value = both.0; output_after = both.1 }

pub slice_bounds-give_within-count : goal.slice_bounds-give_within-count
slice_bounds-give_within-count c =
    omega (arith, in_m (goal.at.slice_bounds-give_within-count c).Start)

pub slice_bounds-give_within-start : goal.slice_bounds-give_within-start
slice_bounds-give_within-start c =
    omega (arith, in_m (goal.at.slice_bounds-give_within-start c).Start)

pub slice_bounds-give_within-end : goal.slice_bounds-give_within-end
slice_bounds-give_within-end c =
    omega (arith, in_m (goal.at.slice_bounds-give_within-end c).Start)

pub overflow_sub-m : goal.overflow_sub-m
overflow_sub-m c =
    free_le c.args.store.now c.args.z c.requires.0 table_m

pub give_within-requires : goal.give_within-requires
give_within-requires c =
    let s = (goal.at.give_within-requires c).Start in
    let k = (goal.at.give_within-requires c).After-prepare-me in
    let a = s.args in
    (((in_m s).long, searched s), (rows_m s, (shares s, room_for_few (keys_at k) a.z.m.rows (take (a.z.m.end - a.z.m.start) (drop a.z.m.start a.store.now)) (rows_m s) (of_at k) a.z.p (omega (arith, c.if-counts.true, total k)))))

pub returns-then-counts : goal.returns-then-counts
returns-then-counts c =
    let g = gives (goal.at.returns-then-counts c).After-prepare-me in record { result_value = c.give_within.ensures.result_value ∙ g.0; output_after = c.give_within.ensures.output_after ∙ g.1 }

pub slice_bounds-give_within-count-2 : goal.slice_bounds-give_within-count-2
slice_bounds-give_within-count-2 c =
    omega (arith, in_m (goal.at.slice_bounds-give_within-count-2 c).Start)

pub slice_bounds-give_within-start-2 : goal.slice_bounds-give_within-start-2
slice_bounds-give_within-start-2 c =
    omega (arith, in_m (goal.at.slice_bounds-give_within-start-2 c).Start)

pub slice_bounds-give_within-end-2 : goal.slice_bounds-give_within-end-2
slice_bounds-give_within-end-2 c =
    omega (arith, in_m (goal.at.slice_bounds-give_within-end-2 c).Start)

pub overflow_sub-m-2 : goal.overflow_sub-m-2
overflow_sub-m-2 c =
    free_le c.args.store.now c.args.z c.requires.0 table_m

pub give_within-requires-2 : goal.give_within-requires-2
give_within-requires-2 c =
    let s = (goal.at.give_within-requires-2 c).Start in
    let k = (goal.at.give_within-requires-2 c).After-prepare-me in
    let a = s.args in
    (((in_m s).long, searched s), (rows_m s, (shares s, room_for_many (keys_at k) a.z.m.rows (take (a.z.m.end - a.z.m.start) (drop a.z.m.start a.store.now)) (rows_m s) (of_at k) a.z.p (shares s))))

pub returns : goal.returns
returns c =
    let g = gives (goal.at.returns c).After-prepare-me in record { result_value = c.give_within-2.ensures.result_value ∙ g.0; output_after = c.give_within-2.ensures.output_after ∙ g.1 }
