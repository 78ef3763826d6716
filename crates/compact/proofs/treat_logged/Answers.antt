-- The log, the firsts, table C, and table S once at the end.
use Prim.Native.Nat.{ℕ, ◌*◌, ◌-◌, ◌≤◌}
use mathlib.Core.Path.{◌≡◌, refl, sym, ap, ◌∙◌}
use mathlib.Core.List.{List, ◌++◌}
use native.Mathlib.Omega.{arith}
use lib.ListN.{length, take, drop, replicate}
use Rattle.octets.specs.Part.{back}
use Rattle.table.specs.Table.{Table, rows}
use Rattle.table.proofs.Rows.{rows-length}
use Rattle.scheme.specs.Store.{cut, width_of, put_in}
use Rattle.scheme.specs.Layout.{Laid}
use Rattle.scheme.proofs.Plan.{laid_back, laid_inside, laid_long, laid_rows}
use Rattle.store.specs.Check.{span_in}
use Rattle.store.proofs.Laws.{table_c, table_s, Fits, fits, free_le, part_searchable, used_rows_lem, formed}
use Rattle.firsts.specs.Flags.{flags_under}
use Rattle.compact.specs.Log.{cls_in}
use Rattle.compact.proofs.Whole.{room, found_self, found_front, answer_is, store_is, laid_c}
use Rattle.compact.proofs.treat_logged.Goals as goal
use Rattle.compact.proofs.treat_logged.Goals.{After-open_log, After-treat_firsts-r, Start}

part_s : (s : Start) → Fits s.args.store.now s.args.z table_s
part_s s = fits s.args.store.now s.args.z s.requires.0 table_s

part_c : (s : Start) → Fits s.args.store.now s.args.z table_c
part_c s = fits s.args.store.now s.args.z s.requires.0 table_c

left : (s : Start) → s.args.z.s.rows - s.args.z.s.free ≤ 4096
left s = omega (arith, (part_s s).most)

-- the log is that of the used rows of S
log_is : (c : After-open_log) →
    let a = c.args in
    let n = a.z.s.rows - a.z.s.free in
    rows 32 n c.open_log.new.log ≡ cls_in a.token.now (take n ((cut a.store.now).table table_s))
log_is c = let s = c.before.before.before.before.before.before.before.before.before.before in
    let a = s.args in
    let n = a.z.s.rows - a.z.s.free in
    c.open_log.ensures.0 ∙ ap (λ (t : Table). cls_in a.token.now (take n t)) (part_s s).same

log_long : (c : After-open_log) →
    let a = c.args in
    32 * (a.z.s.rows - a.z.s.free) ≤ length c.open_log.new.log
log_long c = let s = c.before.before.before.before.before.before.before.before.before.before in room 131072 (32 * (s.args.z.s.rows - s.args.z.s.free)) c.open_log.new.log c.open_log.auto.log (omega (arith, left s))

-- table C has come back
laid₁ : (c : After-treat_firsts-r) →
    let a = c.args in
    let ys = c.treat_firsts-r.new.t in
    Laid (span_in a.z) (back a.store.now a.z.c.start a.z.c.end ys) (put_in table_c (rows (width_of table_c) a.z.c.rows ys) (cut a.store.now))
laid₁ c = let s = c in
    let a = s.args in
    laid_c a.store.now a.nonces.now a.token.now a.z s.requires.0 c.treat_firsts-r.new.t c.treat_firsts-r.auto.t

pub overflow_sub-n : goal.overflow_sub-n
overflow_sub-n c =
    free_le c.args.store.now c.args.z c.requires.0 table_s

pub slice_bounds-open_log-count : goal.slice_bounds-open_log-count
slice_bounds-open_log-count c =
    (part_s (goal.at.slice_bounds-open_log-count c).Start).from

pub slice_bounds-open_log-start : goal.slice_bounds-open_log-start
slice_bounds-open_log-start c =
    omega (arith, (part_s (goal.at.slice_bounds-open_log-start c).Start).from, (part_s (goal.at.slice_bounds-open_log-start c).Start).to)

pub slice_bounds-open_log-end : goal.slice_bounds-open_log-end
slice_bounds-open_log-end c =
    (part_s (goal.at.slice_bounds-open_log-end c).Start).to

pub open_log-requires : goal.open_log-requires
open_log-requires c =
    let s = (goal.at.open_log-requires c).Start in
    (omega arith, ((part_s s).long, (s.requires.1.1, room 131072 (32 * (s.args.z.s.rows - s.args.z.s.free)) (replicate 131072 0) refl (omega (arith, left s)))))

pub find-requires : goal.find-requires
find-requires c =
    let s = (goal.at.find-requires c).Start in
    (log_long (goal.at.find-requires c).After-open_log, (left s, left s))

pub slice_bounds-treat_firsts-count : goal.slice_bounds-treat_firsts-count
slice_bounds-treat_firsts-count c =
    (part_c (goal.at.slice_bounds-treat_firsts-count c).Start).from

pub slice_bounds-treat_firsts-start : goal.slice_bounds-treat_firsts-start
slice_bounds-treat_firsts-start c =
    omega (arith, (part_c (goal.at.slice_bounds-treat_firsts-start c).Start).from, (part_c (goal.at.slice_bounds-treat_firsts-start c).Start).to)

pub slice_bounds-treat_firsts-end : goal.slice_bounds-treat_firsts-end
slice_bounds-treat_firsts-end c =
    (part_c (goal.at.slice_bounds-treat_firsts-end c).Start).to

pub overflow_sub-c : goal.overflow_sub-c
overflow_sub-c c =
    free_le c.args.store.now c.args.z c.requires.0 table_c

pub treat_firsts-r-requires : goal.treat_firsts-r-requires
treat_firsts-r-requires c =
    let s = (goal.at.treat_firsts-r-requires c).Start in
    let a = s.args in
    let n = a.z.s.rows - a.z.s.free in
    let l = rows 32 n c.open_log.new.log in record { t_len = (((part_c s).long, (part_c s).most), (part_searchable a.store.now a.z s.requires.0 table_c refl, (omega (arith, s.requires.1.0), (log_long (goal.at.treat_firsts-r-requires c).After-open_log, left s)))); first_value = found_self l n c.find.new.first _ c.find.ensures (rows-length 32 n c.open_log.new.log) }

pub flag_before-requires : goal.flag_before-requires
flag_before-requires c =
    let s = (goal.at.flag_before-requires c).Start in
    (omega (arith, left s, c.find.auto.first), left s)

pub slice_bounds-close-count : goal.slice_bounds-close-count
slice_bounds-close-count c =
    (part_s (goal.at.slice_bounds-close-count c).Start).from

pub slice_bounds-close-start : goal.slice_bounds-close-start
slice_bounds-close-start c =
    omega (arith, (part_s (goal.at.slice_bounds-close-start c).Start).from, laid_inside _ _ _ (laid₁ (goal.at.slice_bounds-close-start c).After-treat_firsts-r) table_s)

pub slice_bounds-close-end : goal.slice_bounds-close-end
slice_bounds-close-end c =
    laid_inside _ _ _ (laid₁ (goal.at.slice_bounds-close-end c).After-treat_firsts-r) table_s

pub close-requires : goal.close-requires
close-requires c =
    let s = (goal.at.close-requires c).Start in
    let a = s.args in
    let r = laid_rows _ _ _ (laid₁ (goal.at.close-requires c).After-treat_firsts-r) table_s in record { t_len = (laid_long _ _ _ (laid₁ (goal.at.close-requires c).After-treat_firsts-r) table_s, omega (arith, (part_s s).most, c.flag_before.auto.flags)); t_value = (ap (Rattle.table.specs.Order.in_form (width_of table_s)) r ∙ formed a.store.now a.z s.requires.0 table_s, used_rows_lem a.store.now a.z s.requires.0 table_s ∙ sym (ap (λ (t : Table). length (Rattle.table.specs.Order.used_rows t)) r)) }

pub returns : goal.returns
returns c =
    let s = (goal.at.returns c).Start in
    let a = s.args in
    let b = a.store.now in
    let n = a.z.s.rows - a.z.s.free in
    let log = c.open_log.new.log in
    let l = rows 32 n log in
    let el = log_is (goal.at.returns c).After-open_log in
    let ys_c = c.treat_firsts-r.new.t in
    let r = c.treat_firsts-r.result in
    let t = rows (width_of table_c) a.z.c.rows (take (a.z.c.end - a.z.c.start) (drop a.z.c.start b)) in
    let first = c.find.new.first in
    let ef = c.flag_before.ensures ∙ ap (λ (x : List ℕ). flags_under r.upto x ++ drop n (replicate 4096 0)) (found_front l n first _ c.find.ensures (rows-length 32 n log)) in record {
      result_value = c.outcome.ensures ∙ answer_is b a.nonces.now a.token.now a.z s.requires.0 l el t (rows (width_of table_c) a.z.c.rows ys_c) (part_c s).same r.totals r.stopped c.treat_firsts-r.ensures.stopped_after r.upto c.treat_firsts-r.ensures.upto_value;
      store_after = store_is b a.nonces.now a.token.now a.z s.requires.0 l el t (rows (width_of table_c) a.z.c.rows ys_c) (part_c s).same r.totals r.stopped c.treat_firsts-r.ensures.stopped_after r.upto c.treat_firsts-r.ensures.upto_value
          c.flag_before.new.flags 4096 (omega (arith, (part_s s).most, ap length (part_s s).same, rows-length (width_of table_s) a.z.s.rows (take (a.z.s.end - a.z.s.start) (drop a.z.s.start b)))) ef
          _ (rows (width_of table_s) a.z.s.rows c.close.new.t) (laid_rows _ _ _ (laid₁ (goal.at.returns c).After-treat_firsts-r) table_s) c.close.ensures _
          (laid_back _ _ _ (laid₁ (goal.at.returns c).After-treat_firsts-r) table_s c.close.new.t c.close.auto.t).bytes;
    }
