-- Each row of V of the id flags the row of M that it names; the first row of another id ends it.
use Prim.Native.Nat.{ℕ, ◌≤◌, ◌<◌}
use mathlib.Core.Path.{◌≡◌, refl, sym, ap, ◌∙◌}
use mathlib.Core.Bool.{false}
use mathlib.Core.List.{[]}
use native.Mathlib.Omega.{arith}
use lib.ListN.{length, get_or, take}
use Rattle.table.specs.Lists.{same}
use Rattle.table.specs.Table.{Table, rows}
use Rattle.table.proofs.Rows.{rows-length}
use Rattle.table.proofs.Order.{rows_counted, InForm, form_true}
use Rattle.table.proofs.Search.{free_row, first_most, starts_before, starts_after}
use Rattle.closing.specs.Flags.{flagged}
use Rattle.scheme.specs.Store.{table_m, table_v, width_of}
use Rattle.erase.proofs.Laws.{is_ids, flagged_begin, flagged_turn, flagged_done, tag_length, ids_start}
use Rattle.erase.proofs.flag_entries.Goals as goal
use Rattle.erase.proofs.flag_entries.Lts.View as view
use Rattle.erase.proofs.flag_entries.Goals.{After-lower-arg-1, After-lower-from, Start}

-- tables V and M

abbrev in_v : Start → Table
in_v s = rows (width_of table_v) s.args.k s.args.v.now

abbrev in_m : Start → Table
in_m s = rows (width_of table_m) s.args.n s.args.m.now

id_long : (c : After-lower-arg-1) → length c.args.id.now ≡ 16
id_long c = omega (arith, c.lower-arg-1.given)

-- a used row stands within the table

inside : (s : Start) (i : ℕ) → i < s.args.used → i < s.args.k
inside s i h = omega (arith, h, s.requires.m_len.1.1.number, rows_counted (in_v s), rows-length (width_of table_v) s.args.k s.args.v.now)

form_v : (s : Start) → InForm (width_of table_v) (in_v s)
form_v s = form_true (width_of table_v) (in_v s) s.requires.m_len.1.1.form

-- no row before the first is the id's

before : (c : After-lower-from) (j : ℕ) → j < c.lower-from.result → is_ids c.args.id.now (get_or (in_v c.before.before.before.before.before.before) j []) ≡ false
before c j h = let s = c.before.before.before.before.before.before in
    ids_start s.args.id.now (get_or (in_v s) j []) (id_long (view.up-After-lower-arg-1 _ _ _ _ _ _ c.before.before))
    ∙ starts_before (width_of table_v) (in_v s) (form_v s) s.requires.m_len.1.1.marks s.args.id.now j (omega (arith, h, c.lower-from.ensures))

-- nor any from one that is not, or from the used ones on

behind : (c : After-lower-from) (i : ℕ) → c.lower-from.result ≤ i → is_ids c.args.id.now (get_or (in_v c.before.before.before.before.before.before) i []) ≡ false
    → (j : ℕ) → i ≤ j → j < length (in_v c.before.before.before.before.before.before) → is_ids c.args.id.now (get_or (in_v c.before.before.before.before.before.before) j []) ≡ false
behind c i h e j l m = let s = c.before.before.before.before.before.before in
    let q = id_long (view.up-After-lower-arg-1 _ _ _ _ _ _ c.before.before) in
    ids_start s.args.id.now (get_or (in_v s) j []) q
    ∙ starts_after (width_of table_v) (in_v s) (form_v s) s.requires.m_len.1.1.marks s.args.id.now i j (omega (arith, h, c.lower-from.ensures)) (sym (ids_start s.args.id.now (get_or (in_v s) i []) q) ∙ e) l m

past : (s : Start) (j : ℕ) → s.args.used ≤ j → j < length (in_v s) → is_ids s.args.id.now (get_or (in_v s) j []) ≡ false
past s j h l = rw (free_row (width_of table_v) (in_v s) (form_v s) j (omega (arith, h, s.requires.m_len.1.1.number)) l) refl

first_inside : (c : After-lower-from) → c.lower-from.result ≤ c.args.used
first_inside c = let s = c.before.before.before.before.before.before in
    omega (arith, c.lower-from.ensures, first_most (width_of table_v) (in_v s) (form_v s) s.requires.m_len.1.1.marks s.args.id.now, s.requires.m_len.1.1.number)

pub lower-from-requires : goal.lower-from-requires
lower-from-requires c =
    record {
      key_len_bound = (omega (arith, c.lower-arg-1.given), c.requires.m_len.1.0);
      t_value = (c.requires.m_len.1.1.form, (c.requires.m_len.1.1.marks, c.requires.m_len.1.1.number));
    }

pub loop-i-init : goal.loop-i-init
loop-i-init c =
    let s = (goal.at.loop-i-init c).Start in (
      first_inside c,
      (
        omega arith,
        flagged_begin s.args.id.now (in_v s) (in_m s) s.args.flags.now c.lower-from.result
            (omega (arith, first_inside c, s.requires.m_len.1.1.number, rows_counted (in_v s))) (before c),
      ),
    )

pub is_reverse-requires : goal.is_reverse-requires
is_reverse-requires c =
    let s = (goal.at.is_reverse-requires c).Start in (inside s c.loop-i.i c.loop-i-test.true, s.requires.m_len.1.0)

pub shape_of-flags-then-not-is_reverse : goal.shape_of-flags-then-not-is_reverse
shape_of-flags-then-not-is_reverse c =
    c.loop-i.invariant.1.1.long

pub returns-then-not-is_reverse : goal.returns-then-not-is_reverse
returns-then-not-is_reverse c =
    let s = (goal.at.returns-then-not-is_reverse c).Start in
    flagged_done s.args.id.now (in_v s) (in_m s) s.args.flags.now c.loop-i.i c.loop-i.flags c.loop-i.invariant.1.1
    (behind (goal.at.returns-then-not-is_reverse c).After-lower-from c.loop-i.i c.loop-i.invariant.1.0 (sym c.is_reverse.ensures ∙ c.if-not-is_reverse.true))

pub tag_at-tag-requires : goal.tag_at-tag-requires
tag_at-tag-requires c =
    let s = (goal.at.tag_at-tag-requires c).Start in (inside s c.loop-i.i c.loop-i-test.true, s.requires.m_len.1.0)

pub flag-requires : goal.flag-requires
flag-requires c =
    let s = (goal.at.flag-requires c).Start in
    let l = tag_length s.args.v.now s.args.k c.loop-i.i (inside s c.loop-i.i c.loop-i-test.true) s.requires.m_len.1.0 in record {
      key_len_bound = (omega (arith, ap length c.tag_at-tag.ensures, l), (s.requires.m_len.0.0, omega (arith, c.loop-i.invariant.1.1.long, s.requires.n_in_bounds)));
      t_value = (s.requires.m_len.0.1.form, (s.requires.m_len.0.1.marks, s.requires.m_len.0.1.number));
    }

pub loop-i-preserved : goal.loop-i-preserved
loop-i-preserved c =
    let s = (goal.at.loop-i-preserved c).Start in
    let i = c.loop-i.i in
    let h = inside s i c.loop-i-test.true in
    let t = c.tag_at-tag.result in
    let l : length t ≡ 32 = ap length c.tag_at-tag.ensures ∙ tag_length s.args.v.now s.args.k i h s.requires.m_len.1.0 in (
      omega (arith, c.loop-i-test.true),
      (
        omega (arith, c.loop-i.invariant.1.0),
        flagged_turn s.args.id.now (in_v s) (in_m s) s.args.flags.now i c.loop-i.flags c.flag.new.flags t c.loop-i.invariant.1.1
            (omega (arith, h, rows-length (width_of table_v) s.args.k s.args.v.now)) (sym c.is_reverse.ensures ∙ c.if-not-is_reverse.false) c.tag_at-tag.ensures
            (c.flag.ensures.flags_after ∙ ap (λ (n : ℕ). flagged (λ b. same (take n b) t) (in_m s) c.loop-i.flags) l) c.flag.auto.flags,
      ),
    )

pub shape_of-flags : goal.shape_of-flags
shape_of-flags c =
    c.loop-i.invariant.1.1.long

pub returns : goal.returns
returns c =
    let s = (goal.at.returns c).Start in
    flagged_done s.args.id.now (in_v s) (in_m s) s.args.flags.now c.loop-i.i c.loop-i.flags c.loop-i.invariant.1.1
    (λ j h l. past s j (omega (arith, h, c.loop-i-test.false)) l)
