-- The hints, the flags of the tags that were reached, and the rows without one.
use Prim.Native.Nat.{ℕ, ◌-◌, ◌≤◌}
use mathlib.Core.Path.{◌≡◌, refl, ap, ◌∙◌}
use mathlib.Core.List.{List, map}
use native.Mathlib.Omega.{arith}
use lib.ListN.{length, drop}
use Rattle.table.specs.Table.{Table, rows, used}
use Rattle.matching.specs.Matching.{unflagged}
use Rattle.table.proofs.Rows.{rows-length, rows_wide}
use Rattle.repeats.proofs.Keys.{few, all_from, keys_length, tail_long}
use Rattle.matching.proofs.Flags.{unflagged-lacking}
use Rattle.matching.proofs.compare_tags.Goals as goal
use Rattle.matching.proofs.compare_tags.Goals.{Start}

-- no more rows are used than there are
within : (s : Start) → s.args.u ≤ s.args.n
within s = let a = s.args in
    omega (arith, few a.w a.u (rows a.w a.n a.t.now) s.requires.le_w.1, rows-length a.w a.n a.t.now)

pub hint-requires : goal.hint-requires
hint-requires c =
    let s = (goal.at.hint-requires c).Start in
    let p = s.requires.le_w.0 in
    ((p.0.0, p.1), ((within s, p.0.1), refl))

pub returns : goal.returns
returns c =
    let a = c.args in
    let p = c.requires.le_w in
    let q = c.requires.le_width in
    let t : Table = rows a.w a.n a.t.now in
    let l : List (List ℕ) = map (drop (a.width - 33)) (used (rows a.width a.m a.v.now)) in
    let r = c.reach-lost in record {
      left_value = c.unflagged-left.ensures
          ∙ ap (unflagged t) r.ensures.flags_after
          ∙ unflagged-lacking a.w a.u t p.1 p.0.0.0 (rows_wide a.w a.n a.t.now (omega (arith, p.0.1))) l
          (all_from (λ (y : List ℕ). length y ≡ 32) l (λ i h. tail_long a.width a.m a.used a.v.now q.1 q.0.1 i q.0.0 (omega (arith, keys_length a.width a.used (rows a.width a.m a.v.now) q.1 (drop (a.width - 33))))))
          4096 (omega (arith, rows-length a.w a.n a.t.now, p.0.0.1));
      lost_value = r.ensures.value;
    }
