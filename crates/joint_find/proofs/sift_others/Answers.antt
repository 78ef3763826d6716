-- The flags after the parts before the one at the place, then after those behind it.
-- where the function starts, and the flags after the first parts
use Prim.Native.Nat.{ℕ}
use mathlib.Core.List.{List}
use lib.ListN.{length}
use Rattle.table.specs.Table.{rows}
use Rattle.scheme.specs.Store.{table_m, table_r, width_of}
use Rattle.chains.specs.Chains.{kept_ids}
use Rattle.joint_find.proofs.Laws.{flags_are, before_part, all_parts, as_long}
use Rattle.joint_find.proofs.sift_others.Goals as goal
use Rattle.joint_find.proofs.sift_others.Lts.View as view
use Rattle.joint_find.proofs.sift_others.Goals.{After-sift_parts, After-sift_parts-arg-1, After-sift_parts-arg-2-1, Start}

abbrev start : After-sift_parts-arg-1 → Start
start c = c.before.before.before.before.before.before.before.before

abbrev sifted : After-sift_parts-arg-2-1 → After-sift_parts
sifted c = (view.up-After-sift_parts _ _ _ _ c.before.before.before.before)

abbrev flags_after : After-sift_parts → List ℕ
flags_after x = x.sift_parts.new.flags

pub sift_parts-requires : goal.sift_parts-requires
sift_parts-requires c =
    let s = start c in record { t_len = s.requires.t_len; labels_len = (s.requires.labels_len.0, before_part (length s.args.parts.now) s.args.n s.args.at s.requires.labels_len.1.0 s.requires.labels_len.1.1.0 s.requires.labels_len.1.1.1) }

pub sift_parts-requires-2 : goal.sift_parts-requires-2
sift_parts-requires-2 c =
    let x = sifted c in
    let s = start (goal.at.sift_parts-requires-2 c).After-sift_parts-arg-1 in
    let a = s.args in record { t_len = (s.requires.t_len.0, (s.requires.t_len.1.0, as_long a.found (length a.flags.now) (length (flags_after x)) s.requires.t_len.1.1 x.sift_parts.auto.flags)); labels_len = (s.requires.labels_len.0, (all_parts (length a.parts.now) a.n s.requires.labels_len.1.0, s.requires.labels_len.1.1.1)) }

pub returns : goal.returns
returns c =
    let y = c in
    let x = sifted (goal.at.returns c).After-sift_parts-arg-2-1 in
    let s = start (goal.at.returns c).After-sift_parts-arg-1 in
    let a = s.args in
    flags_are (rows (width_of table_r) a.r a.labels.now) a.parts.now a.n a.at s.requires.labels_len.1.1.0
    (kept_ids a.me (rows (width_of table_m) a.m a.t.now) a.index.now a.found) a.flags.now (flags_after x) y.sift_parts-2.new.flags x.sift_parts.ensures y.sift_parts-2.ensures
