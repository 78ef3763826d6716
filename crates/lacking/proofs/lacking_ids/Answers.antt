use Prim.Native.Nat.{ℕ, ◌+◌, ◌*◌, ◌≤◌, ◌<◌}
use mathlib.Core.Path.{◌≡◌, sym, ap, subst, ◌∙◌}
use mathlib.Core.Bool.{Bool, true, false, not}
use mathlib.Core.List.{List, []}
use native.Mathlib.Nat.{add-zero}
use native.Mathlib.Omega.{arith}
use lib.ListN.{length, get_or, take, drop}
use Rattle.table.specs.Lists.{bit}
use Rattle.table.specs.Table.{rows}
use Rattle.std.specs.declared.cmp.Ordering.{Ordering}
use Rattle.lacking.specs.Meetings.{met_before}
use Rattle.repeats.proofs.Keys.{Rising, inside, key_text, keys_length, rising}
use Rattle.lacking.proofs.Walks.{Walking, walk_start, walk_end, walk_same, walk_before, walk_past, Says, says}
use Rattle.lacking.proofs.lacking_ids.Goals as goal
use Rattle.lacking.proofs.lacking_ids.Goals.{else-not-was_met, then-not-was_met}
use Rattle.lacking.proofs.lacking_ids.Invariants.{ids}
use Rattle.lacking.proofs.lacking_ids.Lts.View as view
use Rattle.lacking.proofs.lacking_ids.Goals.{After-compare_id, In-Less, In-Equal, In-loop-k, Joined-not-was_met, Start}

module _ (s : Start) where
  abbrev xs : List (List ℕ)
  xs = ids s.args.w s.args.n s.args.t.now

  abbrev ys : List (List ℕ)
  ys = ids s.args.width s.args.m s.args.v.now

  long : length xs ≡ s.args.u
  long = keys_length s.args.w s.args.u (rows s.args.w s.args.n s.args.t.now) s.requires.le_w.1 (take 16)

  other : length ys ≡ s.args.used
  other = keys_length s.args.width s.args.used (rows s.args.width s.args.m s.args.v.now) s.requires.le_width.1 (take 16)

  up : Rising xs
  up = rising s.args.w s.args.u (rows s.args.w s.args.n s.args.t.now) s.requires.le_w.1 16

  up' : Rising ys
  up' = rising s.args.width s.args.used (rows s.args.width s.args.m s.args.v.now) s.requires.le_width.1 16

-- the row ends within the table
row : (c : In-loop-k) →
    let a = c.args in
    let i = c.loop-k.k in
    (i < length (xs c.before.before.before.before.before)) × (a.w * i + a.w ≤ length a.t.now)
row c = let s = c.before.before.before.before.before in
    let a = s.args in
    let i = c.loop-k.k in
    let h : i < a.u = omega (arith, c.loop-k-test.true) in
    (omega (arith, long s), (inside a.w a.n a.u a.t.now s.requires.le_w.1 s.requires.le_w.0.1 i h).1)

-- its id
text : (c : In-loop-k) →
    let a = c.args in
    let i = c.loop-k.k in
    get_or (xs c.before.before.before.before.before) i [] ≡ take 16 (drop (a.w * i + 1) a.t.now)
text c = let a = c.args in
    key_text a.w a.n a.u a.t.now c.requires.le_w.1 c.requires.le_w.0.1 16 c.loop-k.k (omega (arith, c.requires.le_w.0.0)) (omega (arith, c.loop-k-test.true))

-- what the comparison says of it
said : (c : After-compare_id) (k : Ordering) → c.compare_id.result ≡ k →
    let s = c.before.before.before.before.before.before in
    Says (get_or (xs s) c.loop-k.k []) (ys s) c.loop-k.j k
said c k e = let s = c.before.before.before.before.before.before in
    let j = c.loop-k.j in
    subst (λ (x : List ℕ). Says x (ys s) j k) (sym (text (view.up-In-loop-k _ _ _ _ _ _ c.before.before)))
    (subst (Says (take 16 (drop (s.args.w * c.loop-k.k + 1) s.args.t.now)) (ys s) j) (sym c.compare_id.ensures ∙ e) (says _ (ys s) j))

past : (c : Joined-not-was_met) (b : Bool) → c.was_met.result ≡ b →
    let s = c.before.before.before.before.before.before.before.before.before in
    let l = c.loop-k in
    Walking (xs s) (ys s) (l.k + 1) l.j (l.r + bit (not b))
past c b e = let s = c.before.before.before.before.before.before.before.before.before in
    let l = c.loop-k in
    let n = (view.up-In-loop-k _ _ _ _ _ _ c.before.before.before.before.before) in
    walk_past (xs s) (ys s) (up s) (up' s) l.k l.j l.r l.invariant (row n).0 b
    (said (view.up-After-compare_id _ _ _ _ _ _ c.before.before.before.before) Ordering.Greater c.in-Greater.is)
    (ap (λ (x : List ℕ). met_before x (ys s) l.j) (text n) ∙ sym c.was_met.ensures ∙ e)

-- where the walk has come to a row, that is a used one
here : (c : After-compare_id) → c.loop-k.j < length (ys c.before.before.before.before.before.before) → c.loop-k.j < c.args.used
here c h = omega (arith, other c.before.before.before.before.before.before)

here_1 : (c : In-Equal) → c.loop-k.j < c.args.used
here_1 c = here (view.up-After-compare_id _ _ _ _ _ _ c.before.before) (said (view.up-After-compare_id _ _ _ _ _ _ c.before.before) Ordering.Equal c.in-Equal.is).0

here_2 : (c : In-Less) → c.loop-k.j < c.args.used
here_2 c = here (view.up-After-compare_id _ _ _ _ _ _ c.before.before) (said (view.up-After-compare_id _ _ _ _ _ _ c.before.before) Ordering.Less c.in-Less.is).0

pub compare_id-requires : goal.compare_id-requires
compare_id-requires c =
    (c.requires.le_width, omega (arith, (row c).1, c.requires.le_w.0.0))

pub loop-k-preserved-in-Equal : goal.loop-k-preserved-in-Equal
loop-k-preserved-in-Equal c =
    let s = (goal.at.loop-k-preserved-in-Equal c).Start in
    let l = c.loop-k in
    let q = said (goal.at.loop-k-preserved-in-Equal c).After-compare_id Ordering.Equal c.in-Equal.is in
    walk_same (xs s) (ys s) (up s) (up' s) l.k l.j l.r l.invariant (row (goal.at.loop-k-preserved-in-Equal c).In-loop-k).0 q.0 q.1

pub loop-k-preserved-in-Less : goal.loop-k-preserved-in-Less
loop-k-preserved-in-Less c =
    let s = (goal.at.loop-k-preserved-in-Less c).Start in
    let l = c.loop-k in
    let q = said (goal.at.loop-k-preserved-in-Less c).After-compare_id Ordering.Less c.in-Less.is in
    walk_before (xs s) (ys s) (up s) (up' s) l.k l.j l.r l.invariant (row (goal.at.loop-k-preserved-in-Less c).In-loop-k).0 q.0 q.1

pub was_met-requires : goal.was_met-requires
was_met-requires c =
    let s = (goal.at.was_met-requires c).Start in
    (s.requires.le_width, (omega (arith, (row (goal.at.was_met-requires c).In-loop-k).1, s.requires.le_w.0.0), omega (arith, c.loop-k.invariant.by, other s)))

pub loop-k-preserved : goal.loop-k-preserved
loop-k-preserved c =
    let s = (goal.at.loop-k-preserved c).Start in
    let l = c.loop-k in
    elim c.if-not-was_met.branch [ then-not-was_met w ↦ subst (λ (r : ℕ). Walking (xs s) (ys s) (l.k + 1) l.j r) (sym w.r-is) (past c false (w.if-not-was_met.true)) | else-not-was_met w ↦ subst (λ (r : ℕ). Walking (xs s) (ys s) (l.k + 1) l.j r) (add-zero l.r ∙ sym w.r-is) (past c true (w.if-not-was_met.false)) ]

pub returns : goal.returns
returns c =
    let s = (goal.at.returns c).Start in
    let l = c.loop-k in
    walk_end (xs s) (ys s) l.k l.j l.r (omega (arith, c.loop-k-test.false, long s)) l.invariant

pub loop-k-init : goal.loop-k-init
loop-k-init c = walk_start (xs (goal.at.loop-k-init c).Start) (ys (goal.at.loop-k-init c).Start)

pub overflow_mul-a : goal.overflow_mul-a
overflow_mul-a c = omega (arith, (row c).1)

pub overflow_add-a : goal.overflow_add-a
overflow_add-a c = omega (arith, (row c).1)

pub overflow_add-j : goal.overflow_add-j
overflow_add-j c = omega (arith, here_1 c, c.ranges.used)

pub overflow_add-j-in-Less : goal.overflow_add-j-in-Less
overflow_add-j-in-Less c = omega (arith, here_2 c, c.ranges.used)

pub loop-k-smaller-in-Less : goal.loop-k-smaller-in-Less
loop-k-smaller-in-Less c = omega (arith, here_2 c)
