-- The comparison, by the bytes of row j.
use Prim.Native.Nat.{ℕ, ◌+◌, ◌*◌, ◌≤◌, ◌<◌}
use mathlib.Core.Path.{◌≡◌, sym, ap, ap₂, ◌∙◌}
use mathlib.Core.List.{[], map}
use native.Mathlib.Nat.{add-sub_cancel_left}
use native.Mathlib.Omega.{arith}
use lib.ListN.{length, get_or, take, drop}
use Rattle.std.specs.Ordering.{nat_cmp}
use Rattle.std.specs.Cmp.Lexicographic.{slice_cmp}
use Rattle.table.specs.Table.{rows, used}
use Rattle.repeats.proofs.Keys.{inside, key_text, keys_length}
use Rattle.lacking.proofs.Walks.{meeting_none, meeting_here}
use Rattle.lacking.proofs.compare_id.Goals as goal
use Rattle.lacking.proofs.compare_id.Goals.{Else-u-j}

-- the row is a used one, and ends within the table
row : (c : Else-u-j) →
    let a = c.args in
    (a.j < a.u) × (a.w * a.j + a.w ≤ length a.t.now)
row c = let a = c.args in
    let h : a.j < a.u = omega (arith, c.if-u-j.false) in
    (h, (inside a.w a.n a.u a.t.now c.requires.0.1 c.requires.0.0.1 a.j h).1)

-- its id
id_of : (c : Else-u-j) →
    let a = c.args in
    get_or (map (take 16) (used (rows a.w a.n a.t.now))) a.j [] ≡ take 16 (drop (a.w * a.j + 1) a.t.now)
id_of c = let a = c.args in
    key_text a.w a.n a.u a.t.now c.requires.0.1 c.requires.0.0.1 16 a.j (omega (arith, c.requires.0.0.0)) (row c).0

within : (c : Else-u-j) →
    let a = c.args in
    a.j < length (map (take 16) (used (rows a.w a.n a.t.now)))
within c = let a = c.args in
    omega (arith, (row c).0, keys_length a.w a.u (rows a.w a.n a.t.now) c.requires.0.1 (take 16))

pub returns-then-u-j : goal.returns-then-u-j
returns-then-u-j c =
    let a = c.args in
    sym (meeting_none _ _ a.j (omega (arith, c.if-u-j.true, keys_length a.w a.u (rows a.w a.n a.t.now) c.requires.0.1 (take 16))))

pub returns : goal.returns
returns c =
    let a = c.args in
    let k = (goal.at.returns c).Else-u-j in
    c.cmp.ensures
    ∙ sym (meeting_here _ _ a.j (within k)
    ∙ ap₂ (slice_cmp nat_cmp) (id_of k ∙ ap (λ (m : ℕ). take m (drop (a.w * a.j + 1) a.t.now)) (sym (add-sub_cancel_left (a.w * a.j + 1) 16)))
    (ap (λ (m : ℕ). take m (drop a.a a.x.now)) (sym (add-sub_cancel_left a.a 16))))

pub overflow_mul-b : goal.overflow_mul-b
overflow_mul-b c = omega (arith, (row c).1)

pub overflow_add-b : goal.overflow_add-b
overflow_add-b c = omega (arith, (row c).1)

pub overflow_add-e : goal.overflow_add-e
overflow_add-e c = omega (arith, (row c).1, c.requires.0.0.0)

pub slice_bounds-cmp-end : goal.slice_bounds-cmp-end
slice_bounds-cmp-end c = omega (arith, (row c).1, c.requires.0.0.0)
