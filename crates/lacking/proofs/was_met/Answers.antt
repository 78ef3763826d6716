-- The row before, where there is one.
use Prim.Native.Nat.{ℕ, ◌+◌, ◌*◌, ◌-◌, ◌≤◌, ◌<◌}
use mathlib.Core.Path.{◌≡◌, refl, sym, ap, ◌∙◌}
use mathlib.Core.Bool.{Bool, false}
use mathlib.Core.List.{List, []}
use native.Mathlib.Omega.{arith}
use lib.ListN.{length, get_or, take, drop}
use borrow.Author.Tests.{lt-ltb, le-ltb}
use Rattle.table.specs.Lists.{same}
use Rattle.lacking.specs.Meetings.{met_before}
use Rattle.repeats.proofs.Keys.{row_before, row_reach, inside, key_text}
use Rattle.lacking.proofs.was_met.Goals as goal
use Rattle.lacking.proofs.was_met.Goals.{Else-j-lt1}

none_before : (x : List ℕ) (l : List (List ℕ)) (j : ℕ) → j < 1 → false ≡ met_before x l j
unfolding met_before
none_before x l j h = rw (le-ltb 0 j (omega arith)) refl

one_before : (x : List ℕ) (l : List (List ℕ)) (j : ℕ) → 0 < j → (r : Bool) → r ≡ same x (get_or l (j - 1) []) → r ≡ met_before x l j
unfolding met_before
one_before x l j h r e = rw (lt-ltb 0 j h) e

-- the row before ends within the table
row : (c : Else-j-lt1) →
    let a = c.args in
    (0 < a.j) × (a.w * (a.j - 1) + a.w ≤ length a.t.now) × (a.w * a.j + 1 - a.w ≡ a.w * (a.j - 1) + 1) × (a.w ≤ a.w * a.j)
row c = let a = c.args in
    let h : 0 < a.j = omega (arith, c.if-j-lt1.false) in
    (h, (inside a.w a.n a.u a.t.now c.requires.0.1 c.requires.0.0.1 (a.j - 1) (omega (arith, c.requires.1.1))).1, row_before a.w a.j h, row_reach a.w a.j h)

pub returns-then-j-lt1 : goal.returns-then-j-lt1
returns-then-j-lt1 c = none_before _ _ _ (omega (arith, c.if-j-lt1.true))

pub alike-requires : goal.alike-requires
alike-requires c =
    (c.requires.1.0, omega (arith, row c, c.requires.0.0.0))

pub returns : goal.returns
returns c =
    let a = c.args in
    let r = row (goal.at.returns c).Else-j-lt1 in
    one_before _ _ a.j r.0 c.alike.result
    (c.alike.ensures
    ∙ ap (λ (k : ℕ). same (take 16 (drop a.a a.x.now)) (take 16 (drop k a.t.now))) r.2
    ∙ ap (same (take 16 (drop a.a a.x.now))) (sym (key_text a.w a.n a.u a.t.now c.requires.0.1 c.requires.0.0.1 16 (a.j - 1) (omega (arith, c.requires.0.0.0)) (omega (arith, c.requires.1.1)))))

pub overflow_mul-w : goal.overflow_mul-w
overflow_mul-w c = omega (arith, row c)

pub overflow_add-w : goal.overflow_add-w
overflow_add-w c = omega (arith, row c)
