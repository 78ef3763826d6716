-- Equal tags stand together.
use Prim.Native.Nat.{ℕ, ◌+◌, ◌*◌, ◌-◌, ◌≤◌}
use mathlib.Core.Path.{◌≡◌, sym, ap, ap₂, ◌∙◌}
use mathlib.Core.Logic.{⊎_elim}
use mathlib.Core.List.{List, [], map}
use native.Mathlib.Omega.{arith}
use lib.ListN.{length, get_or, take}
use Rattle.table.specs.Lists.{same}
use Rattle.table.specs.Table.{Table, rows, used, place_of}
use Rattle.table.proofs.Counting.{same_true}
use Rattle.repeats.proofs.Keys.{inside, key_text, key_before, key_long, place_same, place_first}
use Rattle.matching.proofs.start.Goals as goal
use Rattle.matching.proofs.start.Goals.{After-alike, Else-i-lt1}

-- the row ends within the table
row : (c : Else-i-lt1) →
    let a = c.args in
    a.w * a.i + a.w ≤ length a.t.now
row c = let a = c.args in
    (inside a.w a.n a.u a.t.now c.requires.le_w.0.1 c.requires.le_w.0.0.1 a.i c.requires.le_w.1).1

-- what the comparison tells
compared : (c : After-alike) →
    let a = c.args in
    let l = map (take 32) (used (rows a.w a.n a.t.now)) in
    same (get_or l (a.i - 1) []) (get_or l a.i []) ≡ c.alike.result
compared c = let a = c.args in
    let p = c.requires.le_w in
    ap₂ same (key_before a.w a.n a.u a.t.now p.0.1 p.0.0.1 32 a.i (omega (arith, p.0.0.0)) (omega (arith, c.if-i-lt1.false)) p.1)
    (key_text a.w a.n a.u a.t.now p.0.1 p.0.0.1 32 a.i (omega (arith, p.0.0.0)) p.1)
    ∙ sym c.alike.ensures

pub returns-then-i-lt1 : goal.returns-then-i-lt1
returns-then-i-lt1 c =
    let a = c.args in
    let p = c.requires.le_w in
    sym (place_first a.w a.u (rows a.w a.n a.t.now) p.0.1 a.i p.1 (key_long a.w a.n a.u a.t.now p.0.1 p.0.0.1 32 a.i (omega (arith, p.0.0.0)) p.1) (omega (arith, c.if-i-lt1.true)))

pub alike-requires : goal.alike-requires
alike-requires c =
    (omega (arith, row c, c.requires.le_w.0.0.0), omega (arith, row c, c.requires.le_w.0.0.0))

pub returns-then-alike : goal.returns-then-alike
returns-then-alike c =
    let a = c.args in
    let t : Table = rows a.w a.n a.t.now in
    let l : List (List ℕ) = map (take 32) (used t) in
    let e : get_or l (a.i - 1) [] ≡ get_or l a.i [] = same_true (get_or l (a.i - 1) []) (get_or l a.i []) (compared (goal.at.returns-then-alike c).After-alike ∙ c.if-alike.true) in
    ⊎_elim (λ (z : a.i ≡ 0). absurd (omega (arith, c.if-i-lt1.false))) (λ f. f ∙ ap (λ (x : List ℕ). place_of x t) e) c.requires.i_value

pub returns-else-alike : goal.returns-else-alike
returns-else-alike c =
    let a = c.args in
    let p = c.requires.le_w in
    sym (place_same a.w a.u (rows a.w a.n a.t.now) p.0.1 a.i p.1 (key_long a.w a.n a.u a.t.now p.0.1 p.0.0.1 32 a.i (omega (arith, p.0.0.0)) p.1)
    (omega (arith, c.if-i-lt1.false)) (compared (goal.at.returns-else-alike c).After-alike ∙ c.if-alike.false))

pub overflow_mul-a : goal.overflow_mul-a
overflow_mul-a c = omega (arith, row c)

pub overflow_add-a : goal.overflow_add-a
overflow_add-a c = omega (arith, row c)
