-- The number decides whether there is a second line.
use Prim.Native.Nat.{ℕ}
use mathlib.Core.Path.{◌≡◌, refl, sym}
use mathlib.Core.Bool.{cond}
use mathlib.Core.List.{List, [], ◌++◌, append-nil}
use native.Mathlib.Omega.{arith}
use lib.Dec.{eqb}
use borrow.Author.Tests.{eq-eqb, ne_eqb}
use Rattle.buffer.proofs.Laws.{then, said}
use Rattle.diagnosis.specs.Diagnosis.{fault_line}
use Rattle.diagnosis.proofs.put_fault.Goals as goal

silent : (n : ℕ) (x y : List ℕ) → n ≡ 0 → x ≡ x ++ cond (eqb n 0) [] y
silent n x y e = rw (eq-eqb n 0 e) (sym (append-nil x))

spoken : (n : ℕ) (y : List ℕ) → (n ≡ 0 → ⊥) → y ≡ cond (eqb n 0) [] y
spoken n y h = rw (ne_eqb n 0 h) refl

pub returns-then-n-eq0 : goal.returns-then-n-eq0
unfolding fault_line
returns-then-n-eq0 c =
    let p = c.put-a.ensures in
    let q = c.put_counted-b.ensures in
    (then p (said (silent _ _ _ c.if-n-eq0.true) q.0), omega (arith, p.ends, q.1))

pub returns : goal.returns
unfolding fault_line
returns c =
    let p = c.put-a.ensures in
    let q = c.put_counted-b.ensures in
    let r = c.put-e.ensures in
    let s = c.put.ensures in
    (then p (then q.0 (said (spoken _ _ c.if-n-eq0.false) (then r s))), omega (arith, p.ends, q.1, r.ends, s.ends))
