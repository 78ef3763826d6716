use Prim.Native.Nat.{ℕ, zero, suc, ◌+◌, ◌*◌, ◌-◌, ◌≤◌, ◌<◌}
use mathlib.Core.Path.{◌≡◌, refl, ap, ◌∙◌}
use mathlib.Core.List.{List, []}
use native.Mathlib.Nat.{not-suc-le-zero}
use native.Mathlib.Omega.{arith}
use lib.ListN.{length, get_or, take, drop, set}
use lib.Seq.{get_or-take}
use Rattle.table.specs.Table.{Table, rows, body}
use Rattle.table.proofs.Walk.{row_end, body_tail}
use Rattle.matching.specs.Matching.{bucket_of, hinted}
use Rattle.matching.proofs.hint.Goals as goal
use Rattle.matching.proofs.hint.Goals.{In-loop-i}

-- the bucket of a row is that of the bytes after its mark
bucket_row : (w n i : ℕ) (t : List ℕ) → i < n → 33 ≤ w → bucket_of (drop (w * i + 1) t) ≡ bucket_of (body (get_or (rows w n t) i []))
unfolding bucket_of
bucket_row w n i t h k =
    let e : body (get_or (rows w n t) i []) ≡ take (w - 1) (drop (w * i + 1) t) = body_tail w n i 0 t h in
    rw (e, get_or-take (w - 1) (drop (w * i + 1) t) 0 0 (omega arith), get_or-take (w - 1) (drop (w * i + 1) t) 1 0 (omega arith)) refl

hinted_turn : (i b : ℕ) (t : Table) (hints : List ℕ) → 0 < i → b ≡ bucket_of (body (get_or t (i - 1) [])) → hinted (i - 1) t (set hints b (i - 1)) ≡ hinted i t hints
hinted_turn zero b t hints h e = absurd (not-suc-le-zero h)
hinted_turn (suc i) b t hints h e =
    let f : suc i - 1 ≡ i = omega arith in
    let g : b ≡ bucket_of (body (get_or t i [])) = e ∙ ap (λ (j : ℕ). bucket_of (body (get_or t j []))) f in
    rw (f, g) refl

-- the row is one of the table's, and ends within it
row : (c : In-loop-i) →
    let a = c.args in
    let i = c.loop-i.i in
    (0 < i) × (i - 1 < a.n) × (a.w * (i - 1) + a.w ≤ length a.t.now) × (i ≤ 4096)
row c = let a = c.args in
    let i = c.loop-i.i in
    let h : 0 < i = omega (arith, c.loop-i-test.true) in
    let k : i - 1 < a.n = omega (arith, c.requires.1.0.0) in
    (h, k, omega (arith, row_end a.w a.n (i - 1) k, c.requires.0.1), omega (arith, k, c.requires.1.0.1))

pub loop-i-preserved : goal.loop-i-preserved
loop-i-preserved c =
    let a = c.args in
    let l = c.loop-i in
    let r = row (goal.at.loop-i-preserved c).In-loop-i in
    let b = c.bucket-b in
    hinted_turn l.i b.result (rows a.w a.n a.t.now) l.hints r.0 (b.ensures.0 ∙ bucket_row a.w a.n (l.i - 1) a.t.now r.1 c.requires.0.0) ∙ l.invariant
