-- Laws of the header: what sizes in range are, and what a header that is not refused says of the slice.
use Prim.Native.Nat.{ℕ, ◌+◌, ◌*◌, ◌≤◌}
use mathlib.Core.Path.{◌≡◌, refl, sym, ap, ap₂, ◌∙◌}
use mathlib.Core.Bool.{Bool, false, not, ◌||◌}
use mathlib.Core.List.{List}
use lib.Dec.{ltb, eqb}
use lib.ListN.{length, get_or}
use borrow.Author.Tests.{ltb-false, eqb-true, not-false, le-ltb}
use Rattle.table.proofs.Counting.{neither}
use Rattle.scheme.specs.Store.{Sizes, header_length, rows_bad, sizes_bad, length_for, sizes_of, header_bad}

-- ---- sizes in range

pub record InRange (z : Sizes) : Type 0 where
  pub p_most : z.p ≤ 15
  pub m_least : 1 ≤ z.m
  pub m_most : z.m ≤ 4096
  pub c_least : 1 ≤ z.c
  pub c_most : z.c ≤ 4096
  pub s_least : 1 ≤ z.s
  pub s_most : z.s ≤ 4096
  pub r_least : 1 ≤ z.r
  pub r_most : z.r ≤ 4096

pub in_range : (z : Sizes) → sizes_bad z ≡ false → InRange z
unfolding sizes_bad
in_range z e =
    let p = neither (ltb 15 z.p) (rows_bad z.m || (rows_bad z.c || (rows_bad z.s || rows_bad z.r))) e in
    let q = neither (rows_bad z.m) (rows_bad z.c || (rows_bad z.s || rows_bad z.r)) p.1 in
    let x = neither (rows_bad z.c) (rows_bad z.s || rows_bad z.r) q.1 in
    let y = neither (rows_bad z.s) (rows_bad z.r) x.1 in
    let m = neither (ltb z.m 1) (ltb 4096 z.m) q.0 in
    let c = neither (ltb z.c 1) (ltb 4096 z.c) x.0 in
    let s = neither (ltb z.s 1) (ltb 4096 z.s) y.0 in
    let r = neither (ltb z.r 1) (ltb 4096 z.r) y.1 in
    record {
      p_most = ltb-false 15 z.p p.0;
      m_least = ltb-false z.m 1 m.0;
      m_most = ltb-false 4096 z.m m.1;
      c_least = ltb-false z.c 1 c.0;
      c_most = ltb-false 4096 z.c c.1;
      s_least = ltb-false z.s 1 s.0;
      s_most = ltb-false 4096 z.s s.1;
      r_least = ltb-false z.r 1 r.0;
      r_most = ltb-false 4096 z.r r.1;
    }

-- the length does not depend on p
pub length_shares : (z : Sizes) → length_for (record { p = 0; m = z.m; c = z.c; s = z.s; r = z.r }) ≡ length_for z
unfolding length_for
length_shares z = refl

-- a slice that 10 does not refuse
pub record GoodHeader (b : List ℕ) : Type 0 where
  pub long : header_length ≤ length b
  pub range : InRange (sizes_of b)
  pub whole : length b ≡ length_for (sizes_of b)

pub good_header : (b : List ℕ) → header_bad b ≡ false → GoodHeader b
unfolding header_bad
good_header b e =
    let p = neither (ltb (length b) header_length) (not (eqb (get_or b 0 0) 2) || (sizes_bad (sizes_of b) || not (eqb (length b) (length_for (sizes_of b))))) e in
    let q = neither (not (eqb (get_or b 0 0) 2)) (sizes_bad (sizes_of b) || not (eqb (length b) (length_for (sizes_of b)))) p.1 in
    let r = neither (sizes_bad (sizes_of b)) (not (eqb (length b) (length_for (sizes_of b)))) q.1 in
    record {
      long = ltb-false (length b) header_length p.0;
      range = in_range (sizes_of b) r.0;
      whole = eqb-true (length b) (length_for (sizes_of b)) (not-false (eqb (length b) (length_for (sizes_of b))) r.1);
    }

-- the sizes that were read out of a slice
pub sizes_read : (b : List ℕ) (p m c s r : ℕ) → p ≡ get_or b 1 0 → m ≡ 256 * get_or b 2 0 + get_or b 3 0 → c ≡ 256 * get_or b 4 0 + get_or b 5 0 → s ≡ 256 * get_or b 6 0 + get_or b 7 0
    → r ≡ 256 * get_or b 8 0 + get_or b 9 0 → record { p = p; m = m; c = c; s = s; r = r } ≡ sizes_of b
unfolding sizes_of
sizes_read b p m c s r ep em ec es er = λ i. record { p = ep i; m = em i; c = ec i; s = es i; r = er i }

pub header_read : (b : List ℕ) (z : Sizes) (k : ℕ) (range r : Bool) → header_length ≤ length b → z ≡ sizes_of b → range ≡ sizes_bad z → k ≡ length_for (record { p = 0; m = z.m; c = z.c; s = z.s; r = z.r })
    → r ≡ (not (eqb (get_or b 0 0) 2) || (range || not (eqb (length b) k))) → r ≡ header_bad b
unfolding header_bad
header_read b z k range r l e f g h =
    h
    ∙ ap₂ (λ (x : Bool) (y : ℕ). not (eqb (get_or b 0 0) 2) || (x || not (eqb (length b) y))) (f ∙ ap sizes_bad e) (g ∙ length_shares z ∙ ap length_for e)
    ∙ ap (λ (x : Bool). x || (not (eqb (get_or b 0 0) 2) || (sizes_bad (sizes_of b) || not (eqb (length b) (length_for (sizes_of b)))))) (sym (le-ltb (length b) header_length l))
