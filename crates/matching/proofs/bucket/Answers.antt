-- Two bytes, joined as the definition does.
use Prim.Native.Nat.{ℕ, ◌+◌, ◌*◌, ◌/◌}
use mathlib.Core.Path.{◌≡◌, sym, ap, ap₂, ◌∙◌}
use mathlib.Core.List.{List}
use native.Mathlib.Nat.{add-zero}
use native.Mathlib.Omega.{arith}
use lib.ListN.{get_or, drop}
use lib.Seq.{get_or-drop}
use Rattle.matching.specs.Matching.{bucket_of}
use Rattle.matching.proofs.bucket.Goals as goal

bucket_is : (t : List ℕ) (a x y : ℕ) → x ≡ get_or t a 0 → y ≡ get_or t (a + 1) 0 → (256 * x + y) / 4 ≡ bucket_of (drop a t)
unfolding bucket_of
bucket_is t a x y e f =
    ap₂ (λ (m n : ℕ). (256 * m + n) / 4) (e ∙ sym (get_or-drop a t 0 0 ∙ ap (λ (i : ℕ). get_or t i 0) (add-zero a))) (f ∙ sym (get_or-drop a t 1 0))

pub returns : goal.returns
returns c =
    let a = c.args in
    let x = c.from in
    let y = c.from-2 in
    (bucket_is a.t.now a.a x.result y.result x.ensures y.ensures, omega (arith, c.type_inv.t a.a, c.type_inv.t (a.a + 1)))
