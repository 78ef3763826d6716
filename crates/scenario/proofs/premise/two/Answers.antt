-- The two halves of each list fill it.
use Prim.Native.Nat.{ℕ, ◌*◌, ◌-◌}
use mathlib.Core.Path.{◌≡◌, subst, ◌∙◌}
use mathlib.Core.List.{List}
use native.Mathlib.Omega.{arith}
use lib.ListN.{length, take, drop}
use Rattle.octets.specs.Part.{back}
use Rattle.scenario.specs.Premise.{PairTags}
use Rattle.scenario.proofs.Lists.{first_part, second_part, twice}
use Rattle.scenario.proofs.premise.two.Goals as goal

pub returns : goal.returns
returns c =
    let a = c.args in
    let one = c.read_pair in
    let other = c.read_pair-2 in
    let key = a.key.now in
    let m = a.m.now in
    let l = a.c.now in
    let v = 2 * a.half in
    let m₁ : List ℕ = one.new.m in
    let c₁ : List ℕ = one.new.c in
    let m₂ : List ℕ = other.new.m in
    let c₂ : List ℕ = other.new.c in
    let tags : ℕ → List ℕ → List ℕ → Type 0 = λ n. PairTags key n a.half in
    let h : length l ≡ 2 * v = omega (arith, c.requires.1.1) in
    let w = first_part m a.w (2 * a.w) c.requires.1.0 (omega arith) in
    let i : length m₁ ≡ a.w = one.auto.m ∙ w in
    let j : length c₁ ≡ v = one.auto.c ∙ first_part l v (2 * v) h (omega arith) in
    let again : length (take (2 * a.w - a.w) (drop a.w (back m 0 a.w m₁))) ≡ a.w = second_part m a.w (2 * a.w) c.requires.1.0 (omega arith) m₁ i ∙ omega arith in
    twice (tags a.w) m l m₁ m₂ c₁ c₂ a.w (2 * a.w) v (2 * v) c.requires.1.0 i h j (subst (λ (n : ℕ). tags n m₁ c₁) w one.ensures) (subst (λ (n : ℕ). tags n m₂ c₂) again other.ensures)
