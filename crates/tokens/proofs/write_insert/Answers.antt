-- Three parts: two of three pieces each, then RL.
use Prim.Native.Nat.{ℕ}
use mathlib.Core.Path.{◌≡◌, ap, ap₂, ◌∙◌}
use mathlib.Core.List.{List, [], ◌∷◌, ◌++◌}
use native.Mathlib.Omega.{arith}
use lib.ListN.{length, length-append}
use Rattle.octets.specs.Part.{back}
use Rattle.octets.proofs.Parts.{length_part, length_back}
use Rattle.chacha20.specs.Cipher.{E}
use Rattle.scheme.specs.Keys.{share}
use Rattle.suite.specs.Program.{program}
use Rattle.tokens.specs.Parts.{token}
use Rattle.tokens.proofs.Laws.{thirds}
use Rattle.tokens.proofs.write_insert.Goals as goal
use Rattle.tokens.proofs.write_insert.Goals.{After-three-2, Start}

abbrev start : After-three-2 → Start
start t = t.before.before.before.before.before.before.before.before.before.before.before.before.before.before.before.before.before.before.before.before.before.before.before.before.before.before.before

-- the first two parts, and how long they and the whole are
abbrev one : After-three-2 → List ℕ
one t = t.three.new.to

abbrev two : After-three-2 → List ℕ
two t = t.three-2.new.to

first : (t : After-three-2) → length (one t) ≡ 65
first t = t.three.auto.to ∙ length_part (start t).args.to.now 0 65 (omega (arith, (start t).requires.1))

whole : (t : After-three-2) → length (back (start t).args.to.now 0 65 (one t)) ≡ 173
whole t = length_back (start t).args.to.now 0 65 (one t) (omega arith) (omega (arith, (start t).requires.1)) (first t) ∙ (start t).requires.1

second : (t : After-three-2) → length (two t) ≡ 76
second t = t.three-2.auto.to ∙ length_part (back (start t).args.to.now 0 65 (one t)) 65 141 (omega (arith, whole t))

pub returns : goal.returns
unfolding token share program
returns c =
    let t = (goal.at.returns c).After-three-2 in
    let a = (start t).args in
    let clu = t.number_once-clu.ensures in
    thirds a.to.now (one t) (two t) c.copy.new.to 65 141 173 (start t).requires.1 (first t) (length-append (one t) (two t) ∙ omega (arith, first t, second t)) (omega arith)
    ∙ ap₂ (λ (x y : List ℕ). x ++ y)
    (t.three.ensures ∙ ap₂ (λ (x y : List ℕ). (a.p ∷ []) ++ (x ++ y)) t.number_once-mtu.ensures t.number_once-meu.ensures)
    (ap₂ (λ (x y : List ℕ). x ++ y)
    (t.three-2.ensures ∙ ap₂ (λ (x y : List ℕ). x ++ (a.nonce.now ++ y)) clu (t.apply_short.ensures ∙ ap (E a.ks.now a.nonce.now) clu))
    c.copy.ensures)
