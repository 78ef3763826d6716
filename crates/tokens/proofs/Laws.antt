-- The parts of a token, and a token put together of its pieces.
use mathlib.Core.Path.{◌≡◌, ap, ap₂, ◌∙◌}
use mathlib.Core.List.{List, [], ◌∷◌, ◌++◌, append_assoc, append-nil}
use Prim.Native.Nat.{ℕ, ◌-◌, ◌≤◌}
use native.Mathlib.Omega.{arith}
use lib.ListN.{length, drop, length-drop, drop_of_length-le}
use Rattle.octets.specs.Part.{back}
use Rattle.octets.proofs.Parts.{back_next}
use Rattle.scheme.specs.Suite.{number8}
use Rattle.scheme.specs.Labels.{Field, label}
use Rattle.scheme.specs.Keys.{KM, KC, KS, share, field_mt, field_me, field_cl, MT, ME, CL, RL, insert_token}
use Rattle.suite.specs.Program.{program}
use Rattle.keys.specs.declared.FieldKeys.{FieldKeys}
use Rattle.tokens.specs.Parts.{Parts, token}

-- each part of a find token has 32 bytes
pub length_parts : (K : List ℕ) (f : Field) (k : FieldKeys) → Parts K f k → (length k.mt ≡ 32) × (length k.me ≡ 32) × (length k.cl ≡ 32)
unfolding field_mt field_me field_cl
length_parts K f k e = (
  ap length e.mt ∙ program.f_length (program.F (KM program K) (number8 1)) (label f),
  ap length e.me ∙ program.f_length (program.F (KM program K) (number8 2)) (label f),
  ap length e.cl ∙ program.f_length (KC program K) (label f),
)

-- the pieces of an insert token are the token
pub token_is : (K : List ℕ) (f : Field) (k : FieldKeys) (ks rl : List ℕ) (p u : ℕ) (nonce : List ℕ) → Parts K f k → ks ≡ KS program K → rl ≡ RL program K f
    → token k ks rl p u nonce ≡ insert_token program K f p u nonce
unfolding token insert_token MT ME CL
token_is K f k ks rl p u nonce e s r =
    ap₂ (λ (x : List ℕ) (y : List ℕ). ((p ∷ []) ++ x) ++ y)
    (ap₂ (λ (x y : List ℕ). share program x u ++ share program y u) e.mt e.me)
    (ap₂ (λ (x y : List ℕ). x ++ y) (ap₂ (λ (x y : List ℕ). share program x u ++ (nonce ++ program.E y nonce (share program x u))) e.cl s) r)
    ∙ simp append_assoc

-- three parts that fill a list
pub thirds : (to x y z : List ℕ) (a b e : ℕ) → length to ≡ e → length x ≡ a → length (x ++ y) ≡ b → a ≤ b
    → back (back (back to 0 a x) a b y) b e z ≡ x ++ (y ++ z)
thirds to x y z a b e h k l m =
    ap (λ (w : List ℕ). back w b e z) (back_next x (drop (a - 0) to) y a b k) ∙ back_next (x ++ y) (drop (b - a) (drop (a - 0) to)) z b e l
    ∙ ap (λ (w : List ℕ). ((x ++ y) ++ z) ++ w)
    (drop_of_length-le (drop (b - a) (drop (a - 0) to)) {i = e - b} (omega (arith, length-drop (b - a) (drop (a - 0) to), length-drop (a - 0) to)))
    ∙ append-nil ((x ++ y) ++ z) ∙ append_assoc x y z
