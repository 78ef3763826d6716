-- The parts of a find token in the struct of keys (document 01, "Keys and tokens").
use Rattle.std.specs.Prelude.{◌≡◌, List, [], ◌∷◌, ◌++◌, ℕ}
use Rattle.scheme.specs.Labels.{Field}
use Rattle.scheme.specs.Keys.{share, field_mt, field_me, field_cl}
use Rattle.suite.specs.Program.{program}
use Rattle.keys.specs.declared.FieldKeys.{FieldKeys}

pub record Parts (K : List ℕ) (f : Field) (k : FieldKeys) : Type 0 where
  pub mt : k.mt ≡ field_mt program K f
  pub me : k.me ≡ field_me program K f
  pub cl : k.cl ≡ field_cl program K f

-- an insert token, of those parts, KS and RL [01:KT7] [02:W4.9]
unfoldable pub token : FieldKeys → List ℕ → List ℕ → ℕ → ℕ → List ℕ → List ℕ
token k ks rl p u nonce =
    ((p ∷ []) ++ (share program k.mt u ++ share program k.me u))
    ++ ((share program k.cl u ++ (nonce ++ program.E ks nonce (share program k.cl u))) ++ rl)
