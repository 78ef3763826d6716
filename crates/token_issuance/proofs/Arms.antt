-- What the making of a token gives, put together from what its pieces give.
use Prim.Native.Nat.{ℕ}
use mathlib.Core.Path.{◌≡◌, refl, sym, ap, ◌∙◌}
use mathlib.Core.List.{List, [], ◌∷◌}
use lib.ListN.{length}
use mathlib.Core.Option.{Option, none, some}
use Rattle.answer.specs.Answer.{Answer, done}
use Rattle.answer.specs.Verdict.{Test, verdict, answer_or, unless_refused}
use Rattle.client.specs.Making.{making_answer, making_token}
use Rattle.outcome.specs.Told.{told}
use Rattle.outcome.specs.declared.Outcome.{Outcome}
use Rattle.outcome.specs.declared.Outcome.TheVariants.{Number, Counted, Inspected, Compacted, Damaged, WrongKey, Refused, Done, BadWords}
use Rattle.lines.specs.Answer.{answer_line}
use Rattle.lines.specs.Ids.{hex_line}
use Rattle.report.proofs.Found.{never_done}
use Rattle.report.specs.Run.{made_text}

-- every outcome of a token's making but that it was made is told by its line
pub unmade : (o : Outcome) (token : List ℕ) → (o ≡ Done → ⊥) → answer_line o ≡ made_text o token
unmade (Number n) token h = refl
unmade (Counted n rows) token h = refl
unmade (Inspected f) token h = refl
unmade (Compacted t) token h = refl
unmade (Damaged t) token h = refl
unmade (WrongKey t) token h = refl
unmade (Refused r room) token h = refl
unmade Done token h = absurd (h refl)
unmade BadWords token h = refl

-- what a making told stands for the token that was written; its length is the array's
module _ (tests : List Test) (token given after : List ℕ) (e : after ≡ making_token tests token given) where
  pub made_text_lem : (o : Outcome) → told o ≡ making_answer tests → made_text o after ≡ made_text o token
  made_text_lem (Number n) h = refl
  made_text_lem (Counted n rows) h = refl
  made_text_lem (Inspected f) h = refl
  made_text_lem (Compacted t) h = refl
  made_text_lem (Damaged t) h = refl
  made_text_lem (WrongKey t) h = refl
  made_text_lem (Refused r room) h = refl
  made_text_lem Done h = go (verdict tests) refl h e
    where
      go : (v : Option Answer) → verdict tests ≡ v → done [] ≡ answer_or v (done []) → after ≡ unless_refused v token given → hex_line after ≡ hex_line token
      go none q k m = ap hex_line m
      go (some r) q k m = absurd (never_done tests [] (q ∙ ap some (sym k)))
  made_text_lem BadWords h = refl

  pub made_length : (n : ℕ) → (verdict tests ≡ none → length token ≡ n) → length given ≡ n → length after ≡ n
  made_length n h k = ap length e ∙ go (verdict tests) refl
    where
      go : (v : Option Answer) → verdict tests ≡ v → length (unless_refused v token given) ≡ n
      go none q = h q
      go (some r) q = k
