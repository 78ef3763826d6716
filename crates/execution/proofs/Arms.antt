-- What a run with a key gives, put together from what its pieces give.
use Prim.Native.Nat.{ℕ, zero, suc, ◌-◌, min}
use mathlib.Core.Path.{◌≡◌, refl, sym, ap, ap₂, ◌∙◌}
use mathlib.Core.List.{List}
use native.Mathlib.Omega.{arith}
use lib.ListN.{length, take, drop, length-drop, drop_of_length-le}
use lib.Seq.{take_all}
use Rattle.answer.specs.declared.Refusal.{Refusal}
use Rattle.scheme.specs.Labels.{Field}
use Rattle.client.specs.Making.{field_of}
use Rattle.std.specs.Prelude.{Result}
use Rattle.store.specs.declared.Shape.{Shape}
use Rattle.std.specs.Prelude.{Err}
use Rattle.words.specs.Line.{word_at}
use Rattle.advice.specs.declared.Room.{Room}
use Rattle.commands.specs.Insert.{insert_result}
use Rattle.outcome.specs.declared.Outcome.{Outcome}
use Rattle.outcome.specs.declared.Outcome.TheVariants.{Refused}
use Rattle.lines.specs.Answer.{answer_line}
use Rattle.report.specs.Run.{field_in, show_by, shown_text}

-- the random bytes of an insert, parted: fewer than 12 are all the token's
pub clipped : (random : List ℕ) (a : ℕ) → a ≡ min 12 (length random) → take a random ≡ take 12 random
clipped random a e = go (length random - 12) refl
  where
    go : (k : ℕ) → length random - 12 ≡ k → take a random ≡ take 12 random
    go zero h = take_all a random (omega arith) ∙ sym (take_all 12 random (omega arith))
    go (suc k) h = ap (λ (n : ℕ). take n random) (let n : a ≡ 12 = omega arith in n)

pub rest : (random : List ℕ) (a : ℕ) → a ≡ min 12 (length random) → take (length random - a) (drop a random) ≡ drop 12 random
rest random a e =
    take_all (length random - a) (drop a random) (omega (arith, length-drop a random)) ∙ go (length random - 12) refl
  where
    go : (k : ℕ) → length random - 12 ≡ k → drop a random ≡ drop 12 random
    go zero h = drop_of_length-le random {i = a} (omega arith) ∙ sym (drop_of_length-le random {i = 12} (omega arith))
    go (suc k) h = ap (λ (n : ℕ). drop n random) (let n : a ≡ 12 = omega arith in n)

-- an insert with the line's words
pub inserted : (x : Result Shape Refusal) (before key : List ℕ) (u : ℕ) (line name value nonce ids nonces n k d : List ℕ)
    → name ≡ word_at 3 line → value ≡ word_at 4 line → nonce ≡ n → ids ≡ k → nonces ≡ d
    → insert_result x before key (field_of name value) u nonce ids nonces ≡ insert_result x before key (field_in line) u n k d
inserted x before key u line name value nonce ids nonces n k d e f g h i =
    ap (λ (z : Field). insert_result x before key z u nonce ids nonces) (ap₂ field_of e f)
    ∙ ap (λ (z : List ℕ). insert_result x before key (field_in line) u z ids nonces) g
    ∙ ap₂ (λ (y z : List ℕ). insert_result x before key (field_in line) u n y z) h i

-- a file that is no store, and one that is
pub shown_refused : (x : Result Shape Refusal) (e : Refusal) (room now : Room) → x ≡ Err e → room ≡ now → Refused e room ≡ show_by x now
shown_refused x e room now h k = ap (Refused e) k ∙ sym (ap (λ (z : Result Shape Refusal). show_by z now) h)

pub shown_text_lem : (x : Result Shape Refusal) (e : Refusal) (o : Outcome) → x ≡ Err e → answer_line o ≡ shown_text x o
shown_text_lem x e o h = sym (ap (λ (z : Result Shape Refusal). shown_text z o) h)
