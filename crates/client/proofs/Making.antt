-- A call goes on with the token that was made, or ends where its making was refused.
use Prim.Native.Nat.{ℕ}
use mathlib.Core.Path.{◌≡◌, refl, sym, ap, ◌∙◌}
use mathlib.Core.Bool.{Bool, true, false, cond, ◌||◌}
use mathlib.Core.Option.{Option, none, some}
use mathlib.Core.List.{List, [], ◌∷◌, ◌++◌}
use native.Mathlib.Omega.{arith}
use lib.Dec.{ltb}
use lib.ListN.{length, length-append}
use Rattle.answer.specs.Answer.{Answer, done, refused, refusal}
use Rattle.answer.specs.declared.Refusal.{Refusal}
use Rattle.answer.specs.Verdict.{Test, ◌⇒◌, ◌⇒◌carrying◌, verdict, answer_or, unless_refused}
use Rattle.scheme.specs.Suite.{number8}
use Rattle.scheme.specs.Labels.{Field, label, field_lengths_bad}
use Rattle.scheme.specs.Keys.{KM, KC, KS, field_mt, field_me, field_cl, RL, find_token, count_token, compaction_token, mark_token, part_token}
use Rattle.scheme.specs.Refusals.{Result, length_not, insert_token_tests}
use Rattle.scheme.specs.Run.{made_or}
use Rattle.scheme.proofs.Verdicts.{passed, length_passed}
use Rattle.suite.specs.Program.{program}

first : (b : Bool) (n : ℕ) (l : List ℕ) (rest : Option Answer) → (done [] ≡ answer_or rest (done []) → rest ≡ none)
    → done [] ≡ answer_or (cond b (some (refused n l)) rest) (done []) → cond b (some (refused n l)) rest ≡ none
first true n l rest k e = absurd (let z : ◌≡◌ {A = ℕ} 0 1 = cc in omega arith)
first false n l rest k e = k e

-- what the making answered tells what its tests said
pub made : (ts : List Test) → done [] ≡ answer_or (verdict ts) (done []) → verdict ts ≡ none
made [] e = refl
made ((b ⇒ n) ∷ ts) e = first b n [] (verdict ts) (made ts) e
made ((b ⇒ n carrying l) ∷ ts) e = first b n l (verdict ts) (made ts) e

pub unmade : (ts : List Test) (r : Refusal) → refusal r ≡ answer_or (verdict ts) (done []) → verdict ts ≡ some (refusal r)
unmade ts r e = go (verdict ts) e
  where
    go : (o : Option Answer) → refusal r ≡ answer_or o (done []) → o ≡ some (refusal r)
    go none e = absurd (let z : ◌≡◌ {A = ℕ} 0 1 = cc in omega arith)
    go (some a) e = ap some (sym e)

pub token_made : (ts : List Test) (token lent now : List ℕ) → verdict ts ≡ none → now ≡ unless_refused (verdict ts) token lent → now ≡ token
token_made ts token lent now e f = f ∙ ap (λ (o : Option Answer). unless_refused o token lent) e

-- a call whose token was not made, and one whose token was
module _ (o : Option Answer) (result : Result) (before output : List ℕ) where
  pub call_unmade : (a : Answer) → o ≡ some a → made_or o result before output ≡ record { answer = a; store = before; output = output }
  call_unmade a e = ap (λ (x : Option Answer). made_or x result before output) e

  pub call_made : o ≡ none → made_or o result before output ≡ result
  call_made e = ap (λ (x : Option Answer). made_or x result before output) e

-- the same, by what the making answered
module _ (ts : List Test) (result : Result) (before output : List ℕ) where
  pub unmade_call : (r : Refusal) → refusal r ≡ answer_or (verdict ts) (done []) → made_or (verdict ts) result before output ≡ record { answer = refusal r; store = before; output = output }
  unmade_call r e = call_unmade (verdict ts) result before output (refusal r) (unmade ts r e)

  pub made_call : done [] ≡ answer_or (verdict ts) (done []) → made_or (verdict ts) result before output ≡ result
  made_call e = call_made (verdict ts) result before output (made ts e)

-- the tokens' lengths [01:KT8 KT9 KT10]
module _ (K : List ℕ) where
  pub count-length : (f : Field) → length (count_token program K f) ≡ 32
  unfolding count_token field_cl
  count-length f = program.f_length (KC program K) (label f)

  pub mark_length : (f : Field) → length (mark_token program K f) ≡ 32
  unfolding mark_token RL
  mark_length f = program.f_length (program.F K (number8 4)) (label f)

  pub find_length : (f : Field) → length (find_token program K f) ≡ 96
  unfolding find_token field_mt field_me field_cl
  find_length f =
      let mt = field_mt program K f in
      let me = field_me program K f in
      let cl = field_cl program K f in
      length-append mt (me ++ cl)
      ∙ omega (arith, length-append me cl, program.f_length (program.F (KM program K) (number8 1)) (label f), program.f_length (program.F (KM program K) (number8 2)) (label f), program.f_length (KC program K) (label f))

  pub part_length : (f : Field) → length (part_token program K f) ≡ 128
  unfolding part_token RL
  part_length f =
      length-append (find_token program K f) (program.F (program.F K (number8 4)) (label f)) ∙ omega (arith, find_length f, program.f_length (program.F K (number8 4)) (label f))

  pub compaction_length : length (compaction_token program K) ≡ 32
  unfolding compaction_token KS
  compaction_length = program.f_length K (number8 3)

-- an insert token is made with a nonce of 12 bytes
pub nonce_length : (K : List ℕ) (f : Field) (p u : ℕ) (nonce : List ℕ) → verdict (insert_token_tests K f p u nonce) ≡ none → length nonce ≡ 12
unfolding insert_token_tests
nonce_length K f p u nonce e =
    let a = passed (length_not 32 K) (refused 1 []) _ e in
    let b = passed (field_lengths_bad f) (refused 2 []) _ a.1 in
    let c = passed (ltb 15 p || ltb p u) (refused 3 []) _ b.1 in
    let d = passed (length_not 12 nonce) (refused 4 []) none c.1 in
    length_passed 12 nonce d.0
