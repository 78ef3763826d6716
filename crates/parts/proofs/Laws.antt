-- Parts that are made one after the other: what is left decides what refuses the makings, and what stands in the slice goes before it.
use Prim.Native.Nat.{ℕ, suc, ◌+◌, ◌*◌, ◌-◌, ◌<◌, ◌≤◌}
use mathlib.Core.Path.{◌≡◌, sym, ap, ap₂, ◌∙◌}
use mathlib.Core.Option.{Option, none, some}
use mathlib.Core.List.{List, [], ◌∷◌, ◌++◌, append_assoc, append-nil}
use native.Mathlib.Nat.{sub-zero}
use native.Mathlib.Omega.{arith}
use lib.ListN.{length, take, length-append, replicate}
use lib.Seq.{take-add, take_all}
use Rattle.answer.specs.Answer.{Answer, done}
use Rattle.answer.specs.Verdict.{Test, verdict, answer_or, unless_refused}
use Rattle.octets.specs.Part.{back}
use Rattle.octets.proofs.Parts.{length_back, take_back, part_back}
use Rattle.scheme.specs.Suite.{number8}
use Rattle.scheme.specs.Labels.{Field, label}
use Rattle.scheme.specs.Keys.{RL, find_token, part_token}
use Rattle.scheme.specs.Call.{Part}
use Rattle.scheme.specs.Refusals.{field_token_tests}
use Rattle.scheme.specs.Run.{part_of, part_token_tests}
use Rattle.scheme.proofs.Verdicts.{or_else, verdict-append}
use Rattle.suite.specs.Program.{program}
use Rattle.client.specs.Making.{making_answer, making_token}
use Rattle.client.proofs.Making.{find_length}
use Rattle.parts.specs.Parts.{part_at, parts_from, parts_of, parts_tests, parts_bytes, made_parts}

-- a part's length [02:W4.18]
pub part_length : (K : List ℕ) (f : Field) → length (part_token program K f) ≡ 128
unfolding part_token RL
part_length K f =
    length-append (find_token program K f) (program.F (program.F K (number8 4)) (label f))
    ∙ omega (arith, find_length K f, program.f_length (program.F K (number8 4)) (label f))

module _ (line key : List ℕ) where
  -- pair i, then those after it
  next : (i n : ℕ) → i < n → parts_from line key i (n - i) ≡ part_at line key i ∷ parts_from line key (i + 1) (n - (i + 1))
  unfolding parts_from
  next i n h = ap (parts_from line key i) (let k : n - i ≡ suc (n - (i + 1)) = omega arith in k)

  none_left : (i n : ℕ) → n ≤ i → parts_from line key i (n - i) ≡ []
  unfolding parts_from
  none_left i n h = ap (parts_from line key i) (let k : n - i ≡ 0 = omega arith in k)

  -- i parts of n are made
  pub record Going (n i : ℕ) (to : List ℕ) : Type 0 where
    pub inside : i ≤ n
    pub size : length to ≡ 128 * n
    pub tests : verdict (parts_tests (parts_of line key n)) ≡ verdict (parts_tests (parts_from line key i (n - i)))
    pub bytes : parts_bytes (parts_of line key n) ≡ take (128 * i) to ++ parts_bytes (parts_from line key i (n - i))

  pub going_none : (n : ℕ) (to : List ℕ) → length to ≡ 128 * n → Going n 0 to
  going_none n to e =
      let k = sym (sub-zero n) in
      record { inside = omega arith; size = e; tests = ap (λ (m : ℕ). verdict (parts_tests (parts_of line key m))) k; bytes = ap (λ (m : ℕ). parts_bytes (parts_of line key m)) k }

  module _ (n i : ℕ) (to : List ℕ) (g : Going n i to) where
    module _ (h : i < n) where
      judged : verdict (parts_tests (parts_of line key n))
          ≡ or_else (verdict (part_token_tests (part_at line key i))) (verdict (parts_tests (parts_from line key (i + 1) (n - (i + 1)))))
      judged =
          g.tests
          ∙ ap (λ (l : List Part). verdict (parts_tests l)) (next i n h)
          ∙ verdict-append (part_token_tests (part_at line key i)) (parts_tests (parts_from line key (i + 1) (n - (i + 1))))

      -- a making that is refused
      pub going_stops : (r : Answer) → verdict (part_token_tests (part_at line key i)) ≡ some r → verdict (parts_tests (parts_of line key n)) ≡ some r
      going_stops r e = judged ∙ ap (λ (o : Option Answer). or_else o (verdict (parts_tests (parts_from line key (i + 1) (n - (i + 1)))))) e

      -- a part more
      pub going_on : (ys : List ℕ) (a e : ℕ) → a ≡ 128 * i → e ≡ a + 128 → verdict (part_token_tests (part_at line key i)) ≡ none
          → ys ≡ part_of program (part_at line key i) → Going n (i + 1) (back to a e ys)
      going_on ys a e ha he v y =
          let l : length ys ≡ 128 = ap length y ∙ part_length key (part_at line key i).field in
          let fits : e ≤ length to = omega (arith, g.size) in
          let k : 128 * (i + 1) ≡ a + (e - a) = omega arith in
          let front : take (128 * (i + 1)) (back to a e ys) ≡ take (128 * i) to ++ ys =
          ap (λ (m : ℕ). take m (back to a e ys)) k
          ∙ take-add a (e - a) (back to a e ys)
          ∙ ap₂ (λ (x z : List ℕ). x ++ z) (take_back to a e ys (omega arith) fits (omega arith) ∙ ap (λ (m : ℕ). take m to) ha) (part_back to a e ys (omega arith) fits (omega arith)) in
          let rest = parts_bytes (parts_from line key (i + 1) (n - (i + 1))) in
          record {
            inside = omega arith;
            size = length_back to a e ys (omega arith) fits (omega arith) ∙ g.size;
            tests = judged ∙ ap (λ (o : Option Answer). or_else o (verdict (parts_tests (parts_from line key (i + 1) (n - (i + 1)))))) v;
            bytes =
                g.bytes
                ∙ ap (λ (p : List Part). take (128 * i) to ++ parts_bytes p) (next i n h)
                ∙ ap (λ (x : List ℕ). take (128 * i) to ++ (x ++ rest)) (sym y)
                ∙ sym (append_assoc (take (128 * i) to) ys rest)
                ∙ ap (λ (x : List ℕ). x ++ rest) (sym front);
          }

    -- all parts are made
    module _ (h : n ≤ i) where
      pub going_passed : verdict (parts_tests (parts_of line key n)) ≡ none
      going_passed = g.tests ∙ ap (λ (l : List Part). verdict (parts_tests l)) (none_left i n h)

      pub going_all : to ≡ parts_bytes (parts_of line key n)
      going_all =
          sym (g.bytes ∙ ap (λ (l : List Part). take (128 * i) to ++ parts_bytes l) (none_left i n h) ∙ append-nil (take (128 * i) to) ∙ take_all (128 * i) to (omega (arith, g.size)))

-- what is left of parts that are made, and of parts that are not
pub parts_made : (parts : List Part) (n : ℕ) (to : List ℕ) → verdict (parts_tests parts) ≡ none → to ≡ parts_bytes parts → to ≡ made_parts parts n
unfolding made_parts
parts_made parts n to v e = e ∙ sym (ap (λ (o : Option Answer). unless_refused o (parts_bytes parts) (replicate (128 * n) 0)) v)

pub parts_refused : (parts : List Part) (n : ℕ) (to : List ℕ) (r : Answer) → verdict (parts_tests parts) ≡ some r → to ≡ replicate (128 * n) 0 → to ≡ made_parts parts n
unfolding made_parts
parts_refused parts n to r v e = e ∙ sym (ap (λ (o : Option Answer). unless_refused o (parts_bytes parts) (replicate (128 * n) 0)) v)

pub parts_were : (parts : List Part) (n : ℕ) (to : List ℕ) → verdict (parts_tests parts) ≡ none → to ≡ made_parts parts n → to ≡ parts_bytes parts
unfolding made_parts
parts_were parts n to v e = e ∙ ap (λ (o : Option Answer). unless_refused o (parts_bytes parts) (replicate (128 * n) 0)) v

-- the lent bytes of a making: by a field that is another's, where it was made, and where it was refused
pub held : (key : List ℕ) (g f : Field) (lent after : List ℕ) → g ≡ f → verdict (field_token_tests key f) ≡ none
    → after ≡ making_token (field_token_tests key g) (part_token program key g) lent → after ≡ part_token program key f
held key g f lent after e v h =
    h
    ∙ ap (λ (x : Field). making_token (field_token_tests key x) (part_token program key x) lent) e
    ∙ ap (λ (o : Option Answer). unless_refused o (part_token program key f) lent) v

module _ (ts : List Test) (token lent : List ℕ) where
  pub kept : (a : Answer) → verdict ts ≡ some a → lent ≡ making_token ts token lent
  kept a e = sym (ap (λ (o : Option Answer). unless_refused o token lent) e)

  pub put : (after : List ℕ) → verdict ts ≡ none → after ≡ token → (done [] ≡ making_answer ts) × (after ≡ making_token ts token lent)
  put after v e =
      (sym (ap (λ (o : Option Answer). answer_or o (done [])) v), e ∙ sym (ap (λ (o : Option Answer). unless_refused o token lent) v))
