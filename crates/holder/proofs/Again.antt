-- A line that was put together is read again as it was: it names the process and the host.
use Prim.Native.Nat.{ℕ, zero, suc, ◌+◌, ◌*◌, ◌-◌, ◌/◌, ◌%◌, ◌≤◌, ◌<◌}
use mathlib.Core.Path.{◌≡◌, refl, sym, ap, ap₂, ◌∙◌}
use mathlib.Core.Bool.{Bool, true, false, cond}
use mathlib.Core.List.{List, [], ◌∷◌, ◌++◌, append_assoc}
use native.Mathlib.Nat.{zero-add}
use native.Mathlib.Omega.{arith}
use borrow.Author.Tests.{le-ltb, eq-eqb, ne_eqb, ltb-true, ltb-false}
use lib.Dec.{eqb, ltb}
use lib.ListN.{length, get_or, drop, length-append}
use lib.Seq.{take_at, get_or_at, drop-append-add}
use Rattle.buffer.specs.Decimal.{spelled, decimal_text}
use Rattle.words.specs.Decimal.{step_of, further, decimal_of}
use Rattle.std.specs.Prelude.{Option, Some, None}
use Rattle.words.specs.Line.{before, beyond}
use Rattle.words.proofs.Laws.{first_digit}
use Rattle.octets.specs.Compare.{same}
use Rattle.holder.specs.Holder.{holder_at, holder_of}
use Rattle.holder.specs.Line.{line_of, up_to, is_ended, body_of, host_of, is_name, positive_of, process_of}

-- ---- a number's digits are read as the number

-- what a digit makes of what was read before it
abbrev step_from : Option ℕ → ℕ → Option ℕ
step_from (Some n) b = step_of n b
step_from None b = None

further_none : (p : Option ℕ) → further p [] ≡ p
unfolding further
further_none (Some n) = refl
further_none None = refl

further_last : (p : Option ℕ) (xs : List ℕ) (b : ℕ) → further p (xs ++ (b ∷ [])) ≡ step_from (further p xs) b
unfolding further
further_last (Some n) [] b = further_none (step_of n b)
further_last (Some n) (x ∷ xs) b = further_last (step_of n x) xs b
further_last None xs b = refl

digit_read : (m d n : ℕ) → m ≤ 99999999 → d < 10 → m * 10 + d ≡ n → step_of m (48 + d) ≡ Some n
digit_read m d n h k e =
    simp (le-ltb 99999999 m h, le-ltb (48 + d) 48 (omega arith), le-ltb 57 (48 + d) (omega arith))
    (ap Some (let z : m * 10 + (48 + d - 48) ≡ n = omega arith in z))

-- the last digit alone
one_read : (n : ℕ) → n < 10 → further (Some 0) ((48 + n % 10) ∷ []) ≡ Some n
unfolding further
one_read n h = further_none (step_of 0 (48 + n % 10)) ∙ digit_read 0 (n % 10) n (omega arith) (omega arith) (omega arith)

spelled_read : (k n : ℕ) → n ≤ k → n < 1000000000 → further (Some 0) (spelled k (ltb n 10) n) ≡ Some n
unfolding spelled
spelled_read zero n h l = one_read n (omega arith)
spelled_read (suc k) n h l = go (ltb n 10) refl (spelled_read k (n / 10))
  where
    go : (t : Bool) → ltb n 10 ≡ t
        → (n / 10 ≤ k → n / 10 < 1000000000 → further (Some 0) (spelled k (ltb (n / 10) 10) (n / 10)) ≡ Some (n / 10))
        → further (Some 0) (spelled (suc k) t n) ≡ Some n
    go true e again = one_read n (ltb-true n 10 e)
    go false e again =
        let more = ltb-false n 10 e in
        further_last (Some 0) (spelled k (ltb (n / 10) 10) (n / 10)) (48 + n % 10)
        ∙ ap (λ (p : Option ℕ). step_from p (48 + n % 10)) (again (omega arith) (omega arith))
        ∙ digit_read (n / 10) (n % 10) n (omega arith) (omega arith) (omega arith)

some_digit : (k : ℕ) (t : Bool) (n : ℕ) → 1 ≤ length (spelled k t n)
unfolding spelled
some_digit zero t n = omega arith
some_digit (suc k) true n = omega arith
some_digit (suc k) false n =
    omega (arith, length-append (spelled k (ltb (n / 10) 10) (n / 10)) ((48 + n % 10) ∷ []))

decimal_read : (n : ℕ) → n < 1000000000 → decimal_of (decimal_text n) ≡ Some n
unfolding decimal_text
decimal_read n h =
    sym (first_digit (spelled n (ltb n 10) n) (some_digit n (ltb n 10) n)) ∙ spelled_read n n (omega arith) h

-- ---- none of them is a space

past : (t : Bool) (p q l m : ℕ) → cond t 0 (suc p) ≡ suc l → (p ≡ l → q ≡ l + m) → cond t 0 (suc q) ≡ suc l + m
past true p q l m e h = absurd (omega arith)
past false p q l m e h = let k = h (omega arith) in omega arith

-- a text that does not hold b
skip : (b : ℕ) (xs ys : List ℕ) → before b xs ≡ length xs → before b (xs ++ ys) ≡ length xs + before b ys
unfolding before
skip b [] ys e = sym (zero-add (before b ys))
skip b (x ∷ xs) ys e =
    past (eqb x b) (before b xs) (before b (xs ++ ys)) (length xs) (before b ys) e (skip b xs ys)

digit_no_space : (n : ℕ) → before 32 ((48 + n % 10) ∷ []) ≡ 1
unfolding before
digit_no_space n = ap (λ (t : Bool). cond t 0 (suc 0)) (ne_eqb (48 + n % 10) 32 (λ e. omega arith))

no_space : (k : ℕ) (t : Bool) (n : ℕ) → before 32 (spelled k t n) ≡ length (spelled k t n)
unfolding spelled
no_space zero t n = digit_no_space n
no_space (suc k) true n = digit_no_space n
no_space (suc k) false n =
    let xs = spelled k (ltb (n / 10) 10) (n / 10) in
    skip 32 xs ((48 + n % 10) ∷ []) (no_space k (ltb (n / 10) 10) (n / 10))
    ∙ ap (λ (j : ℕ). length xs + j) (digit_no_space n)
    ∙ sym (length-append xs ((48 + n % 10) ∷ []))

-- ---- the line

-- a body and a line feed
ended : (xs : List ℕ) → is_ended (xs ++ (10 ∷ [])) ≡ true
ended xs =
    eq-eqb (get_or (xs ++ (10 ∷ [])) (length (xs ++ (10 ∷ [])) - 1) 0) 10
    (get_or_at xs 10 [] 0 (length (xs ++ (10 ∷ [])) - 1) (omega (arith, length-append xs (10 ∷ []))))

body_ended : (xs : List ℕ) → body_of (xs ++ (10 ∷ [])) ≡ xs
body_ended xs = take_at xs (10 ∷ []) (length (xs ++ (10 ∷ [])) - 1) (omega (arith, length-append xs (10 ∷ [])))

module _ (n : ℕ) (host : List ℕ) where
  abbrev digits : List ℕ
  digits = decimal_text n

  abbrev body : List ℕ
  body = digits ++ (32 ∷ host)

  line_is : line_of n host ≡ body ++ (10 ∷ [])
  line_is = append_assoc digits (32 ∷ []) (host ++ (10 ∷ [])) ∙ sym (append_assoc digits (32 ∷ host) (10 ∷ []))

  before_space : before 32 body ≡ length digits + 0
  unfolding before decimal_text
  before_space = skip 32 digits (32 ∷ host) (no_space n (ltb n 10) n)

  number_is : up_to 32 body ≡ digits
  number_is = take_at digits (32 ∷ host) (before 32 body) (omega (arith, before_space))

  beyond_is : beyond 32 body ≡ host
  beyond_is =
      ap (λ (k : ℕ). drop k body) (let k : suc (before 32 body) ≡ length digits + 1 = omega (arith, before_space) in k)
      ∙ drop-append-add digits (32 ∷ host) 1

  body_is : body_of (line_of n host) ≡ body
  body_is = ap body_of line_is ∙ body_ended body

  -- the host is read again
  pub host_again : host_of (line_of n host) ≡ host
  host_again = ap (beyond 32) body_is ∙ beyond_is

  -- and the process, where the host has a name
  pub process_again : 0 < n → n < 1000000000 → is_name host ≡ true → process_of (line_of n host) ≡ Some n
  process_again h l named =
      ap (λ (t : Bool). cond t (cond (is_name (host_of (line_of n host))) (positive_of (decimal_of (up_to 32 (body_of (line_of n host))))) None) None)
      (ap is_ended line_is ∙ ended body)
      ∙ ap (λ (t : Bool). cond t (positive_of (decimal_of (up_to 32 (body_of (line_of n host))))) None) (ap is_name host_again ∙ named)
      ∙ ap (λ (l : List ℕ). positive_of (decimal_of l)) (ap (up_to 32) body_is ∙ number_is)
      ∙ ap positive_of (decimal_read n l)
      ∙ ap (λ (t : Bool). cond t None (Some n)) (le-ltb n 1 (omega arith))

  -- who finds the line is told of the process, and whether the host is the one at hand
  pub holder_again : (here : List ℕ) → 0 < n → n < 1000000000 → is_name host ≡ true → holder_of (line_of n host) here ≡ holder_at (Some n) (same host here)
  holder_again here h l named = ap₂ holder_at (process_again h l named) (ap (λ (t : List ℕ). same t here) host_again)
