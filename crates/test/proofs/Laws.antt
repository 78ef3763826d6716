-- The id's rows stand together, so what is left from one of them on decides a test; and each way out of a test is the definition's.
use Prim.Native.Nat.{ℕ, zero, suc, ◌+◌, ◌≤◌, ◌<◌}
use mathlib.Core.Path.{◌≡◌, refl, sym, ap, ◌∙◌}
use mathlib.Core.Bool.{Bool, true, false, cond, not, ◌&&◌, ◌||◌}
use mathlib.Core.Option.{Option, none, some}
use mathlib.Core.List.{List, [], ◌∷◌, ◌++◌, append-nil}
use native.Mathlib.Numerals.{add-one}
use native.Mathlib.Omega.{arith}
use lib.ListN.{length, get_or, take, drop, length-drop, drop_of_length-le}
use lib.Seq.{drop-cons, get_or-drop}
use borrow.Author.Tests.{eq-eqb, ne_eqb}
use Rattle.table.specs.Lists.{same, any_of}
use Rattle.table.specs.Table.{Row, Table, is_free, body, used}
use Rattle.table.proofs.Search.{starts_with}
use Rattle.hmac.specs.declared.Keyed.{Keyed}
use Rattle.answer.specs.Answer.{Answer, refused, refusal}
use Rattle.answer.specs.declared.Refusal.{Refusal}
use Rattle.answer.specs.Verdict.{verdict, answer_or}
use Rattle.scheme.specs.Keys.{mark_token_length}
use Rattle.scheme.specs.Store.{table_r, cut, state_tests, label_id, label_nonce, label_mark}
use Rattle.scheme.specs.Refusals.{id_tests, token_tests}
use Rattle.scheme.specs.Test.{carries, tests, yes_or_no, test_verdict, test}
use Rattle.suite.specs.Program.{program}
use Rattle.store.specs.declared.Shape.{Shape}
use Rattle.std.specs.Prelude.{Ok, Err}
use Rattle.store.specs.Check.{checked_of}
use Rattle.store.proofs.Laws.{unfit, fit_verdict}
use Rattle.format.specs.Tags.{r_mark_by, Prepared}
use Rattle.format.proofs.Tags.{r_mark_is}
use Rattle.test.specs.Marked.{carries_by, tests_by}

-- ---- a row after the other

module _ (q : List ℕ → Bool) where
  -- whether a row is used and passes
  abbrev pub hit : Row → Bool
  hit r = not (is_free r) && q (body r)

  any_next : (t : Table) (i : ℕ) → i < length t → any_of q (used (drop i t)) ≡ (hit (get_or t i []) || any_of q (used (drop (i + 1) t)))
  any_next t i h = rw (add-one i, drop-cons t i [] h) (go (is_free (get_or t i [])))
    where
      go : (f : Bool) → any_of q (cond f (used (drop (suc i) t)) (body (get_or t i []) ∷ used (drop (suc i) t))) ≡ ((not f && q (body (get_or t i []))) || any_of q (used (drop (suc i) t)))
      go true = refl
      go false = refl

  -- the rows before i do not pass
  pub left_next : (t : Table) (i : ℕ) → i < length t → hit (get_or t i []) ≡ false → any_of q (used (drop i t)) ≡ any_of q (used (drop (i + 1) t))
  left_next t i h e = any_next t i h ∙ ap (λ (b : Bool). b || any_of q (used (drop (i + 1) t))) e

  pub left_from : (t : Table) (i : ℕ) → i ≤ length t → ((j : ℕ) → j < i → hit (get_or t j []) ≡ false) → any_of q (used t) ≡ any_of q (used (drop i t))
  left_from t zero h n = refl
  left_from t (suc i) h n =
      left_from t i (omega arith) (λ j l. n j (omega arith)) ∙ left_next t i h (n i (omega arith)) ∙ ap (λ (k : ℕ). any_of q (used (drop k t))) (add-one i)

  pub left_found : (t : Table) (i : ℕ) → i < length t → hit (get_or t i []) ≡ true → any_of q (used (drop i t)) ≡ true
  left_found t i h e = any_next t i h ∙ ap (λ (b : Bool). b || any_of q (used (drop (i + 1) t))) e

  -- none from i on passes
  pub left_none : (t : Table) (i : ℕ) → ((j : ℕ) → i ≤ j → j < length t → hit (get_or t j []) ≡ false) → any_of q (used (drop i t)) ≡ false
  left_none t i n =
      left_from (drop i t) (length (drop i t)) (omega arith) (λ j l. ap hit (get_or-drop i t j []) ∙ n (i + j) (omega arith) (omega (arith, length-drop i t)))
      ∙ ap (λ (l : Table). any_of q (used l)) (drop_of_length-le (drop i t) {i = length (drop i t)} (omega arith))

-- ---- a row of R

-- what the rows from i on say of a test
abbrev pub left : Keyed → Table → List ℕ → ℕ → Bool
left rl t id i = any_of (carries_by rl id) (used (drop i t))

module _ (rl : Keyed) (id : List ℕ) (h : length id ≡ 16) where
  own : (r : Row) → hit (carries_by rl id) r ≡ (starts_with id r && same (label_mark (body r)) (r_mark_by rl (label_nonce (body r)) id))
  unfolding carries_by label_id
  own r =
      go (is_free r) (same (take 16 (body r)) id)
      ∙ ap (λ (n : ℕ). (not (is_free r) && same (take n (body r)) id) && same (label_mark (body r)) (r_mark_by rl (label_nonce (body r)) id)) (sym h)
    where
      go : (f s : Bool) → (not f && (s && same (label_mark (body r)) (r_mark_by rl (label_nonce (body r)) id))) ≡ ((not f && s) && same (label_mark (body r)) (r_mark_by rl (label_nonce (body r)) id))
      go true s = refl
      go false s = refl

  -- one that is not the id's does not pass; one that is passes by its R mark
  pub not_ids : (r : Row) → starts_with id r ≡ false → hit (carries_by rl id) r ≡ false
  not_ids r e = own r ∙ ap (λ (b : Bool). b && same (label_mark (body r)) (r_mark_by rl (label_nonce (body r)) id)) e

  pub of_id : (r : Row) → starts_with id r ≡ true → hit (carries_by rl id) r ≡ same (label_mark (body r)) (r_mark_by rl (label_nonce (body r)) id)
  of_id r e = own r ∙ ap (λ (b : Bool). b && same (label_mark (body r)) (r_mark_by rl (label_nonce (body r)) id)) e

-- a test begins with the rows from i on
pub left_begin : (rl : Keyed) (t : Table) (id : List ℕ) (i : ℕ) → i ≤ length t → ((j : ℕ) → j < i → hit (carries_by rl id) (get_or t j []) ≡ false) → tests_by rl t id ≡ left rl t id i
unfolding tests_by
left_begin rl t id i h n = left_from (carries_by rl id) t i h n

-- with the key that was prepared it is the scheme's test
pub tests_are : (k : Keyed) (rl id : List ℕ) (t : Table) → Prepared k rl → tests_by k t id ≡ tests program t rl id
unfolding tests_by tests carries_by carries
tests_are k rl id t p = ap (λ (m : List ℕ → List ℕ). any_of (λ b. same (label_id b) id && same (label_mark b) (m b)) (used t)) (λ i b. r_mark_is k rl (label_nonce b) id p i)

-- ---- each way out

module _ (before id token : List ℕ) where
  told : (o : Option Answer) → test_verdict program before id token ≡ o → answer_or o (yes_or_no (tests program ((cut before).table table_r) token id)) ≡ (test program before id token).answer
  unfolding test
  told o q = ap (λ (v : Option Answer). answer_or v (yes_or_no (tests program ((cut before).table table_r) token id))) (sym q)

  pub other_id : (length id ≡ 16 → ⊥) → refused 5 [] ≡ (test program before id token).answer
  unfolding test_verdict id_tests
  other_id h = told (some (refused 5 [])) (rw (ne_eqb (length id) 16 h) refl)

  module _ (h : length id ≡ 16) where
    pub other_length : (length token ≡ mark_token_length → ⊥) → refused 6 [] ≡ (test program before id token).answer
    unfolding test_verdict id_tests token_tests
    other_length n = told (some (refused 6 [])) (rw (eq-eqb (length id) 16 h, ne_eqb (length token) mark_token_length n) refl)

    module _ (l : length token ≡ mark_token_length) where
      from_state : test_verdict program before id token ≡ verdict (state_tests before ++ [])
      unfolding test_verdict id_tests token_tests
      from_state = rw (eq-eqb (length id) 16 h, eq-eqb (length token) mark_token_length l) (ap verdict (sym (append-nil (state_tests before))))

      pub unfit_store : (r : Refusal) → checked_of before ≡ Err r → refusal r ≡ (test program before id token).answer
      unfit_store r e = told (some (refusal r)) (from_state ∙ unfit before r [] e)

      pub fit_store : (z : Shape) (k : Keyed) (t : Table) (b : Bool) → checked_of before ≡ Ok z → Prepared k token → t ≡ (cut before).table table_r → b ≡ tests_by k t id → yes_or_no b ≡ (test program before id token).answer
      fit_store z k t b e p q r =
          ap yes_or_no (r ∙ tests_are k token id t p ∙ ap (λ (x : Table). tests program x token id) q) ∙ told none (from_state ∙ fit_verdict before z [] e)
