-- Laws of a line's words: how long the first is, the line after it, and how many there are.
use Prim.Native.Nat.{ℕ, zero, suc, ◌+◌, ◌-◌, ◌<◌, ◌≤◌}
use mathlib.Core.Path.{◌≡◌, refl, sym, ap, ◌∙◌}
use mathlib.Core.Bool.{Bool, true, false, cond, not}
use mathlib.Core.List.{List}
use native.Mathlib.Numerals.{add-one}
use native.Mathlib.Omega.{arith}
use borrow.Author.Tests.{ltb-false}
use lib.Dec.{eqb, ltb}
use lib.ListN.{length, take, drop, length-take, length-drop, drop_of_length-le}
use lib.Seq.{take_all}
use Rattle.std.specs.Prelude.{Option, Some, None, unwrap_or}
use Rattle.std.specs.List.{count_by, position, position_or_len}
use Rattle.std.proofs.lemmas.List.Recursion.{is_count_by, is_position_or_len}
use Rattle.std.proofs.lemmas.List.Sums.{prefix_len-le-length}
use Rattle.words.specs.Line.{before, beyond, word_length, after_word, from_word, word_at, word_count}

-- what stands before a byte and the number of words, by std's words
before_is : (b : ℕ) (text : List ℕ) → before b text ≡ position_or_len (λ x. eqb x b) text
unfolding before
before_is b text =
    is_position_or_len (before b) (λ x. eqb x b) refl (λ x xs. ap (λ (n : ℕ). cond (eqb x b) 0 n) (let e : suc (before b xs) ≡ 1 + before b xs = omega arith in e)) text

pub word_count_is : (line : List ℕ) → word_count line ≡ count_by (λ b. eqb b 0) line
unfolding word_count
word_count_is line =
    is_count_by word_count (λ b. eqb b 0) refl (λ x xs. ap (λ (n : ℕ). cond (eqb x 0) n (word_count xs)) (let e : suc (word_count xs) ≡ 1 + word_count xs = omega arith in e)) line

-- where the first b stands, or how long the text is where there is none
pub first_found : (b : ℕ) (text : List ℕ) (found : Option ℕ) (n : ℕ) → found ≡ position (λ x. eqb x b) text → n ≡ unwrap_or found (length text) → n ≡ before b text
first_found b text found n f e = e ∙ ap (λ (o : Option ℕ). unwrap_or o (length text)) f ∙ go (ltb at (length text)) refl
  where
    at : ℕ
    at = position_or_len (λ x. eqb x b) text

    go : (t : Bool) → ltb at (length text) ≡ t → unwrap_or (cond t (Some at) None) (length text) ≡ before b text
    go true e = sym (before_is b text)
    go false e =
        omega (arith, ltb-false at (length text) e, before_is b text, prefix_len-le-length (λ x. not (eqb x b)) text)

-- a text from a place to its end
to_end : (text : List ℕ) (s : ℕ) → take (length text - s) (drop s text) ≡ drop s text
to_end text s = take_all (length text - s) (drop s text) (omega (arith, length-drop s text))

-- what stands after a byte that is there, and after one that is not
pub beyond_found : (text : List ℕ) (b e : ℕ) → e ≡ before b text → take (length text - (e + 1)) (drop (e + 1) text) ≡ beyond b text
beyond_found text b e h = to_end text (e + 1) ∙ ap (λ (k : ℕ). drop k text) (add-one e ∙ ap suc h)

pub beyond_none : (text : List ℕ) (b e : ℕ) → e ≡ before b text → length text ≤ e → take (length text - e) (drop e text) ≡ beyond b text
beyond_none text b e h l =
    to_end text e ∙ drop_of_length-le text l ∙ sym (drop_of_length-le text {i = suc (before b text)} (omega arith))

-- the next word to come to
pub from_next : (line rest : List ℕ) (i passed : ℕ) → passed < i → rest ≡ after_word line → from_word (i - (passed + 1)) rest ≡ from_word (i - passed) line
unfolding from_word
from_next line rest i passed h e =
    ap (from_word (i - (passed + 1))) e
    ∙ ap (λ (n : ℕ). from_word n line) (let n : suc (i - (passed + 1)) ≡ i - passed = omega arith in n)

pub from_none : (line : List ℕ) (left : ℕ) → left ≤ 0 → line ≡ from_word left line
unfolding from_word
from_none line zero h = refl
from_none line (suc k) h = absurd (omega arith)

-- no word is longer than its line
pub from_short : (i : ℕ) (line : List ℕ) → length (from_word i line) ≤ length line
unfolding from_word
from_short zero line = omega arith
from_short (suc i) line =
    omega (arith, from_short i (after_word line), length-drop (suc (word_length line)) line)

pub word_short : (i : ℕ) (line : List ℕ) → length (word_at i line) ≤ length line
unfolding word_at
word_short i line =
    omega (arith, from_short i line, length-take (word_length (from_word i line)) (from_word i line))
