-- Laws of what a line asks for: the first word that is no id, numbers, a token's making, and that every request is bounded.
use Prim.Native.Nat.{ℕ, suc, ◌+◌, ◌-◌, ◌/◌, ◌%◌, ◌<◌, ◌≤◌}
use mathlib.Core.Path.{◌≡◌, refl, sym, ap, ap₂, subst, ◌∙◌}
use mathlib.Core.Bool.{Bool, true, false, cond}
use mathlib.Core.List.{List}
use native.Mathlib.Omega.{arith}
use lib.Dec.{ltb, eqb}
use borrow.Author.Tests.{ltb-false}
use Rattle.octets.specs.Compare.{same}
use Rattle.text.specs.Ascii.{ascii}
use Rattle.text.specs.Hex.{is_id_of}
use Rattle.words.specs.Line.{word_at, word_count}
use Rattle.words.specs.Words.{command_of, words_fit}
use Rattle.words.specs.Decimal.{decimal_of}
use Rattle.std.specs.Prelude.{Option, Some, None}
use Rattle.words.specs.declared.Command.{Command}
use Rattle.words.specs.declared.Command.TheVariants.{New as New₀, Key as Key₀, Insert as Insert₀, Find as Find₀, Count as Count₀, Erase as Erase₀, Compact as Compact₀, Order as Order₀, Token as Token₀, Show as Show₀, Check as Check₀, Help as Help₀, Unknown}
use Rattle.request.specs.Request.{with_number, ids_from, first_bad, ids_given, new_of, insert_of, insert_by_of, find_of, count_of, erase_of, insert_token_of, making_by, making_of, has_token, request_by, request_with, request_of, Bounded}
use Rattle.request.specs.declared.Request.{Request}
use Rattle.request.specs.declared.Request.TheVariants.{Misused, NotId, Insert, Find, Count, Erase, Compact, FindToken, CountToken, CompactionToken, InsertBy, FindBy, CountBy, CompactBy}

-- the first word that is no id, before a word `end`: one that is, one that is none, no word left
module _ (line : List ℕ) (at end : ℕ) where
  pub bad_later : at < end → is_id_of (word_at at line) ≡ true → first_bad (end - (at + 1)) (at + 1) line ≡ first_bad (end - at) at line
  unfolding first_bad
  bad_later h e =
      sym (ap (λ (b : Bool). cond b (first_bad (end - (at + 1)) (at + 1) line) at) e)
      ∙ ap (λ (n : ℕ). first_bad n at line) (let n : suc (end - (at + 1)) ≡ end - at = omega arith in n)

  pub bad_here : at < end → is_id_of (word_at at line) ≡ false → first_bad (end - at) at line ≡ at
  unfolding first_bad
  bad_here h e =
      sym (ap (λ (n : ℕ). first_bad n at line) (let n : suc (end - (at + 1)) ≡ end - at = omega arith in n))
      ∙ ap (λ (b : Bool). cond b (first_bad (end - (at + 1)) (at + 1) line) at) e

  pub bad_none : end ≤ at → first_bad (end - at) at line ≡ at
  unfolding first_bad
  bad_none h = ap (λ (n : ℕ). first_bad n at line) (let n : end - at ≡ 0 = omega arith in n)

-- a line of as many words as its command takes, and another
module _ (line : List ℕ) (c : Command) (t b : Bool) (k : ℕ) (e : c ≡ command_of (word_at 0 line)) (g : t ≡ has_token line) (n : k ≡ word_count line) (f : b ≡ words_fit c t k) where
  asked_as : cond b (request_by c t line) (Misused c) ≡ request_of line
  unfolding request_of
  asked_as =
      ap (λ (x : Bool). cond x (request_by c t line) (Misused c)) (f ∙ ap (words_fit c t) n)
      ∙ ap₂ (λ (x : Command) (y : Bool). request_with x y line) e g

  pub asked : b ≡ true → request_by c t line ≡ request_of line
  asked h = sym (ap (λ (x : Bool). cond x (request_by c t line) (Misused c)) h) ∙ asked_as

  pub misused : b ≡ false → Misused c ≡ request_of line
  misused h = sym (ap (λ (x : Bool). cond x (request_by c t line) (Misused c)) h) ∙ asked_as

-- every request is bounded
bounded_number : (d : Option ℕ) (i : ℕ) (f : ℕ → Request) → ((n : ℕ) → Bounded (f n)) → Bounded (with_number d i f)
bounded_number (Some n) i f h = h n
bounded_number None i f h = tt

bounded_pick : (b : Bool) (p q : Request) → Bounded p → Bounded q → Bounded (cond b p q)
bounded_pick true p q h k = h
bounded_pick false p q h k = k

bounded_making : (c : Command) (n : ℕ) (line : List ℕ) → Bounded (making_by c n line)
unfolding insert_token_of
bounded_making New₀ n line = tt
bounded_making Key₀ n line = tt
bounded_making Insert₀ n line =
    bounded_pick (eqb n 7) _ (Misused Token₀) (bounded_number (decimal_of (word_at 5 line)) 5 _ (λ p. bounded_number (decimal_of (word_at 6 line)) 6 _ (λ u. tt))) tt
bounded_making Find₀ n line = bounded_pick (eqb n 5) FindToken (Misused Token₀) tt tt
bounded_making Count₀ n line = bounded_pick (eqb n 5) CountToken (Misused Token₀) tt tt
bounded_making Erase₀ n line = tt
bounded_making Compact₀ n line = bounded_pick (eqb n 3) CompactionToken (Misused Token₀) tt tt
bounded_making Order₀ n line = tt
bounded_making Token₀ n line = tt
bounded_making Show₀ n line = tt
bounded_making Check₀ n line = tt
bounded_making Help₀ n line = tt
bounded_making Unknown n line = tt

bounded_ids : (line : List ℕ) (first : ℕ) (f : ℕ → Request) → ((n : ℕ) → n ≤ 65 → Bounded (f n)) → Bounded (ids_from first line f)
bounded_ids line first f h =
    bounded_pick (ltb (first_bad (ids_given first line) first line) (first + ids_given first line)) (NotId (first_bad (ids_given first line) first line)) (f (ids_given first line)) tt (h (ids_given first line) (omega arith))

-- a number of pairs is told where it is at most 8
bounded_pairs : (n : ℕ) (b : Bool) → ltb 8 n ≡ b → Bounded (cond b (Misused Find₀) (Find n))
bounded_pairs n true e = tt
bounded_pairs n false e = omega (arith, ltb-false 8 n e)

bounded_find : (line : List ℕ) → Bounded (find_of line)
unfolding find_of
bounded_find line =
    let n : ℕ = word_count line - 3 in
    bounded_pick (eqb (n % 2) 0) _ (Misused Find₀) (bounded_pairs (n / 2) (ltb 8 (n / 2)) refl) tt

bounded_count : (n : ℕ) (p q : Request) (line : List ℕ) → Bounded p → Bounded q → Bounded (count_of n p q line)
unfolding count_of
bounded_count n p q line h k =
    bounded_pick (eqb (word_count line) n) p _ h (bounded_pick (eqb (word_count line) (n + 1)) _ (Misused Count₀) (bounded_pick (same (word_at n line) (ascii "--rows")) q (Misused Count₀) k tt) tt)

bounded_by : (c : Command) (b : Bool) (line : List ℕ) → Bounded (request_by c b line)
unfolding new_of insert_of insert_by_of erase_of making_of
bounded_by New₀ b line =
    bounded_number (decimal_of (word_at 2 line)) 2 _ (λ p. bounded_number (decimal_of (word_at 3 line)) 3 _ (λ m. bounded_number (decimal_of (word_at 4 line)) 4 _ (λ c. bounded_number (decimal_of (word_at 5 line)) 5 _ (λ s. bounded_number (decimal_of (word_at 6 line)) 6 _ (λ r. tt)))))
bounded_by Key₀ b line = tt
bounded_by Insert₀ b line =
    bounded_pick b _ _ (bounded_ids line 4 InsertBy (λ n h. h)) (bounded_number (decimal_of (word_at 5 line)) 5 _ (λ u. bounded_ids line 6 (Insert u) (λ n h. h)))
bounded_by Find₀ b line = bounded_pick b FindBy _ tt (bounded_find line)
bounded_by Count₀ b line = bounded_pick b _ _ (bounded_count 4 (CountBy false) (CountBy true) line tt tt) (bounded_count 5 (Count false) (Count true) line tt tt)
bounded_by Erase₀ b line = bounded_pick (is_id_of (word_at 2 line)) Erase (NotId 2) tt tt
bounded_by Compact₀ b line = bounded_pick b CompactBy Compact tt tt
bounded_by Order₀ b line = tt
bounded_by Token₀ b line = bounded_making (command_of (word_at 1 line)) (word_count line) line
bounded_by Show₀ b line = tt
bounded_by Check₀ b line = tt
bounded_by Help₀ b line = tt
bounded_by Unknown b line = tt

pub bounded : (line : List ℕ) (r : Request) → r ≡ request_of line → (r ≡ request_of line) × Bounded r
unfolding request_of
bounded line r e =
    (e, subst Bounded (sym e) (bounded_pick (words_fit (command_of (word_at 0 line)) (has_token line) (word_count line)) _ (Misused (command_of (word_at 0 line))) (bounded_by (command_of (word_at 0 line)) (has_token line) line) tt))
