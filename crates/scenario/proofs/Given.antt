-- What a call gives, by the kind of its record, and what is read with a length.
use Prim.Native.Nat.{ℕ, ◌+◌, ◌≤◌, ◌<◌}
use mathlib.Core.Path.{◌≡◌, sym, subst}
use mathlib.Core.Bool.{false}
use mathlib.Core.List.{List, ◌++◌}
use borrow.Author.Tests.{lt-ltb, le-ltb, ne_eqb}
use lib.ListN.{length, take, drop}
use Rattle.octets.specs.Part.{written}
use Rattle.scheme.specs.Store.{Sizes, make}
use Rattle.scenario.specs.Given.{Called, changes, length_in, MadeIn, Overwritten}

-- the arm of a kind
pub of_kind : (k n : ℕ) (before after : List ℕ) → k ≡ n → Called before n after → Called before k after
of_kind k n before after e m = subst (λ (j : ℕ). Called before j after) (sym e) m

pub unchanged : (k : ℕ) → (k ≡ 4 → ⊥) → (k ≡ 5 → ⊥) → (k ≡ 8 → ⊥) → (k ≡ 9 → ⊥) → (k ≡ 12 → ⊥) → (k ≡ 19 → ⊥) → changes k ≡ false
unchanged k a b c d e f = simp (ne_eqb k 4 a, ne_eqb k 5 b, ne_eqb k 8 c, ne_eqb k 9 d, ne_eqb k 12 e, ne_eqb k 19 f)

-- a length in the room, or none
pub within : (room n : ℕ) → n ≤ room → n ≡ length_in room n
within room n h = rw (le-ltb room n h)

pub beyond : (room n : ℕ) → room < n → 0 ≡ length_in room n
beyond room n h = rw (lt-ltb room n h)

pub made_in : (before : List ℕ) (z : Sizes) (n : ℕ) (after : List ℕ) → n ≤ length before → after ≡ (make z (take n before)).store ++ drop n before → MadeIn before n after
made_in before z n after h e = record { sizes = z; n = n; told = within (length before) n h; made = rw (le-ltb (length before) n h) e }

pub none_made : (before : List ℕ) (z : Sizes) (n : ℕ) → length before < n → MadeIn before 0 before
none_made before z n h = record { sizes = z; n = n; told = beyond (length before) n h; made = rw (lt-ltb (length before) n h) }

module _ (before : List ℕ) (at : ℕ) (bytes : List ℕ) (few : length bytes ≤ 4096) where
  pub wrote_over : (after : List ℕ) → at + length bytes ≤ length before → after ≡ written before at bytes → Overwritten before after
  wrote_over after h e = record { at = at; bytes = bytes; few = few; made = rw (le-ltb (length before) (at + length bytes) h) e }

  pub wrote_none : length before < at + length bytes → Overwritten before before
  wrote_none h = record { at = at; bytes = bytes; few = few; made = rw (lt-ltb (length before) (at + length bytes) h) }
