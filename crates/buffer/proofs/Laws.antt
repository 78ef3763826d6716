-- Laws of a line that is put together piece by piece.
use Prim.Native.Nat.{ℕ, ◌+◌, ◌≤◌}
use mathlib.Core.Path.{◌≡◌, refl, sym, ap, subst, ◌∙◌}
use mathlib.Core.List.{List, [], ◌++◌}
use native.Mathlib.Omega.{arith}
use lib.ListN.{length, length-append}
use lib.Seq.{length-take-le}
use Rattle.octets.specs.Part.{written}
use Rattle.octets.proofs.Parts.{length-written, written_none, written_more}
use Rattle.io.specs.Counts.{IsPrefixLen}
use Rattle.buffer.specs.Put.{Put}

-- one piece
pub put_written : (to text after : List ℕ) (at : ℕ) → at + length text ≤ length to → after ≡ written to at text
    → Put to at text after (at + length text)
put_written to text after at h e = record { ends = refl; holds = e; room = h }

-- none
pub nothing : (to : List ℕ) → Put to 0 [] to 0
nothing to = record { ends = refl; holds = sym (written_none to 0); room = omega arith }

-- the slice keeps its length
pub kept : {a x b : List ℕ} {i j : ℕ} → Put a i x b j → length b ≡ length a
kept {a} {x} {b} {i} {j} p = ap length p.holds ∙ length-written a x i (omega (arith, p.ends, p.room))

-- a piece after another
pub then : {a x b y d : List ℕ} {i j k : ℕ} → Put a i x b j → Put b j y d k → Put a i (x ++ y) d k
then {a} {x} {b} {y} {d} {i} {j} {k} p q = record {
  ends = omega (arith, p.ends, q.ends, length-append x y);
  holds =
      q.holds
      ∙ ap (λ (l : List ℕ). written l j y) p.holds
      ∙ ap (λ (n : ℕ). written (written a i x) n y) p.ends
      ∙ written_more a x y i (omega (arith, p.ends, p.room));
  room = omega (arith, q.room, kept p);
}

-- the same piece, said otherwise
pub said : {a text line b : List ℕ} {i k : ℕ} → text ≡ line → Put a i text b k → Put a i line b k
said {a} {text} {line} {b} {i} {k} e p = subst (λ (l : List ℕ). Put a i l b k) e p

-- the end lies within the slice
pub counts : {a x b : List ℕ} {i k : ℕ} → Put a i x b k → IsPrefixLen k b
counts {b = b} {k = k} p = let h : k ≤ length b = omega (arith, p.room, kept p) in (h, sym (length-take-le k b h))
