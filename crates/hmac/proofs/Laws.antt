-- F from a prepared key is F: a hash goes on from the state after the key's block. And how long block and tag are.
use mathlib.Core.Path.{◌≡◌, refl, sym, ap, ap₂, ◌∙◌}
use mathlib.Core.Bool.{Bool, true, false}
use mathlib.Core.List.{List, ◌++◌}
use Prim.Native.Nat.{ℕ, zero, suc, ◌-◌, ◌≤◌, ◌<◌}
use native.Mathlib.Omega.{arith}
use native.Mathlib.Nat.{sub-zero, zero-sub, suc-sub-suc}
use borrow.Author.Tests.{le-leb, lt-leb, leb-true, leb-false}
use lib.ListN.{length, length-append, length-map, length-replicate, drop, replicate}
use lib.Bits.{bit_xor}
use lib.Dec.{leb}
use Rattle.sha256.specs.Constants.{H0}
use Rattle.compression.specs.Compression.{compress}
use Rattle.sha256.specs.Hash.{hash, final, digest}
use Rattle.sha256.proofs.Laws.{after_block, length-hash}
use Rattle.hmac.specs.Hmac.{used, block, pad, F, inner_hash, outer_hash, tag}

pub drop-replicate : (i n a : ℕ) → drop i (replicate n a) ≡ replicate (n - i) a
drop-replicate zero n a = rw (sub-zero n)
drop-replicate (suc i) zero a = rw (zero-sub (suc i))
drop-replicate (suc i) (suc n) a = drop-replicate i n a ∙ rw (suc-sub-suc n i)

-- the key as it is used, by its length
pub used_short : (key : List ℕ) → length key ≤ 64 → used key ≡ key
unfolding used
used_short key h = simp (le-leb (length key) 64 h)

pub used_long : (key : List ℕ) → 64 < length key → used key ≡ hash key
unfolding used
used_long key h = simp (lt-leb (length key) 64 h)

length-used : (key : List ℕ) → length (used key) ≤ 64
length-used key = go (leb (length key) 64) refl
  where
    go : (t : Bool) → leb (length key) 64 ≡ t → length (used key) ≤ 64
    go true e = omega (arith, ap length (used_short key (leb-true (length key) 64 e)), leb-true (length key) 64 e)
    go false e = omega (arith, ap length (used_long key (leb-false (length key) 64 e)), length-hash key)

-- the used key over 64 zeros is the block
pub block_is : (key ys to : List ℕ) (n : ℕ) → to ≡ replicate 64 0 → ys ≡ used key → n ≡ length (used key) → ys ++ drop n to ≡ block key
unfolding block
block_is key ys to n z e f =
    ap₂ (λ (l r : List ℕ). l ++ r) e (ap₂ (λ (k : ℕ) (l : List ℕ). drop k l) f z ∙ drop-replicate (length (used key)) 64 0)

length-block : (key : List ℕ) → length (block key) ≡ 64
unfolding block
length-block key =
    length-append (used key) (replicate (64 - length (used key)) 0)
    ∙ omega (arith, length-replicate {A = ℕ} (64 - length (used key)) 0, length-used key)

length-pad : (x : ℕ) (key : List ℕ) → length (pad x key) ≡ 64
unfolding pad
length-pad x key = length-map (block key) (λ (b : ℕ). bit_xor b x) ∙ length-block key

pub prepared : (key m : List ℕ) → tag (inner_hash key) (outer_hash key) m ≡ F key m
unfolding tag inner_hash outer_hash F
prepared key m =
    ap (λ (l : List ℕ). digest (final (compress H0 (pad 0x5c key)) 64 l)) (sym (after_block (pad 0x36 key) m (length-pad 0x36 key)))
    ∙ sym (after_block (pad 0x5c key) (hash (pad 0x36 key ++ m)) (length-pad 0x5c key))

-- F from the two hash values of a key
pub from_prepared : (i o key m : List ℕ) → i ≡ inner_hash key → o ≡ outer_hash key → tag i o m ≡ F key m
from_prepared i o key m e f = ap₂ (λ (x y : List ℕ). tag x y m) e f ∙ prepared key m

pub length-F : (key m : List ℕ) → length (F key m) ≡ 32
unfolding F
length-F key m = length-hash (pad 0x5c key ++ hash (pad 0x36 key ++ m))
