use lib.Seq.{take-suc-set}
use lib.ListN.{length-set}
use native.Mathlib.Numerals.{add-one}
use Rattle.std.proofs.Common.{◌≡◌, ℕ, ◌+◌, ◌-◌, ◌<◌, ◌/◌, ◌%◌, List, [], ◌∷◌, ◌++◌, append_assoc, length, take, set, ap, ◌∙◌, arith}
use Rattle.records.specs.Pattern.{following, pattern}
use Rattle.records.proofs.pattern.fill.Goals as goal

rest : (i n : ℕ) → i < n → n - (i + 1) + 1 ≡ n - i
rest i n h = omega arith

-- one byte more of the pattern, k being how many remain after it
more : (i k x : ℕ) (to : List ℕ) → i < length to
    → take (i + 1) (set to i (following x / 65536 % 256)) ++ pattern k (following x) ≡ take i to ++ pattern (k + 1) x
unfolding pattern
more i k x to h =
    rw (add-one i, add-one k, take-suc-set to i (following x / 65536 % 256) h)
    (append_assoc (take i to) (following x / 65536 % 256 ∷ []) (pattern k (following x)))

pub loop-byte-preserved : goal.loop-byte-preserved
loop-byte-preserved c =
    let l = c.loop-byte in
    let i = l.byte-index in
    let n = length c.args.to.now in (
      simp length-set l.invariant.0,
      omega (arith, c.following-x.ensures),
      rw c.following-x.ensures
          (more i (n - (i + 1)) l.x l.to (omega arith)
          ∙ ap (λ k. take i l.to ++ pattern k l.x) (rest i n (omega arith))
          ∙ l.invariant.2),
    )
