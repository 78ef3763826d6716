-- What the readings of shares 0 to p come to: their counts, in an array of 16, with the sum, or none where one is damaged
-- (document 01, "Operations": find; "Refusals from the state": 13).
use Rattle.std.specs.Prelude.{ℕ, zero, suc, ◌+◌, ◌≡◌, false, cond, Option, Some, None, List, map, set, replicate}
use Rattle.table.specs.Lists.{any_of, sum, up_to}
use Rattle.scheme.specs.Reading.{Reading, damaged, count_of}
use Rattle.find.specs.declared.Counts.{Counts}

-- l with f at the places below n
abbrev pub filled : (ℕ → ℕ) → ℕ → List ℕ → List ℕ
filled f zero l = l
filled f (suc n) l = set (filled f n l) n (f n)

-- [01:RS6]
unfoldable pub counts_of : (ℕ → Reading) → ℕ → Option Counts
counts_of f p =
    cond (any_of (λ u. damaged (f u)) (up_to p)) None
    (Some (record { of = filled (λ u. count_of (f u)) (p + 1) (replicate 16 0); sum = sum (map (λ u. count_of (f u)) (up_to p)) }))

-- counts of shares none of which is damaged
pub record Sound (f : ℕ → Reading) (p : ℕ) (c : Counts) : Type 0 where
  pub none_damaged : any_of (λ u. damaged (f u)) (up_to p) ≡ false
  pub of : c.of ≡ filled (λ u. count_of (f u)) (p + 1) (replicate 16 0)
  pub sum : c.sum ≡ sum (map (λ u. count_of (f u)) (up_to p))
