-- Rows to be given up, as flags, one for each row (document 02, "Rows in byte order"): a flag that is not 0 gives its row up.
use Rattle.std.specs.Prelude.{ℕ, zero, suc, ◌+◌, Bool, cond, not, ◌&&◌, List, [], ◌∷◌, eqb, set}
use Rattle.std.proofs.Math.Seq.{slice}
use Rattle.table.specs.Table.{Table, is_free, body, zero_row}

-- 1 where the row is used and passes, else as it was
abbrev pub flagged : (List ℕ → Bool) → Table → List ℕ → List ℕ
flagged q [] fs = fs
flagged q (r ∷ rs) [] = []
flagged q (r ∷ rs) (f ∷ fs) = cond (not (is_free r) && q (body r)) 1 f ∷ flagged q rs fs

-- 1 at these indices, else as it was
abbrev pub flagged_at : List ℕ → List ℕ → List ℕ
flagged_at [] fs = fs
flagged_at (i ∷ is) fs = flagged_at is (set fs i 1)

-- the flagged rows freed
abbrev pub free_flagged : ℕ → List ℕ → Table → Table
free_flagged w fs [] = []
free_flagged w [] (r ∷ rs) = r ∷ rs
free_flagged w (f ∷ fs) (r ∷ rs) = cond (eqb f 0) r (zero_row w) ∷ free_flagged w fs rs

-- how many pass, one behind the other from the front
abbrev pub leading : (ℕ → Bool) → List ℕ → ℕ
leading q [] = zero
leading q (f ∷ fs) = cond (q f) (suc (leading q fs)) zero

-- the first place from i on, before u, whose flag is not 0, and whose flag is 0; u where there is none
abbrev pub next_flagged : List ℕ → ℕ → ℕ → ℕ
next_flagged fs i u = i + leading (λ f. eqb f 0) (slice i u fs)

abbrev pub next_staying : List ℕ → ℕ → ℕ → ℕ
next_staying fs i u = i + leading (λ f. not (eqb f 0)) (slice i u fs)
