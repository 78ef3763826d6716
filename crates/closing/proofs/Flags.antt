-- Laws of flags, for callers: what is flagged for a test is freed by that test, what is flagged at indices is freed at these, and
-- one after the other.
use Prim.Native.Nat.{ℕ, zero, suc, ◌≤◌}
use mathlib.Core.Path.{◌≡◌, refl, ap, ap₂, ◌∙◌}
use mathlib.Core.Bool.{Bool, true, false, cond, not, ◌&&◌, ◌||◌}
use mathlib.Core.List.{List, [], ◌∷◌, ◌++◌}
use native.Mathlib.Nat.{not-suc-le-zero, le_of_suc-le-suc}
use lib.Dec.{eqb}
use lib.ListN.{length, set, replicate, length-set, length-replicate}
use Rattle.table.specs.Table.{Row, Table, is_free, body, zero_row, free_at, free_where}
use Rattle.table.proofs.Rows.{zero_free, free_where-or}
use Rattle.closing.specs.Flags.{flagged, flagged_at, free_flagged}

-- ---- lengths

pub flagged-length : (q : List ℕ → Bool) (t : Table) (fs : List ℕ) → length (flagged q t fs) ≡ length fs
flagged-length q [] fs = refl
flagged-length q (r ∷ rs) [] = refl
flagged-length q (r ∷ rs) (f ∷ fs) = ap suc (flagged-length q rs fs)

pub flagged_at-length : (is fs : List ℕ) → length (flagged_at is fs) ≡ length fs
flagged_at-length [] fs = refl
flagged_at-length (i ∷ is) fs = flagged_at-length is (set fs i 1) ∙ length-set fs i 1

pub free_flagged-length : (w : ℕ) (fs : List ℕ) (t : Table) → length (free_flagged w fs t) ≡ length t
free_flagged-length w fs [] = refl
free_flagged-length w [] (r ∷ rs) = refl
free_flagged-length w (f ∷ fs) (r ∷ rs) = ap suc (free_flagged-length w fs rs)

-- ---- no flags, flags of a test, flags at indices

pub free_flagged_empty : (w : ℕ) (t : Table) → free_flagged w [] t ≡ t
free_flagged_empty w [] = refl
free_flagged_empty w (r ∷ rs) = refl

pub free_flagged_none : (w n : ℕ) (t : Table) → free_flagged w (replicate n 0) t ≡ t
free_flagged_none w n [] = refl
free_flagged_none w zero (r ∷ rs) = refl
free_flagged_none w (suc n) (r ∷ rs) = ap (λ (l : Table). r ∷ l) (free_flagged_none w n rs)

pub free_flagged_where : (w : ℕ) (q : List ℕ → Bool) (fs : List ℕ) (t : Table) → length t ≤ length fs
    → free_flagged w (flagged q t fs) t ≡ free_where w q (free_flagged w fs t)
free_flagged_where w q fs [] h = refl
free_flagged_where w q [] (r ∷ rs) h = absurd (not-suc-le-zero h)
free_flagged_where w q (f ∷ fs) (r ∷ rs) h =
    ap₂ (λ (x : Row) (xs : Table). x ∷ xs) (go (eqb f 0) refl (not (is_free r) && q (body r)) refl) (free_flagged_where w q fs rs (le_of_suc-le-suc h))
  where
    go : (b : Bool) → eqb f 0 ≡ b → (c : Bool) → (not (is_free r) && q (body r)) ≡ c
        → cond (eqb (cond c 1 f) 0) r (zero_row w) ≡ cond (not (is_free (cond b r (zero_row w))) && q (body (cond b r (zero_row w)))) (zero_row w) (cond b r (zero_row w))
    go true e true k = rw k refl
    go true e false k = rw (e, k) refl
    go false e true k = rw (zero_free w) refl
    go false e false k = rw (e, zero_free w) refl

-- the flags of one test alone; of one test after another
pub free_flagged_one : (w : ℕ) (q : List ℕ → Bool) (n : ℕ) (t : Table) → length t ≤ n → free_flagged w (flagged q t (replicate n 0)) t ≡ free_where w q t
free_flagged_one w q n t h =
    free_flagged_where w q (replicate n 0) t (rw (length-replicate {A = ℕ} n 0) h) ∙ ap (free_where w q) (free_flagged_none w n t)

pub free_flagged-or : (w : ℕ) (p q : List ℕ → Bool) (fs : List ℕ) (t : Table) → length t ≤ length fs
    → free_flagged w fs t ≡ free_where w p t → free_flagged w (flagged q t fs) t ≡ free_where w (λ b. p b || q b) t
free_flagged-or w p q fs t h e = free_flagged_where w q fs t h ∙ ap (free_where w q) e ∙ free_where-or w p q t

pub free_flagged-set : (w i : ℕ) (fs : List ℕ) (t : Table) → length t ≤ length fs → free_flagged w (set fs i 1) t ≡ set (free_flagged w fs t) i (zero_row w)
free_flagged-set w i fs [] h = refl
free_flagged-set w i [] (r ∷ rs) h = absurd (not-suc-le-zero h)
free_flagged-set w zero (f ∷ fs) (r ∷ rs) h = refl
free_flagged-set w (suc i) (f ∷ fs) (r ∷ rs) h = ap (λ (l : Table). cond (eqb f 0) r (zero_row w) ∷ l) (free_flagged-set w i fs rs (le_of_suc-le-suc h))

-- the flags of indices, which may repeat
pub free_flagged_at : (w : ℕ) (is fs : List ℕ) (t : Table) → length t ≤ length fs → free_flagged w (flagged_at is fs) t ≡ free_at w is (free_flagged w fs t)
free_flagged_at w [] fs t h = refl
free_flagged_at w (i ∷ is) fs t h =
    free_flagged_at w is (set fs i 1) t (rw (length-set fs i 1) h) ∙ ap (free_at w is) (free_flagged-set w i fs t h)

-- one index after another, as a loop sets them
pub flagged_at-append : (is js fs : List ℕ) → flagged_at (is ++ js) fs ≡ flagged_at js (flagged_at is fs)
flagged_at-append [] js fs = refl
flagged_at-append (i ∷ is) js fs = flagged_at-append is js (set fs i 1)

pub free_flagged_places : (w : ℕ) (is : List ℕ) (n : ℕ) (t : Table) → length t ≤ n → free_flagged w (flagged_at is (replicate n 0)) t ≡ free_at w is t
free_flagged_places w is n t h =
    free_flagged_at w is (replicate n 0) t (rw (length-replicate {A = ℕ} n 0) h) ∙ ap (free_at w is) (free_flagged_none w n t)
