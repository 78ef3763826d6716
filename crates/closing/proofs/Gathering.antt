-- Rows that stay are brought together one after the other: those that came to the front, and those that are still to come, make the
-- whole. A row stays where it is used and its flag is 0; with no flags, where it is used.
use Prim.Native.Nat.{ℕ, zero, suc, ◌+◌, ◌-◌, ◌≤◌, ◌<◌}
use mathlib.Core.Path.{◌≡◌, refl, sym, ap, ap₂, ◌∙◌}
use mathlib.Core.Bool.{Bool, true, false, cond, not, ◌&&◌}
use mathlib.Core.List.{List, [], ◌∷◌, ◌++◌, append-nil, append_assoc}
use native.Mathlib.Nat.{add-zero, not-suc-le-zero, le_of_suc-le-suc}
use native.Mathlib.Numerals.{add-one}
use native.Mathlib.Omega.{arith}
use lib.Dec.{eqb}
use lib.ListN.{length, get_or, take, drop, set, replicate, length-set, length-append, length-replicate, drop_of_length-le, replicate-append-replicate}
use lib.Seq.{drop-nil, drop_at, drop-cons, drop-drop, drop-set-lt, take-suc-set, get_or-drop, set_split, length-take-le}
use Rattle.table.specs.Lists.{bit, All}
use Rattle.table.specs.Table.{Row, Table, is_free, free_rows, zero_row}
use Rattle.table.specs.Order.{precedes, used_rows, reordered}
use Rattle.table.proofs.Counting.{Same-refl}
use Rattle.table.proofs.Rows.{zero_free}
use Rattle.table.proofs.Order.{Ascending, used_all, rows_counted, zeros_used, filled_used, filled_form, InForm, in_form_is}
use Rattle.moving.specs.Moves.{moved}
use Rattle.closing.specs.Flags.{free_flagged}
use Rattle.closing.proofs.Flags.{free_flagged_empty, free_flagged-length}

-- a row copied over an earlier one
pub moved_row : (t : Table) (to from : ℕ) → to ≤ from → from < length t → moved t from 1 to ≡ set t to (get_or t from [])
moved_row t to from h k =
    ap₂ (λ (l : Table) (j : ℕ). take to t ++ (take 1 l ++ drop j t)) (drop-cons t from [] k) (add-one to) ∙ sym (set_split t to (get_or t from []) (omega arith))

-- ---- what is still to come

pub freed_next : (w : ℕ) (fs : List ℕ) (t : Table) (i : ℕ) → i < length t
    → used_rows (free_flagged w (drop i fs) (drop i t))
    ≡ cond (not (is_free (get_or t i [])) && eqb (get_or fs i 0) 0) (get_or t i [] ∷ used_rows (free_flagged w (drop (suc i) fs) (drop (suc i) t))) (used_rows (free_flagged w (drop (suc i) fs) (drop (suc i) t)))
freed_next w fs [] i h = absurd (not-suc-le-zero h)
freed_next w [] (r ∷ rs) zero h = rw (free_flagged_empty w rs) (go (is_free r))
  where
    go : (b : Bool) → cond (not b) (r ∷ used_rows rs) (used_rows rs) ≡ cond (not b && true) (r ∷ used_rows rs) (used_rows rs)
    go true = refl
    go false = refl
freed_next w (f ∷ fs) (r ∷ rs) zero h = go (eqb f 0) (is_free r) refl
  where
    go : (b c : Bool) → is_free r ≡ c → used_rows (cond b r (zero_row w) ∷ free_flagged w fs rs) ≡ cond (not c && b) (r ∷ used_rows (free_flagged w fs rs)) (used_rows (free_flagged w fs rs))
    go true true e = rw e refl
    go true false e = rw e refl
    go false true e = rw (zero_free w) refl
    go false false e = rw (zero_free w) refl
freed_next w [] (r ∷ rs) (suc i) h =
    ap (λ (l : List ℕ). used_rows (free_flagged w l (drop i rs))) (sym (drop-nil i)) ∙ freed_next w [] rs i (le_of_suc-le-suc h)
freed_next w (f ∷ fs) (r ∷ rs) (suc i) h = freed_next w fs rs i (le_of_suc-le-suc h)

freed_zeros : (w k : ℕ) (fs : List ℕ) → used_rows (free_flagged w fs (replicate k (zero_row w))) ≡ []
freed_zeros w zero fs = refl
freed_zeros w (suc k) [] = rw (zero_free w) (zeros_used w k)
freed_zeros w (suc k) (f ∷ fs) = go (eqb f 0) (freed_zeros w k fs)
  where
    go : (b : Bool) → used_rows (free_flagged w fs (replicate k (zero_row w))) ≡ [] → used_rows (cond b (zero_row w) (zero_row w) ∷ free_flagged w fs (replicate k (zero_row w))) ≡ []
    go true e = rw (zero_free w) e
    go false e = rw (zero_free w) e

freed_all : (P : Row → Type 0) (w : ℕ) (fs : List ℕ) (t : Table) → All P (used_rows t) → All P (used_rows (free_flagged w fs t))
freed_all P w fs [] a = tt
freed_all P w [] (r ∷ rs) a = a
freed_all P w (f ∷ fs) (r ∷ rs) a = go (eqb f 0) (is_free r) refl a (freed_all P w fs rs)
  where
    go : (b c : Bool) → is_free r ≡ c → All P (cond (not c) (r ∷ used_rows rs) (used_rows rs)) → (All P (used_rows rs) → All P (used_rows (free_flagged w fs rs)))
        → All P (used_rows (cond b r (zero_row w) ∷ free_flagged w fs rs))
    go true true e a k = rw e (k a)
    go true false e a k = rw e (a.0, k a.1)
    go false true e a k = rw (zero_free w) (k a)
    go false false e a k = rw (zero_free w) (k a.1)

freed_ascending : (w : ℕ) (fs : List ℕ) (t : Table) → Ascending (used_rows t) → Ascending (used_rows (free_flagged w fs t))
freed_ascending w fs [] a = tt
freed_ascending w [] (r ∷ rs) a = a
freed_ascending w (f ∷ fs) (r ∷ rs) a = go (eqb f 0) (is_free r) refl a (freed_ascending w fs rs)
  where
    go : (b c : Bool) → is_free r ≡ c → Ascending (cond (not c) (r ∷ used_rows rs) (used_rows rs)) → (Ascending (used_rows rs) → Ascending (used_rows (free_flagged w fs rs)))
        → Ascending (used_rows (cond b r (zero_row w) ∷ free_flagged w fs rs))
    go true true e a k = rw e (k a)
    go true false e a k = rw e (freed_all (λ s. precedes s r ≡ false) w fs rs a.0, k a.1)
    go false true e a k = rw (zero_free w) (k a)
    go false false e a k = rw (zero_free w) (k a.1)

-- ---- bringing together

-- after the first i rows of t₀, the first k rows of t are those of them that stay
pub record Gathering (w : ℕ) (fs : List ℕ) (t₀ : Table) (i k : ℕ) (t : Table) : Type 0 where
  pub size : length t ≡ length t₀
  pub few : k ≤ i
  pub kept : take k t ++ used_rows (free_flagged w (drop i fs) (drop i t₀)) ≡ used_rows (free_flagged w fs t₀)
  pub rest : drop i t ≡ drop i t₀

module _ (w : ℕ) (fs : List ℕ) (t₀ : Table) where
  pub gathering_none : Gathering w fs t₀ 0 0 t₀
  gathering_none = record { size = refl; few = omega arith; kept = refl; rest = refl }

  module _ (i k : ℕ) (t : Table) (g : Gathering w fs t₀ i k t) where
    -- the next row is still as it was
    pub gathering_at : get_or t i [] ≡ get_or t₀ i []
    gathering_at =
        ap (λ (j : ℕ). get_or t j []) (sym (add-zero i)) ∙ sym (get_or-drop i t 0 []) ∙ ap (λ (l : Table). get_or l 0 []) g.rest ∙ get_or-drop i t₀ 0 []
        ∙ ap (λ (j : ℕ). get_or t₀ j []) (add-zero i)

    next_rest : drop (i + 1) t ≡ drop (i + 1) t₀
    next_rest = sym (drop-drop 1 i t) ∙ ap (drop 1) g.rest ∙ drop-drop 1 i t₀

    pub gathering_turn : i < length t₀ → (b : Bool) → b ≡ (not (is_free (get_or t₀ i [])) && eqb (get_or fs i 0) 0)
        → (t' : Table) (k' : ℕ) → t' ≡ cond b (set t k (get_or t i [])) t → k' ≡ k + bit b → Gathering w fs t₀ (i + 1) k' t'
    gathering_turn h true e t' k' s m =
        let f = g.few in
        let z = g.size in
        let c : take k t ++ (get_or t i [] ∷ used_rows (free_flagged w (drop (suc i) fs) (drop (suc i) t₀))) ≡ used_rows (free_flagged w fs t₀) =
        ap (λ (l : List Row). take k t ++ l)
        (ap (λ (r : Row). r ∷ used_rows (free_flagged w (drop (suc i) fs) (drop (suc i) t₀))) gathering_at ∙ sym (freed_next w fs t₀ i h ∙ rw (← e) refl)) ∙ g.kept in
        rw (s, m, add-one k)
        (record {
          size = length-set t k (get_or t i []) ∙ g.size;
          few = omega arith;
          kept = rw (add-one i, take-suc-set t k (get_or t i []) (omega arith), append_assoc (take k t) (get_or t i [] ∷ []) (used_rows (free_flagged w (drop (suc i) fs) (drop (suc i) t₀)))) c;
          rest = drop-set-lt (i + 1) t k (get_or t i []) (omega arith) ∙ next_rest;
        })
    gathering_turn h false e t' k' s m =
        let f = g.few in
        rw (s, m, add-zero k)
        (record {
          size = g.size;
          few = omega arith;
          kept = ap (λ (l : List Row). take k t ++ l) (sym (freed_next w fs t₀ i h ∙ rw (← e) refl ∙ ap (λ (j : ℕ). used_rows (free_flagged w (drop j fs) (drop j t₀))) (sym (add-one i)))) ∙ g.kept;
          rest = next_rest;
        })

    -- nothing is still to come
    gathered : i ≤ length t₀ → used_rows (free_flagged w (drop i fs) (drop i t₀)) ≡ [] → (take k t ≡ used_rows (free_flagged w fs t₀)) × (k ≡ length (used_rows (free_flagged w fs t₀)))
    gathered h e =
        let f = g.few in
        let z = g.size in
        let p : take k t ≡ used_rows (free_flagged w fs t₀) = sym (append-nil (take k t)) ∙ ap (λ (l : List Row). take k t ++ l) (sym e) ∙ g.kept in
        (p, sym (length-take-le k t (omega arith)) ∙ ap length p)

    -- a table in form, closed up
    pub gathered_form : InForm w t₀ → i ≡ length (used_rows t₀) → (t' : Table) → t' ≡ take k t ++ (replicate (i - k) (zero_row w) ++ drop i t) → t' ≡ reordered w (free_flagged w fs t₀)
    unfolding reordered
    gathered_form f e t' s =
        let c = rows_counted t₀ in
        let m = g.few in
        let us : List Row = used_rows (free_flagged w fs t₀) in
        let zs : drop i t₀ ≡ replicate (free_rows t₀) (zero_row w) = ap (drop i) f.filled ∙ drop_at (used_rows t₀) (replicate (free_rows t₀) (zero_row w)) i (sym e) in
        let d = gathered (omega arith) (ap (λ (l : Table). used_rows (free_flagged w (drop i fs) l)) zs ∙ freed_zeros w (free_rows t₀) (drop i fs)) in
        let n : ℕ = i - k + free_rows t₀ in
        let y : t' ≡ us ++ replicate n (zero_row w) =
        s ∙ ap₂ (λ (x y : Table). x ++ y) d.0 (ap (λ (l : Table). replicate (i - k) (zero_row w) ++ l) (g.rest ∙ zs) ∙ replicate-append-replicate (i - k) (free_rows t₀) (zero_row w)) in
        let l = free_flagged-length w fs t₀ in
        y ∙ in_form_is w (length (free_flagged w fs t₀)) (us ++ replicate n (zero_row w)) us
        (filled_form w n us (used_all (free_flagged w fs t₀)) (freed_ascending w fs t₀ f.order))
        (length-append us (replicate n (zero_row w)) ∙ omega (arith, length-replicate n (zero_row w), d.1))
        (rw (filled_used w n us (used_all (free_flagged w fs t₀))) (Same-refl us))

-- with no flags: the used rows, then free ones
pub gathered_used : (w : ℕ) (t₀ : Table) (k : ℕ) (t : Table) → Gathering w [] t₀ (length t₀) k t → (t' : Table) → t' ≡ take k t ++ (replicate (length t₀ - k) (zero_row w) ++ drop (length t₀) t)
    → (k ≡ length (used_rows t₀)) × (t' ≡ used_rows t₀ ++ replicate (free_rows t₀) (zero_row w))
gathered_used w t₀ k t g t' s =
    let c = rows_counted t₀ in
    let n = free_flagged_empty w t₀ in
    let none : drop (length t₀) t₀ ≡ [] = drop_of_length-le t₀ {i = length t₀} (omega arith) in
    let d = gathered w [] t₀ (length t₀) k t g (omega arith) (ap (λ (l : Table). used_rows (free_flagged w (drop (length t₀) []) l)) none) in
    let e : k ≡ length (used_rows t₀) = d.1 ∙ ap (λ (l : Table). length (used_rows l)) n in
    let f : length t₀ - k ≡ free_rows t₀ = omega arith in
    (e, s ∙ ap₂ (λ (x y : Table). x ++ y) (d.0 ∙ ap used_rows n) (ap₂ (λ (m : ℕ) (l : Table). replicate m (zero_row w) ++ l) f (g.rest ∙ none) ∙ append-nil (replicate (free_rows t₀) (zero_row w))))

-- with no flags a row stays where it is used
pub used_stays : (b : Bool) → not b ≡ (not b && true)
used_stays true = refl
used_stays false = refl
