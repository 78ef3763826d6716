-- The log of S row by row, and what the flags of the rows that were treated free.
use Prim.Native.Nat.{ℕ, zero, suc, ◌+◌, ◌*◌, ◌-◌, ◌≤◌, ◌<◌}
use mathlib.Core.Path.{◌≡◌, refl, sym, ap, ap₂, ◌∙◌}
use mathlib.Core.Bool.{Bool, true, false, cond, not, ◌&&◌, true≢false}
use mathlib.Core.List.{List, [], ◌∷◌, ◌++◌, map}
use native.Mathlib.Nat.{not-suc-le-zero, le_of_suc-le-suc}
use native.Mathlib.Numerals.{add-one}
use native.Mathlib.Omega.{arith}
use lib.Dec.{ltb, eqb}
use lib.ListN.{length, get_or, take, drop, set, replicate, length-drop, length-map, length-replicate, get_or-replicate, get_or-append}
use lib.Seq.{take-suc, take_all, take-suc-set, get_or-append-add, take_at, get_or-drop, get_or-take}
use borrow.Author.Tests.{ltb-true, ltb-false}
use Rattle.octets.specs.Part.{back}
use Rattle.octets.proofs.Parts.{length_back, drop-back}
use Rattle.table.specs.Lists.{bit, same, any_of, distinct}
use Rattle.table.specs.Table.{Row, Table, rows, is_free, body, zero_row, free_rows, free_where}
use Rattle.table.specs.Order.{used_rows, closed, reordered}
use Rattle.table.proofs.Rows.{rows-length, zero_free}
use Rattle.table.proofs.Walk.{rows_back}
use Rattle.table.proofs.Order.{InForm, used_is}
use Rattle.table.proofs.Search.{used_row, free_row}
use Rattle.table.proofs.Distinct.{any_distinct}
use Rattle.closing.specs.Flags.{free_flagged}
use Rattle.scheme.specs.Store.{table_s, width_of, cl_in}
use Rattle.scheme.specs.Compaction.{log_of}
use Rattle.suite.specs.Program.{program}
use Rattle.firsts.specs.Firsts.{first_in, firsts}
use Rattle.firsts.specs.Flags.{flags_under}
use Rattle.firsts.proofs.Chaining.{firsts-length, firsts_at}
use Rattle.firsts.proofs.Flags.{drop_past, under_length, under_at}
use Rattle.course.proofs.Courses.{any_first}
use Rattle.compact.specs.Log.{cls_in}
use Rattle.compact.proofs.Closings.{shut}

-- ---- the log

module _ (ks : List ℕ) (t : Table) (n : ℕ) (log₀ : List ℕ) where
  -- the first i rows were decrypted
  pub record Opening (i : ℕ) (log : List ℕ) : Type 0 where
    pub size : length log ≡ length log₀
    pub told : take i (rows 32 n log) ≡ cls_in ks (take i t)
    pub rest : drop (32 * n) log ≡ drop (32 * n) log₀

  pub opening_none : Opening 0 log₀
  unfolding cls_in
  opening_none = record { size = refl; told = refl; rest = refl }

  map-append : (f : Row → List ℕ) (a b : Table) → map f (a ++ b) ≡ map f a ++ map f b
  map-append f [] b = refl
  map-append f (r ∷ rs) b = ap (λ (x : List (List ℕ)). f r ∷ x) (map-append f rs b)

  pub opening_turn : (i : ℕ) (log : List ℕ) → Opening i log → i < n → i < length t → 32 * n ≤ length log₀ → (ys : List ℕ) → length ys ≡ 32
      → ys ≡ cl_in program ks (body (get_or t i [])) → Opening (i + 1) (back log (32 * i) (32 * i + 32) ys)
  unfolding cls_in
  opening_turn i log o h k room ys wide e =
      let f : Row → List ℕ = λ r. cl_in program ks (body r) in
      record {
        size = length_back log (32 * i) (32 * i + 32) ys (omega (arith, o.size)) (omega (arith, o.size)) (omega (arith, wide)) ∙ o.size;
        told = ap (take (i + 1)) (rows_back 32 n i log ys h wide (omega (arith, o.size)))
            ∙ ap (λ (m : ℕ). take m (set (rows 32 n log) i ys)) (add-one i)
            ∙ take-suc-set (rows 32 n log) i ys (omega (arith, rows-length 32 n log))
            ∙ ap₂ (λ (x : List (List ℕ)) (y : List ℕ). x ++ (y ∷ [])) o.told e
            ∙ sym (map-append f (take i t) (get_or t i [] ∷ []))
            ∙ sym (ap (map f) (ap (λ (m : ℕ). take m t) (add-one i) ∙ take-suc t i [] k));
        rest = drop_past (back log (32 * i) (32 * i + 32) ys) log (32 * i + 32) (32 * n) (omega arith)
            (drop-back log (32 * i) (32 * i + 32) ys (omega (arith, o.size)) (omega (arith, o.size)) (omega (arith, wide))) ∙ o.rest;
      }

  pub opening_all : (i : ℕ) (log : List ℕ) → Opening i log → i ≡ n → rows 32 n log ≡ cls_in ks (take n t)
  opening_all i log o e =
      sym (take_all i (rows 32 n log) (omega (arith, rows-length 32 n log))) ∙ o.told ∙ ap (λ (m : ℕ). cls_in ks (take m t)) e

-- flags that agree with a test on the used rows, and are 0 on the others
flags_where : (w : ℕ) (q : List ℕ → Bool) (t : Table) (fs : List ℕ) → length t ≤ length fs
    → ((i : ℕ) → i < length t → is_free (get_or t i []) ≡ false → get_or fs i 0 ≡ bit (q (body (get_or t i []))))
    → ((i : ℕ) → i < length t → is_free (get_or t i []) ≡ true → get_or fs i 0 ≡ 0) → free_flagged w fs t ≡ free_where w q t
flags_where w q [] fs l h k = refl
flags_where w q (r ∷ rs) [] l h k = absurd (not-suc-le-zero l)
flags_where w q (r ∷ rs) (f ∷ fs) l h k =
    ap₂ (λ (x : Row) (xs : Table). x ∷ xs) (go (is_free r) refl)
    (flags_where w q rs fs (le_of_suc-le-suc l) (λ i a. h (suc i) (omega (arith, a))) (λ i a. k (suc i) (omega (arith, a))))
  where
    bits : (b : Bool) → cond (eqb (bit b) 0) r (zero_row w) ≡ cond b (zero_row w) r
    bits true = refl
    bits false = refl

    go : (b : Bool) → is_free r ≡ b → cond (eqb f 0) r (zero_row w) ≡ cond (not b && q (body r)) (zero_row w) r
    go true e = ap (λ (x : ℕ). cond (eqb x 0) r (zero_row w)) (k 0 (omega arith) e)
    go false e = ap (λ (x : ℕ). cond (eqb x 0) r (zero_row w)) (h 0 (omega arith) e) ∙ bits (q (body r))

-- ---- table S without the rows that were treated

module _ (ks : List ℕ) (t : Table) (n : ℕ) (form : InForm (width_of table_s) t) (en : n ≡ length (used_rows t)) where
  front : take n t ≡ used_rows t
  front = ap (take n) form.filled ∙ take_at (used_rows t) (replicate (free_rows t) (zero_row (width_of table_s))) n (sym en)

  -- the log is that of the used rows
  pub log_is : cls_in ks (take n t) ≡ log_of program ks t
  unfolding cls_in log_of
  log_is = ap (map (λ r. cl_in program ks (body r))) front ∙ sym (ap (map (cl_in program ks)) (used_is t) ∙ map-map (used_rows t))
    where
      map-map : (l : List Row) → map (cl_in program ks) (map body l) ≡ map (λ r. cl_in program ks (body r)) l
      map-map [] = refl
      map-map (r ∷ rs) = ap (λ (x : List (List ℕ)). cl_in program ks (body r) ∷ x) (map-map rs)

  pub log-length : length (cls_in ks (take n t)) ≡ n
  unfolding cls_in
  log-length = length-map (take n t) (λ r. cl_in program ks (body r)) ∙ ap length front ∙ sym en

  log_at : (i : ℕ) → i < n → get_or (cls_in ks (take n t)) i [] ≡ cl_in program ks (body (get_or t i []))
  unfolding cls_in
  log_at i h = at (take n t) i (omega (arith, ap length front)) ∙ ap (λ (r : Row). cl_in program ks (body r)) (get_or-take n t i [] h)
    where
      at : (l : Table) (i : ℕ) → i < length l → get_or (map (λ r. cl_in program ks (body r)) l) i [] ≡ cl_in program ks (body (get_or l i []))
      at [] i h = absurd (not-suc-le-zero h)
      at (r ∷ rs) zero h = refl
      at (r ∷ rs) (suc i) h = at rs i (le_of_suc-le-suc h)

  below : (i : ℕ) → i < length t → is_free (get_or t i []) ≡ false → i < n
  below i h e = go (ltb i n) refl
    where
      go : (b : Bool) → ltb i n ≡ b → i < n
      go true q = ltb-true i n q
      go false q =
          absurd (true≢false (sym (ap is_free (free_row (width_of table_s) t form i (omega (arith, ltb-false i n q, en)) h) ∙ zero_free (width_of table_s)) ∙ e))

  module _ (upto m : ℕ) (few : upto ≤ n) (room : length t ≤ m) (fs : List ℕ) (ef : fs ≡ flags_under upto (firsts (cls_in ks (take n t))) ++ drop n (replicate m 0)) where
    long : length (flags_under upto (firsts (cls_in ks (take n t)))) ≡ n
    long = under_length upto (firsts (cls_in ks (take n t))) ∙ firsts-length (cls_in ks (take n t)) ∙ log-length

    test : List ℕ → Bool
    test b = any_of (λ y. same y (cl_in program ks b)) (distinct (take upto (cls_in ks (take n t))))

    tested : (x : List ℕ) → any_of (λ y. same y x) (distinct (take upto (cls_in ks (take n t)))) ≡ ltb (first_in (cls_in ks (take n t)) x) upto
    tested x = any_distinct x (take upto (cls_in ks (take n t))) ∙ any_first (cls_in ks (take n t)) x upto (omega (arith, log-length))

    flag_used : (i : ℕ) → i < length t → is_free (get_or t i []) ≡ false → get_or fs i 0 ≡ bit (test (body (get_or t i [])))
    unfolding test
    flag_used i h e =
        let k = below i h e in
        let l = cls_in ks (take n t) in
        ap (λ (x : List ℕ). get_or x i 0) ef ∙ get_or-append (flags_under upto (firsts l)) (drop n (replicate m 0)) 0 i (omega (arith, k, long))
        ∙ under_at upto (firsts l) i (omega (arith, k, firsts-length l, log-length))
        ∙ ap (λ (x : ℕ). bit (ltb x upto)) (sym (get_or-append (firsts l) [] 0 i (omega (arith, k, firsts-length l, log-length))) ∙ firsts_at l [] i (omega (arith, k, log-length)) ∙ ap (first_in l) (log_at i k))
        ∙ ap bit (sym (tested (cl_in program ks (body (get_or t i [])))))

    flag_free : (i : ℕ) → i < length t → is_free (get_or t i []) ≡ true → get_or fs i 0 ≡ 0
    flag_free i h e =
        let l = flags_under upto (firsts (cls_in ks (take n t))) in
        let z : length l + (i - n) ≡ i = omega (arith, long, past) in
        ap (λ (x : List ℕ). get_or x i 0) ef ∙ ap (λ (j : ℕ). get_or (l ++ drop n (replicate m 0)) j 0) (sym z) ∙ get_or-append-add l (drop n (replicate m 0)) (i - n) 0
        ∙ get_or-drop n (replicate m 0) (i - n) 0 ∙ get_or-replicate m (n + (i - n)) 0 0 (omega (arith, past))
      where
        past : n ≤ i
        past = go (ltb i n) refl
          where
            go : (b : Bool) → ltb i n ≡ b → n ≤ i
            go true q = absurd (true≢false (sym e ∙ used_row (width_of table_s) t form i (omega (arith, ltb-true i n q, en))))
            go false q = ltb-false i n q

    fs_long : length t ≤ length fs
    fs_long = omega (arith, ap length ef ∙ lib.ListN.length-append (flags_under upto (firsts (cls_in ks (take n t)))) (drop n (replicate m 0)), long, length-drop {A = ℕ} n (replicate m 0), length-replicate {A = ℕ} m 0)

    -- closed up once
    pub shut_is : (c : ℕ) (nonces : List ℕ) → reordered (width_of table_s) (free_flagged (width_of table_s) fs t) ≡ shut c nonces ks t form (distinct (take upto (cls_in ks (take n t))))
    unfolding shut closed test
    shut_is c nonces = ap (reordered (width_of table_s)) (flags_where (width_of table_s) test t fs fs_long flag_used flag_free)
