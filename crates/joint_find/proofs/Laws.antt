-- The parts are parts of the slice; the ids kept are those that no other part flags; each way out of a joint find is the definition's.
use Prim.Native.Nat.{ℕ, zero, suc, ◌+◌, ◌*◌, ◌-◌, ◌/◌, ◌%◌, ◌≤◌, ◌<◌}
use mathlib.Core.Path.{◌≡◌, refl, sym, ap, ap₂, subst, ◌∙◌}
use mathlib.Core.Bool.{Bool, true, false, cond, not, true≢false}
use mathlib.Core.Option.{Option, none, some}
use mathlib.Core.List.{List, [], ◌∷◌, ◌++◌, map}
use native.Mathlib.Numerals.{add-one}
use native.Mathlib.Omega.{arith}
use lib.Dec.{ltb, eqb, lit≤}
use lib.ListN.{length, get_or, take, drop, replicate, length-replicate}
use lib.Seq.{take-take, take_all}
use borrow.Author.Tests.{ltb-false, eqb-true, not-false}
use Rattle.answer.specs.Answer.{Answer, done, refused, refusal}
use Rattle.answer.specs.declared.Refusal.{Refusal}
use Rattle.answer.specs.Verdict.{Test, ◌⇒◌, ◌⇒◌carrying◌, verdict, answer_or, unless_refused}
use Rattle.octets.proofs.Parts.{length_part}
use Rattle.table.specs.Lists.{any_of, all_of, select, flat, sum, up_to, All}
use Rattle.table.specs.Table.{Table, rows}
use Rattle.table.proofs.Counting.{neither, all_select}
use Rattle.table.proofs.Cuts.{rows_front}
use Rattle.table.proofs.Rows.{rows-length}
use Rattle.table.proofs.Walk.{drop-take, field_at}
use Rattle.scheme.specs.Keys.{find_token_length, find_mt, find_me, find_cl, part_find}
use Rattle.scheme.specs.Store.{table_r, sizes_of, cut, state_tests}
use Rattle.scheme.specs.Reading.{Reading, damaged, count_of}
use Rattle.scheme.specs.Refusals.{part_count, parts_in, part_tests}
use Rattle.scheme.specs.Find.{share_reading, ids_found}
use Rattle.scheme.specs.Count.{sum_of_counts}
use Rattle.scheme.specs.JointFind.{least_at, without, part_damaged, part_sum, part_ids, part_test, chosen_at, chosen_part, ids_kept, joint_verdict, joint_find}
use Rattle.suite.specs.Program.{program}
use Rattle.store.specs.declared.Shape.{Shape}
use Rattle.std.specs.Prelude.{Result, Ok, Err, Option as Outcome, Some, None, is_none}
use Rattle.store.specs.Check.{checked_of}
use Rattle.store.proofs.Laws.{unfit, fit_verdict}
use Rattle.hmac.specs.declared.Keyed.{Keyed}
use Rattle.chains.specs.Chains.{kept_ids}
use Rattle.chains.proofs.Kept.{kept_length}
use Rattle.find.specs.declared.Counts.{Counts}
use Rattle.find.specs.Counts
use Rattle.find.specs.Counts.{counts_of}
use Rattle.find.specs.Given.{given_answer, given_output}
use Rattle.find.proofs.Laws.{none_where_damaged, told_sound}
use Rattle.sifting.specs.Sifting.{sifted_by, staying, unset}
use Rattle.sifting.proofs.Laws.{staying_all, staying_by, staying-length, sifted_by_both}
use Rattle.choosing.specs.declared.Choice.{Choice}
use Rattle.choosing.specs.Choice.{part_counts, chosen_to}
use Rattle.choosing.proofs.Laws.{find_token}
use Rattle.choosing.proofs.Least.{sum_in, Chosen, chosen_is}
use Rattle.joint_find.specs.Kept.{test_of, kept_of, parts_bad}

-- ---- a part in the slice

module _ (n i : ℕ) (t : List ℕ) (h : i < n) where
  abbrev part_at : List ℕ
  part_at = get_or (rows 128 n t) i []

  pub find_long : length t ≡ 128 * n → length (part_find part_at) ≡ find_token_length
  find_long e = sym (ap length (find_token n i t h)) ∙ length_part t (128 * i) (128 * i + 96) (omega arith) ∙ omega arith

  pub find_mt_lem : take (128 * i + 32 - 128 * i) (drop (128 * i) t) ≡ find_mt (part_find part_at)
  unfolding part_find find_mt
  find_mt_lem =
      ap₂ (λ (k a : ℕ). take k (drop a t)) (let e : 128 * i + 32 - 128 * i ≡ 32 = omega arith in e) (let e : 128 * i ≡ 128 * i + 0 = omega arith in e) ∙ sym (field_at 128 n i 0 32 t h (lit≤ tt))
      ∙ sym (take-take 32 96 part_at (lit≤ tt))

  pub find_me_lem : take (128 * i + 64 - (128 * i + 32)) (drop (128 * i + 32) t) ≡ find_me (part_find part_at)
  unfolding part_find find_me
  find_me_lem =
      ap (λ (k : ℕ). take k (drop (128 * i + 32) t)) (let e : 128 * i + 64 - (128 * i + 32) ≡ 32 = omega arith in e) ∙ sym (field_at 128 n i 32 32 t h (lit≤ tt))
      ∙ sym (ap (take 32) (drop-take 32 96 part_at) ∙ take-take 32 64 (drop 32 part_at) (lit≤ tt))

-- 1 to 8 parts fill the slice
pub record Fill (parts : List ℕ) : Type 0 where
  pub whole : length parts ≡ 128 * part_count parts
  pub least : 1 ≤ part_count parts
  pub most : part_count parts ≤ 8

pub fill : (parts : List ℕ) → parts_bad parts ≡ false → Fill parts
unfolding parts_bad
fill parts e =
    let p = neither (not (eqb (length parts % 128) 0)) _ e in
    let q = neither (ltb (part_count parts) 1) (ltb 8 (part_count parts)) p.1 in
    let r = eqb-true (length parts % 128) 0 (not-false (eqb (length parts % 128) 0) p.0) in
    record { whole = omega arith; least = ltb-false (part_count parts) 1 q.0; most = ltb-false 8 (part_count parts) q.1 }

-- ---- what is kept

module _ (t : Table) (parts : List ℕ) (n at : ℕ) (h : at < n) (ids : List (List ℕ)) where
  -- the flags after the parts before the chosen one and those behind it
  pub flags_are : (fs gs hs : List ℕ) → gs ≡ sifted_by (test_of t) ids (drop 0 (rows 128 at parts)) fs → hs ≡ sifted_by (test_of t) ids (drop (at + 1) (rows 128 n parts)) gs
      → hs ≡ sifted_by (test_of t) ids (without at (rows 128 n parts)) fs
  flags_are fs gs hs e f =
      f ∙ ap₂ (λ (k : ℕ) (l : List ℕ). sifted_by (test_of t) ids (drop k (rows 128 n parts)) l) (add-one at) e
      ∙ ap (λ (ps : List (List ℕ)). sifted_by (test_of t) ids (drop (suc at) (rows 128 n parts)) (sifted_by (test_of t) ids ps fs)) (sym (rows_front 128 n at parts (omega arith)))
      ∙ sifted_by_both (test_of t) ids (take at (rows 128 n parts)) (drop (suc at) (rows 128 n parts)) fs

  module _ (fs hs : List ℕ) (e : fs ≡ replicate (length fs) 0) (l : length ids ≤ length fs) (f : hs ≡ sifted_by (test_of t) ids (without at (rows 128 n parts)) fs) where
    pub staying_are : staying ids hs ≡ kept_of t at (rows 128 n parts) ids
    unfolding kept_of
    staying_are =
        ap (staying ids) f ∙ staying_by (test_of t) ids (without at (rows 128 n parts)) fs
        ∙ ap (λ (xs : List (List ℕ)). select (λ id. all_of (λ p. test_of t p id) (without at (rows 128 n parts))) xs) (ap (staying ids) e ∙ staying_all ids (length fs) l)

  -- and where the ids are those of a find
  pub staying_found : (found : List (List ℕ)) (fs hs : List ℕ) → ids ≡ found → fs ≡ replicate (length fs) 0 → length found ≤ length fs → hs ≡ sifted_by (test_of t) ids (without at (rows 128 n parts)) fs
      → staying ids hs ≡ kept_of t at (rows 128 n parts) found
  staying_found found fs hs i e l f = staying_are fs hs e (omega (arith, ap length i)) f ∙ ap (kept_of t at (rows 128 n parts)) i

  pub kept_wide : All (λ id. length id ≡ 16) ids → All (λ id. length id ≡ 16) (kept_of t at (rows 128 n parts) ids)
  unfolding kept_of
  kept_wide w = all_select (λ id. length id ≡ 16) (λ id. all_of (λ p. test_of t p id) (without at (rows 128 n parts))) ids w

-- of the ids in an index those whose flags are not set, by number
pub number_kept : (me : Keyed) (t : Table) (index : List ℕ) (n : ℕ) (fs : List ℕ) (k : ℕ) → k ≡ unset n fs → k ≡ length (staying (kept_ids me t index n) fs)
number_kept me t index n fs k e = e ∙ ap (λ (j : ℕ). unset j fs) (sym (kept_length me t index n)) ∙ sym (staying-length (kept_ids me t index n) fs)

-- what is given of equal ids
pub given_same : (ids kept : List (List ℕ)) (output : List ℕ) (a : Answer) (o : List ℕ) → ids ≡ kept → a ≡ given_answer ids output → o ≡ given_output ids output
    → (a ≡ given_answer kept output) × (o ≡ given_output kept output)
given_same ids kept output a o e f g = (f ∙ ap (λ (l : List (List ℕ)). given_answer l output) e, g ∙ ap (λ (l : List (List ℕ)). given_output l output) e)

-- ---- numbers

-- k ids of 16 bytes in an output, by the number that it has room for
pub over : (o k : ℕ) → o / 16 < k → o < 16 * k
over o k h = omega arith

pub within : (o k u : ℕ) → k ≡ u → k ≤ o / 16 → 16 * u ≤ o
within o k u e h = omega arith

-- the parts before one of n, and all of them
pub before_part : (l n at : ℕ) → l ≡ 128 * n → at < n → n ≤ 8 → (128 * at ≤ l) × (at ≤ 8)
before_part l n at e h m = (omega arith, omega arith)

pub all_parts : (l n : ℕ) → l ≡ 128 * n → 128 * n ≤ l
all_parts l n e = omega arith

pub as_long : (n l m : ℕ) → n ≤ l → m ≡ l → n ≤ m
as_long n l m h e = omega arith

pub so_many : (n k l : ℕ) → n ≡ k → k ≤ l → n ≤ l
so_many n k l e h = omega arith

-- ---- what the parts count

module _ (before : List ℕ) (p : ℕ) (e : p ≡ (sizes_of before).p) where
  abbrev counted : List ℕ → Outcome Counts
  counted = part_counts before p

  part_damaged_lem : (part : List ℕ) → is_none (counted part) ≡ part_damaged program before part
  unfolding part_counts part_damaged
  part_damaged_lem part = none_where_damaged (share_reading program before (find_cl (part_find part))) p ∙ ap (λ (q : ℕ). any_of (λ u. damaged (share_reading program before (find_cl (part_find part)) u)) (up_to q)) e

  part_sum_lem : (part : List ℕ) → is_none (counted part) ≡ false → sum_in (counted part) ≡ part_sum program before part
  unfolding part_counts part_sum sum_of_counts
  part_sum_lem part d = go (counts_of f p) refl d
    where
      f : ℕ → Reading
      f = share_reading program before (find_cl (part_find part))

      go : (o : Outcome Counts) → o ≡ counts_of f p → is_none o ≡ false → sum_in o ≡ sum (map (λ u. count_of (f u)) (up_to (sizes_of before).p))
      go None q d = absurd (true≢false d)
      go (Some c) q d = (told_sound f p c q).sum ∙ ap (λ (q : ℕ). sum (map (λ u. count_of (f u)) (up_to q))) e

  pub any_damaged : (ps : List (List ℕ)) → any_of (λ part. is_none (counted part)) ps ≡ any_of (part_damaged program before) ps
  any_damaged ps = ap (λ (q : List ℕ → Bool). any_of q ps) (λ i part. part_damaged_lem part i)

  pub sums_are : (ps : List (List ℕ)) → any_of (λ part. is_none (counted part)) ps ≡ false → map (λ part. sum_in (counted part)) ps ≡ map (part_sum program before) ps
  sums_are [] d = refl
  sums_are (x ∷ xs) d =
      let n = neither (is_none (counted x)) (any_of (λ part. is_none (counted part)) xs) d in
      ap₂ (λ (k : ℕ) (l : List ℕ). k ∷ l) (part_sum_lem x n.0) (sums_are xs n.1)

-- the part chosen of all
module _ (before parts : List ℕ) (p : ℕ) (e : p ≡ (sizes_of before).p) (h : Fill parts) where
  chosen : (o : Result Choice ℕ) → o ≡ chosen_to (counted before p e) (parts_in parts) (part_count parts - 1) → Chosen (counted before p e) (parts_in parts) (part_count parts - 1) o
  chosen o q =
      subst (Chosen (counted before p e) (parts_in parts) (part_count parts - 1)) (sym q)
      (chosen_is (counted before p e) (parts_in parts) (part_count parts - 1) (omega (arith, h.least, rows-length 128 (part_count parts) parts)))

  every : take (suc (part_count parts - 1)) (parts_in parts) ≡ parts_in parts
  every = take_all (suc (part_count parts - 1)) (parts_in parts) (omega (arith, h.least, rows-length 128 (part_count parts) parts))

  pub choice_bad : (j : ℕ) → Err j ≡ chosen_to (counted before p e) (parts_in parts) (part_count parts - 1) → any_of (part_damaged program before) (parts_in parts) ≡ true
  choice_bad j q = sym (any_damaged before p e (parts_in parts)) ∙ sym (ap (any_of (λ part. is_none (counted before p e part))) every) ∙ chosen (Err j) q

  pub record Picked (c : Choice) : Type 0 where
    pub none_damaged : any_of (part_damaged program before) (parts_in parts) ≡ false
    pub place : c.at ≡ chosen_at program before parts
    pub inside : c.at < part_count parts
    pub sound : Counts.Sound (share_reading program before (find_cl (part_find (get_or (parts_in parts) c.at [])))) p c.counts

  pub choice_sound : (c : Choice) → Ok c ≡ chosen_to (counted before p e) (parts_in parts) (part_count parts - 1) → Picked c
  unfolding chosen_at part_counts
  choice_sound c q =
      let s = chosen (Ok c) q in
      let none = sym (ap (any_of (λ part. is_none (counted before p e part))) every) ∙ s.none_damaged in record {
        none_damaged = sym (any_damaged before p e (parts_in parts)) ∙ none;
        place = s.at_least ∙ ap (λ (l : List (List ℕ)). least_at (map (λ part. sum_in (counted before p e part)) l)) every ∙ ap least_at (sums_are before p e (parts_in parts) none);
        inside = omega (arith, h.least, s.at_most);
        sound = told_sound (share_reading program before (find_cl (part_find (get_or (parts_in parts) c.at [])))) p c.counts s.counts_are;
      }

-- ---- each way out

module _ (before parts output : List ℕ) where
  abbrev ids : List (List ℕ)
  ids = ids_kept program before parts

  told : (o : Option Answer) → joint_verdict program before parts output ≡ o
      → (answer_or o (done (length ids ∷ [])) ≡ (joint_find program before parts output).answer) × (unless_refused o (flat ids ++ drop (16 * length ids) output) output ≡ (joint_find program before parts output).output)
  unfolding joint_find
  told o q = (ap (λ (v : Option Answer). answer_or v (done (length ids ∷ []))) (sym q), ap (λ (v : Option Answer). unless_refused v (flat ids ++ drop (16 * length ids) output) output) (sym q))

  abbrev later_tests : List Test
  later_tests = (any_of (part_damaged program before) (parts_in parts) ⇒ 13) ∷ (ltb (length output) (16 * length ids) ⇒ 18 carrying (length ids ∷ [])) ∷ []

  pub other_parts : parts_bad parts ≡ true → (refused 6 [] ≡ (joint_find program before parts output).answer) × (output ≡ (joint_find program before parts output).output)
  unfolding joint_verdict part_tests parts_bad
  other_parts e = told (some (refused 6 [])) (rw e refl)

  module _ (h : parts_bad parts ≡ false) where
    from_state : joint_verdict program before parts output ≡ verdict (state_tests before ++ later_tests)
    unfolding joint_verdict part_tests parts_bad
    from_state = rw h refl

    pub unfit_store : (r : Refusal) → checked_of before ≡ Err r → (refusal r ≡ (joint_find program before parts output).answer) × (output ≡ (joint_find program before parts output).output)
    unfit_store r e = told (some (refusal r)) (from_state ∙ unfit before r later_tests e)

    module _ (z : Shape) (e : checked_of before ≡ Ok z) where
      passed : joint_verdict program before parts output ≡ verdict later_tests
      passed = from_state ∙ fit_verdict before z later_tests e

      pub damage_found : any_of (part_damaged program before) (parts_in parts) ≡ true → (refused 13 [] ≡ (joint_find program before parts output).answer) × (output ≡ (joint_find program before parts output).output)
      damage_found d = told (some (refused 13 [])) (passed ∙ rw d refl)

      pub given : any_of (part_damaged program before) (parts_in parts) ≡ false
          → (given_answer ids output ≡ (joint_find program before parts output).answer) × (given_output ids output ≡ (joint_find program before parts output).output)
      unfolding given_answer given_output
      given d = go (ltb (length output) (16 * length ids)) refl
        where
          go : (b : Bool) → ltb (length output) (16 * length ids) ≡ b
              → (cond b (refused 18 (length ids ∷ [])) (done (length ids ∷ [])) ≡ (joint_find program before parts output).answer)
              × (cond b output (flat ids ++ drop (16 * length ids) output) ≡ (joint_find program before parts output).output)
          go true q = told (some (refused 18 (length ids ∷ []))) (passed ∙ rw (d, q) refl)
          go false q = told none (passed ∙ rw (d, q) refl)

  -- the ids kept of the part at the place that was chosen
  pub kept_are : (at : ℕ) → at ≡ chosen_at program before parts → kept_of ((cut before).table table_r) at (parts_in parts) (ids_found program before (part_find (get_or (parts_in parts) at []))) ≡ ids
  unfolding ids_kept kept_of part_ids part_test chosen_part
  kept_are at e = ap (λ (k : ℕ). kept_of ((cut before).table table_r) k (parts_in parts) (ids_found program before (part_find (get_or (parts_in parts) k [])))) e

-- flags none of which is set, with room for n
pub unflagged : (size n : ℕ) → n ≤ size → (replicate size zero ≡ replicate (length (replicate size zero)) zero) × (n ≤ length (replicate size zero))
unflagged size n h = let l = length-replicate size zero in (ap (λ (m : ℕ). replicate m zero) (sym l), omega (arith, l))
