-- What seven zeros of a check mean, of any store that 10, 11 and 20 let pass: no tag is repeated, and every entry's tag stands in a row of
-- V, by whose id an erase takes the entry.
use Prim.Native.Nat.{ℕ, ◌+◌, ◌*◌, ◌-◌, ◌≤◌}
use mathlib.Core.Path.{◌≡◌, refl, sym, ap, subst, ◌∙◌}
use mathlib.Core.Bool.{Bool, true, false, not, ◌&&◌, true≢false, and-false}
use mathlib.Core.Option.{Option, none}
use mathlib.Core.List.{List, [], ◌∷◌, ◌++◌, map, Memᴰ}
use native.Mathlib.Omega.{arith}
use lib.Dec.{eqb, ltb}
use lib.ListN.{length, get_or, take, replicate, get_or-append, length-drop, take-append-drop}
use lib.Seq.{length-take-le}
use borrow.Author.Tests.{eqb-true, not-false}
use Rattle.answer.specs.Answer.{Answer, done, refused}
use Rattle.answer.specs.Verdict.{verdict, answer_or}
use Rattle.table.specs.Lists.{bit, same, count, any_of, All, repeats_after, repeats, lacking}
use Rattle.table.specs.Table.{Table, used, body, has_tag, lookup, holds}
use Rattle.table.specs.Order.{used_rows, closed}
use Rattle.table.proofs.Counting.{same_true, same_refl, neither, count-select, count_none, count_stricter, any_count, first-none, all_map}
use Rattle.table.proofs.Order.{used_is, used_rows_all}
use Rattle.table.proofs.Arranging.{closed_same, closed-length, closed_all}
use Rattle.scheme.specs.Store.{Sizes, Which, table_m, table_v, table_r, width_of, rows_of, header_length, sizes_bad, length_for, sizes_of, Store, cut, joined, header_bad, state_tests, reverse_id, reverse_tag}
use Rattle.scheme.specs.Layout.{span_of, Wide, Laid}
use Rattle.scheme.specs.Refusals.{id_tests}
use Rattle.scheme.specs.Erase.{erase_verdict, is_reverse, erased_tags, is_erased, is_label, erased_store, erase}
use Rattle.scheme.specs.Check.{tags_in, reverse_tags, repeated_entries, repeated_counters, reverses_without_entry, entries_without_reverse, reverses_without_label, labels_without_reverse, labels_in_excess, faults, check_verdict, check}
use Rattle.scheme.specs.Corollaries.{NoRepeats, is_done, Erasable, GoTogether, ZerosMean}
use Rattle.scheme.proofs.Plan.{laid_cut, laid_put, cut_laid}
use Rattle.scheme.proofs.Shape.{zero_ok}
use Rattle.scheme.proofs.Verdicts.{passed, verdict-append, length_refused}
use Rattle.scheme.proofs.Joining.{all_at}
use Rattle.scheme.proofs.Once.{mem_any, any_mem, mem_select}
use Rattle.scheme.proofs.Corollaries.{accepted-none, verdict_refuses}

-- ---- lists

bit_none : (b : Bool) → bit b ≡ 0 → b ≡ false
bit_none true e = absurd (omega arith)
bit_none false e = refl

-- none of them was seen, and none stands twice
record Unseen (seen xs : List (List ℕ)) : Type 0 where
  apart : NoRepeats xs
  new : All (λ x. any_of (same x) seen ≡ false) xs

unseen : (seen xs : List (List ℕ)) → repeats_after seen xs ≡ 0 → Unseen seen xs
unseen seen [] e = record { apart = tt; new = tt }
unseen seen (x ∷ xs) e =
    let r = unseen (x ∷ seen) xs (omega arith) in
    record {
      apart = (λ m. true≢false (sym (same_refl x) ∙ (neither (same x x) (any_of (same x) seen) (all_at _ xs r.new x m)).0), r.apart);
      new = (bit_none (any_of (same x) seen) (omega arith), all_map (λ y h. (neither (same y x) (any_of (same y) seen) h).1) xs r.new);
    }

none_repeats : (xs : List (List ℕ)) → repeats xs ≡ 0 → NoRepeats xs
unfolding repeats
none_repeats xs e = (unseen [] xs e).apart

-- what passes and is there is counted
mem_count : (p : List ℕ → Bool) (x : List ℕ) (l : List (List ℕ)) → p x ≡ true → Memᴰ x l → 1 ≤ count p l
mem_count p x l e m =
    let a = any_count (same x) l (mem_any x l m) in
    let b = count_stricter (same x) p (λ y h. ap p (sym (same_true x y h)) ∙ e) l in
    omega arith

-- where nothing is lacking, all are there
none_lacking : (xs ys : List (List ℕ)) → lacking xs ys ≡ 0 → (x : List ℕ) → Memᴰ x xs → Memᴰ x ys
unfolding lacking
none_lacking xs ys e x m = go (any_of (same x) ys) refl
  where
    go : (b : Bool) → any_of (same x) ys ≡ b → Memᴰ x ys
    go true h = any_mem x ys h
    go false h = let k = mem_count (λ x. not (any_of (same x) ys)) x xs (ap not h) m in absurd (omega arith)

-- ---- a store that passes

-- the sizes stand in the header
sizes_from : (h a b : List ℕ) → length h ≡ header_length → sizes_of (h ++ a) ≡ sizes_of (h ++ b)
unfolding sizes_of
sizes_from h a b e = λ i. record {
  p = at 1 (omega arith) i;
  m = 256 * at 2 (omega arith) i + at 3 (omega arith) i;
  c = 256 * at 4 (omega arith) i + at 5 (omega arith) i;
  s = 256 * at 6 (omega arith) i + at 7 (omega arith) i;
  r = 256 * at 8 (omega arith) i + at 9 (omega arith) i;
}
  where
    at : (n : ℕ) → n + 1 ≤ header_length → get_or (h ++ a) n 0 ≡ get_or (h ++ b) n 0
    at n k = get_or-append h a 0 n (omega arith) ∙ sym (get_or-append h b 0 n (omega arith))

closed_wide : (k : Which) (n : ℕ) (q : List ℕ → Bool) (t : Table) → Wide (width_of k) n t → Wide (width_of k) n (closed (width_of k) q t)
closed_wide k n q t a = record {
  number = closed-length (width_of k) q t ∙ a.number;
  widths = closed_all (width_of k) q t (λ r. length r ≡ width_of k) (zero_ok k).width a.widths;
}

module _ (before : List ℕ) (pass : verdict (state_tests before) ≡ none) where
  abbrev z : Sizes
  z = sizes_of before

  abbrev rows_in : Which → Table
  rows_in k = (cut before).table k

  laid : Laid (span_of z) before (cut before)
  unfolding state_tests header_bad
  laid =
      let h = (passed (header_bad before) _ _ pass).0 in
      let a = (neither (ltb (length before) header_length) _ h).1 in
      let b = (neither (not (eqb (get_or before 0 0) 2)) _ a).1 in
      let c = (neither (sizes_bad z) _ b).1 in
      laid_cut before (eqb-true (length before) (length_for z) (not-false (eqb (length before) (length_for z)) c))

  -- a used row without its mark
  bodies : (k : Which) → All (λ b. length b ≡ width_of k - 1) (used (rows_in k))
  bodies k = subst (All (λ b. length b ≡ width_of k - 1)) (sym (used_is (rows_in k))) (go (used_rows (rows_in k)) (used_rows_all _ (rows_in k) (laid.wide k).widths))
    where
      go : (t : Table) → All (λ r. length r ≡ width_of k) t → All (λ b. length b ≡ width_of k - 1) (map body t)
      go [] a = tt
      go (r ∷ rs) a = (length-drop 1 r ∙ ap (λ (n : ℕ). n - 1) a.0, go rs a.1)

  -- ---- an erase of an id of 16 bytes

  module _ (id : List ℕ) (hid : length id ≡ 16) where
    done_verdict : erase_verdict before id ≡ none
    unfolding erase_verdict id_tests
    done_verdict = verdict-append (id_tests id) (state_tests before) ∙ rw (length_refused 16 id hid, pass) refl

    -- what it leaves is laid out as before
    erased_cut : cut (joined (erased_store before id)) ≡ erased_store before id
    unfolding erased_store
    erased_cut =
        let l_m = laid_put (span_of z) before (cut before) laid table_m _ (closed_wide table_m (rows_of z table_m) (is_erased before id) (rows_in table_m) (laid.wide table_m)) in
        let l_v = laid_put (span_of z) _ _ l_m table_v _ (closed_wide table_v (rows_of z table_v) (is_reverse before id) (rows_in table_v) (laid.wide table_v)) in
        let l_r = laid_put (span_of z) _ _ l_v table_r _ (closed_wide table_r (rows_of z table_r) (is_label before id) (rows_in table_r) (laid.wide table_r)) in
        cut_laid (joined (erased_store before id)) (erased_store before id) (subst (λ (y : Sizes). Laid (span_of y) (joined (erased_store before id)) (erased_store before id)) (sym same-sizes) l_r)
      where
        same-sizes : sizes_of (joined (erased_store before id)) ≡ z
        same-sizes = unfold joined erased_store in (sizes_from (cut before).header _ _ laid.head ∙ ap sizes_of (sym laid.bytes))

    -- no entry with a tag of the id's rows of V is left
    erased_gone : (tag : List ℕ) → any_of (same tag) (erased_tags before id) ≡ true → holds tag (closed (width_of table_m) (is_erased before id) (rows_in table_m)) ≡ false
    unfolding holds lookup is_erased
    erased_gone tag e =
        let n : count (has_tag tag) (used (closed (width_of table_m) (is_erased before id) (rows_in table_m))) ≡ 0 =
        (closed_same (width_of table_m) (is_erased before id) (rows_in table_m)).counts (has_tag tag)
        ∙ count-select (λ b. not (is_erased before id b)) (has_tag tag) (used (rows_in table_m))
        ∙ count_none (λ b. not (is_erased before id b) && has_tag tag b) (λ b. go b (has_tag tag b) refl) (used (rows_in table_m)) in
        rw (first-none (has_tag tag) _ n) refl
      where
        go : (b : List ℕ) (h : Bool) → has_tag tag b ≡ h → (not (is_erased before id b) && h) ≡ false
        go b true h = let f : is_erased before id b ≡ true = unfold is_erased in (ap (λ (t : List ℕ). any_of (same t) (erased_tags before id)) (same_true (take 32 b) tag h) ∙ e) in rw f refl
        go b false h = and-false (not (is_erased before id b))

    erase-done : (erase before id).answer ≡ done (count (is_reverse before id) (used (rows_in table_v)) ∷ [])
    unfolding erase
    erase-done = rw done_verdict refl

    erase_leaves : (cut (erase before id).store).table table_m ≡ closed (width_of table_m) (is_erased before id) (rows_in table_m)
    unfolding erase erased_store
    erase_leaves = rw done_verdict (ap (λ (st : Store). st.table table_m) erased_cut)

  -- a row of V takes the entry whose tag it has
  taken : (entry v : List ℕ) → Memᴰ v (used (rows_in table_v)) → reverse_tag v ≡ take 32 entry → Erasable before entry
  unfolding reverse_tag is_reverse reverse_id erased_tags
  taken entry v m e =
      let long : length v ≡ 48 = all_at _ (used (rows_in table_v)) (bodies table_v) v m in
      let hid : length (take 16 v) ≡ 16 = length-take-le 16 v (omega arith) in
      let own : is_reverse before (take 16 v) v ≡ true = same_refl (take 16 v) in
      let t : Memᴰ (reverse_tag v) (erased_tags before (take 16 v)) = mathlib.Core.List.Memᴰ.map reverse_tag (mem_select (is_reverse before (take 16 v)) v own (used (rows_in table_v)) m) in
      record {
        id = take 16 v;
        id_length = hid;
        reverse = subst (λ (b : List ℕ). Memᴰ b (used (rows_in table_v))) (sym (take-append-drop 16 v) ∙ ap (λ (t : List ℕ). take 16 v ++ t) e) m;
        freed = count (is_reverse before (take 16 v)) (used (rows_in table_v));
        answer = erase-done (take 16 v) hid;
        frees = mem_count (is_reverse before (take 16 v)) v (used (rows_in table_v)) own m;
        gone =
            ap (holds (take 32 entry)) (erase_leaves (take 16 v) hid)
            ∙ erased_gone (take 16 v) hid (take 32 entry) (ap (λ (t : List ℕ). any_of (same t) (erased_tags before (take 16 v))) (sym e) ∙ mem_any (reverse_tag v) _ t);
      }

  together : faults (cut before) ≡ replicate 7 0 → GoTogether before
  unfolding faults repeated_entries repeated_counters reverses_without_entry entries_without_reverse reverses_without_label labels_without_reverse labels_in_excess
  together e = record {
    entries = none_repeats _ (number 0);
    counters = none_repeats _ (number 1);
    erasable = λ entry m.
        let v = mathlib.Core.List.Memᴰ.of_map reverse_tag (used (rows_in table_v)) (none_lacking (tags_in (rows_in table_m)) (reverse_tags (rows_in table_v)) (number 3) (take 32 entry) (mathlib.Core.List.Memᴰ.map (take 32) m)) in
        taken entry v.0 v.1 v.2;
    leads = none_lacking _ _ (number 2);
    labelled = none_lacking _ _ (number 4);
    reversed = none_lacking _ _ (number 5);
    excess = let n = number 6 in omega arith;
  }
    where
      number : (n : ℕ) → get_or (faults (cut before)) n 0 ≡ get_or (replicate 7 0) n 0
      number n = ap (λ (l : List ℕ). get_or l n 0) e

-- ---- (h)

abbrev values : Answer → List ℕ
values (done l) = l
values (refused n l) = l

pub zeros_mean : ZerosMean
unfolding ZerosMean check check_verdict
zeros_mean before e =
    let v : verdict (state_tests before) ≡ none =
    accepted-none (verdict (state_tests before)) (faults (cut before)) [] (λ r. verdict_refuses (state_tests before) r []) (ap (λ (a : Answer). is_done a) e) in
    together before v (ap (λ (o : Option Answer). values (answer_or o (done (faults (cut before))))) (sym v) ∙ ap values e)
