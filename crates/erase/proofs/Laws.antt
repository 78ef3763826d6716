-- The id's rows of V stand together: those before them and behind them add no tag, and each one's tag flags its rows of M.
use Prim.Native.Nat.{ℕ, zero, suc, ◌+◌, ◌*◌, ◌≤◌, ◌<◌}
use mathlib.Core.Path.{◌≡◌, refl, sym, ap, ap₂, ◌∙◌}
use mathlib.Core.Bool.{Bool, true, false, cond, not, ◌&&◌, ◌||◌}
use mathlib.Core.List.{List, [], ◌∷◌, ◌++◌, append-nil, map}
use native.Mathlib.Numerals.{add-one}
use native.Mathlib.Omega.{arith}
use borrow.Author.Tests.{eq-eqb, ne_eqb}
use lib.ListN.{length, get_or, take, drop, replicate, length-drop, drop_of_length-le}
use lib.Seq.{drop-cons}
use Rattle.table.specs.Lists.{same, select, count, any_of}
use Rattle.table.specs.Table.{Table, rows, mark_bad, is_free, body, used}
use Rattle.table.specs.Order.{reordered, closed}
use Rattle.table.proofs.Walk.{row_part, row_length}
use Rattle.table.proofs.Search.{starts_with}
use Rattle.closing.specs.Flags.{flagged, free_flagged}
use Rattle.closing.proofs.Flags.{free_flagged_one}
use Rattle.answer.specs.Answer.{done, refused, refusal}
use Rattle.answer.specs.declared.Refusal.{Refusal}
use Rattle.answer.specs.Verdict.{verdict}
use Rattle.scheme.specs.Store.{Which, table_m, table_v, table_r, width_of, greatest_mark, cut, joined, put_in, state_tests, reverse_id, reverse_tag, label_id}
use Rattle.scheme.specs.Layout.{Laid}
use Rattle.scheme.specs.Refusals.{id_tests}
use Rattle.scheme.specs.Erase.{is_reverse, erased_tags, is_erased, is_label, erased_store, erase_verdict, erase}
use Rattle.store.specs.declared.Shape.{Shape}
use Rattle.std.specs.Prelude.{Ok, Err}
use Rattle.store.specs.Check.{checked_of, part_in, span_in}
use Rattle.store.proofs.Laws.{unfit, fit_verdict, fits, searchable}
use Rattle.store.proofs.Stores.{LaidStore, part-rows, still_in_order}
use Rattle.erase.specs.Tags.{Clean, has_id, erased_by}

-- ---- flags by one test after another

flagged-or : (p q : List ℕ → Bool) (t : Table) (fs : List ℕ) → flagged (λ b. p b || q b) t fs ≡ flagged q t (flagged p t fs)
flagged-or p q [] fs = refl
flagged-or p q (r ∷ rs) [] = refl
flagged-or p q (r ∷ rs) (f ∷ fs) = ap₂ (λ (x : ℕ) (xs : List ℕ). x ∷ xs) (go (is_free r) (p (body r)) (q (body r))) (flagged-or p q rs fs)
  where
    go : (a b c : Bool) → cond (not a && (b || c)) 1 f ≡ cond (not a && c) 1 (cond (not a && b) 1 f)
    go true b c = refl
    go false true true = refl
    go false true false = refl
    go false false c = refl

flagged_ext : (p q : List ℕ → Bool) → ((b : List ℕ) → p b ≡ q b) → (t : Table) (fs : List ℕ) → flagged p t fs ≡ flagged q t fs
flagged_ext p q h t fs = ap (λ (f : List ℕ → Bool). flagged f t fs) (λ i b. h b i)

flagged_never : (t : Table) (fs : List ℕ) → flagged (λ b. false) t fs ≡ fs
flagged_never [] fs = refl
flagged_never (r ∷ rs) [] = refl
flagged_never (r ∷ rs) (f ∷ fs) = ap₂ (λ (x : ℕ) (xs : List ℕ). x ∷ xs) (go (is_free r)) (flagged_never rs fs)
  where
    go : (a : Bool) → cond (not a && false) 1 f ≡ f
    go true = refl
    go false = refl

-- ---- the id's rows of V

module _ (id : List ℕ) where
  -- whether a row is used and the id's
  abbrev pub is_ids : List ℕ → Bool
  is_ids r = not (is_free r) && same (reverse_id (body r)) id

  erased_next : (t : Table) (i : ℕ) → i < length t → (x : List ℕ)
      → erased_by id (drop i t) x ≡ cond (is_ids (get_or t i [])) (same (take 32 x) (reverse_tag (body (get_or t i []))) || erased_by id (drop (i + 1) t) x) (erased_by id (drop (i + 1) t) x)
  erased_next t i h x = rw (add-one i, drop-cons t i [] h) (go (is_free (get_or t i [])) (same (reverse_id (body (get_or t i []))) id) refl)
    where
      go : (f r : Bool) → same (reverse_id (body (get_or t i []))) id ≡ r
          → any_of (same (take 32 x)) (map reverse_tag (select (λ r. same (reverse_id r) id) (cond f (used (drop (suc i) t)) (body (get_or t i []) ∷ used (drop (suc i) t)))))
          ≡ cond (not f && r) (same (take 32 x) (reverse_tag (body (get_or t i []))) || erased_by id (drop (suc i) t) x) (erased_by id (drop (suc i) t) x)
      go true r e = refl
      go false true e = rw e
      go false false e = rw e

  -- rows that are not the id's add nothing, at the front or at the end
  erased_skip : (t : Table) (i : ℕ) → i ≤ length t → ((j : ℕ) → j < i → is_ids (get_or t j []) ≡ false) → (x : List ℕ) → erased_by id (drop i t) x ≡ erased_by id t x
  erased_skip t zero h n x = refl
  erased_skip t (suc i) h n x =
      let e = erased_next t i h x ∙ ap (λ (b : Bool). cond b (same (take 32 x) (reverse_tag (body (get_or t i []))) || erased_by id (drop (i + 1) t) x) (erased_by id (drop (i + 1) t) x)) (n i (omega arith)) in
      ap (λ (k : ℕ). erased_by id (drop k t) x) (sym (add-one i)) ∙ sym e ∙ erased_skip t i (omega arith) (λ j l. n j (omega arith)) x

  erased_none : (t : Table) → ((j : ℕ) → j < length t → is_ids (get_or t j []) ≡ false) → (x : List ℕ) → erased_by id t x ≡ false
  erased_none t n x = sym (erased_skip t (length t) (omega arith) n x) ∙ ap (λ (l : Table). erased_by id l x) (drop_of_length-le t {i = length t} (omega arith))

  -- the rows of V before i are gone through; what is left of V decides
  pub record Flagged (v t_m : Table) (fs₀ : List ℕ) (i : ℕ) (fs : List ℕ) : Type 0 where
    pub left : flagged (erased_by id (drop i v)) t_m fs ≡ flagged (erased_by id v) t_m fs₀
    pub long : length fs ≡ length fs₀

  module _ (v t_m : Table) (fs₀ : List ℕ) where
    pub flagged_begin : (i : ℕ) → i ≤ length v → ((j : ℕ) → j < i → is_ids (get_or v j []) ≡ false) → Flagged v t_m fs₀ i fs₀
    flagged_begin i h n = record { left = flagged_ext (erased_by id (drop i v)) (erased_by id v) (erased_skip v i h n) t_m fs₀; long = refl }

    pub flagged_turn : (i : ℕ) (fs fs' tag : List ℕ) → Flagged v t_m fs₀ i fs → i < length v → is_ids (get_or v i []) ≡ true → tag ≡ reverse_tag (body (get_or v i []))
        → fs' ≡ flagged (λ b. same (take 32 b) tag) t_m fs → length fs' ≡ length fs → Flagged v t_m fs₀ (i + 1) fs'
    flagged_turn i fs fs' tag o h y et ef l = record {
      left =
          ap (flagged (erased_by id (drop (i + 1) v)) t_m) ef
          ∙ sym (flagged-or (λ b. same (take 32 b) tag) (erased_by id (drop (i + 1) v)) t_m fs)
          ∙ sym (flagged_ext (erased_by id (drop i v)) (λ b. same (take 32 b) tag || erased_by id (drop (i + 1) v) b)
          (λ b. erased_next v i h b ∙ ap (λ (c : Bool). cond c (same (take 32 b) (reverse_tag (body (get_or v i []))) || erased_by id (drop (i + 1) v) b) (erased_by id (drop (i + 1) v) b)) y
          ∙ ap (λ (g : List ℕ). same (take 32 b) g || erased_by id (drop (i + 1) v) b) (sym et)) t_m fs)
          ∙ o.left;
      long = l ∙ o.long;
    }

    pub flagged_done : (i : ℕ) (fs : List ℕ) → Flagged v t_m fs₀ i fs → ((j : ℕ) → i ≤ j → j < length v → is_ids (get_or v j []) ≡ false) → fs ≡ flagged (erased_by id v) t_m fs₀
    flagged_done i fs o n =
        sym (flagged_never t_m fs)
        ∙ sym (flagged_ext (erased_by id (drop i v)) (λ b. false) (erased_none (drop i v)
        (λ j l. rw (lib.Seq.get_or-drop i v j []) (n (i + j) (omega arith) (omega (arith, length-drop i v))))) t_m fs)
        ∙ o.left

-- a tag has 32 bytes
pub tag_length : (t : List ℕ) (n i : ℕ) → i < n → length t ≡ width_of table_v * n → length (reverse_tag (body (get_or (rows (width_of table_v) n t) i []))) ≡ 32
unfolding reverse_tag
tag_length t n i h e =
    let row = get_or (rows (width_of table_v) n t) i [] in
    let l : length row ≡ width_of table_v = sym (ap length (row_part (width_of table_v) n i t h)) ∙ row_length (width_of table_v) n i t h e in
    length-drop 16 (drop 1 row) ∙ omega (arith, length-drop 1 row)

-- the id's test is that of the definition, and of a search
pub ids_start : (id r : List ℕ) → length id ≡ 16 → is_ids id r ≡ starts_with id r
unfolding reverse_id
ids_start id r e = ap (λ (k : ℕ). not (is_free r) && same (take k (body r)) id) (sym e)

-- ---- tables closed up

-- the flagged rows given up
pub closed_by : (w : ℕ) (q : List ℕ → Bool) (t : Table) (fs : List ℕ) → length t ≤ 4096 → fs ≡ flagged q t (replicate 4096 0)
    → reordered w (free_flagged w fs t) ≡ closed w q t
unfolding closed
closed_by w q t fs h f = ap (λ (g : List ℕ). reordered w (free_flagged w g t)) f ∙ ap (reordered w) (free_flagged_one w q 4096 t h)

module _ (b : List ℕ) (z : Shape) (e : checked_of b ≡ Ok z) (g : LaidStore z) (k : Which) where
  -- a table that has not been lent yet is as the checks found it
  pub still_clean : greatest_mark k ≡ 1 → g.store.table k ≡ (cut b).table k → Clean g.bytes (part_in z k) (width_of k)
  still_clean m s = record {
    order = still_in_order z g k b e s;
    marks = ap (mark_bad 1) (part-rows z g k ∙ s) ∙ (searchable b z e k m).marks;
    most = (fits b z e k).most;
  }

module _ (before id : List ℕ) where
  pub freed_are : (t : Table) → count (has_id id) (used t) ≡ count (is_reverse before id) (used t)
  unfolding is_reverse reverse_id
  freed_are t = refl

  -- M by the tags in v, which is V as it was
  pub all_closed : (after : List ℕ) (z : Shape) (v t_m t_v t_r : Table) → v ≡ (cut before).table table_v → t_m ≡ (cut before).table table_m → t_v ≡ (cut before).table table_v → t_r ≡ (cut before).table table_r
      → Laid (span_in z) after (put_in table_r (closed (width_of table_r) (has_id id) t_r) (put_in table_v (closed (width_of table_v) (has_id id) t_v) (put_in table_m (closed (width_of table_m) (erased_by id v) t_m) (cut before))))
      → after ≡ joined (erased_store before id)
  unfolding erased_store is_erased erased_tags is_reverse is_label reverse_id label_id
  all_closed after z v t_m t_v t_r e e_m e_v e_r l =
      l.bytes
      ∙ (λ i. joined (put_in table_r (closed (width_of table_r) (has_id id) (e_r i)) (put_in table_v (closed (width_of table_v) (has_id id) (e_v i)) (put_in table_m (closed (width_of table_m) (erased_by id (e i)) (e_m i)) (cut before)))))

-- the call's ways out, in the order of its refusals
module _ (before id : List ℕ) where
  pub erase-length : (length id ≡ 16 → ⊥) → (refused 5 [] ≡ (erase before id).answer) × (before ≡ (erase before id).store)
  unfolding erase erase_verdict id_tests
  erase-length h = let e = ne_eqb (length id) 16 h in (rw e, rw e)

  module _ (h : length id ≡ 16) where
    verdict_is : erase_verdict before id ≡ verdict (state_tests before ++ [])
    unfolding erase_verdict id_tests
    verdict_is = rw (eq-eqb (length id) 16 h) (ap verdict (sym (append-nil (state_tests before))))

    pub erase_unfit : (r : Refusal) → checked_of before ≡ Err r → (refusal r ≡ (erase before id).answer) × (before ≡ (erase before id).store)
    unfolding erase
    erase_unfit r c = let e = verdict_is ∙ unfit before r [] c in (rw e, rw e)

    -- the id was copied
    pub erase_fit : (z : Shape) → checked_of before ≡ Ok z → (name : List ℕ) → name ≡ id → (n : ℕ) (after : List ℕ) → n ≡ count (is_reverse before name) (used ((cut before).table table_v)) → after ≡ joined (erased_store before name)
        → (done (n ∷ []) ≡ (erase before id).answer) × (after ≡ (erase before id).store)
    unfolding erase
    erase_fit z c name q n after f g =
        let e = verdict_is ∙ fit_verdict before z [] c in
        (rw e (ap (λ (k : ℕ). done (k ∷ [])) (f ∙ ap (λ (i : List ℕ). count (is_reverse before i) (used ((cut before).table table_v))) q)), rw e (g ∙ ap (λ (i : List ℕ). joined (erased_store before i)) q))
