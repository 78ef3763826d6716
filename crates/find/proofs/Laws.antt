-- The counts of the shares, the ids by them, and each way out of a find are the definitions'.
use Prim.Native.Nat.{ℕ, zero, suc, ◌+◌, ◌*◌, ◌-◌, ◌≤◌, ◌<◌}
use mathlib.Core.Path.{◌≡◌, refl, sym, ap, ap₂, subst, ◌∙◌}
use mathlib.Core.Bool.{Bool, true, false, cond, not}
use mathlib.Core.Option.{Option, none, some}
use mathlib.Core.List.{List, [], ◌∷◌, ◌++◌, map}
use native.Mathlib.Nat.{not-suc-le-zero}
use native.Mathlib.Omega.{arith}
use lib.Dec.{ltb}
use lib.ListN.{length, get_or, take, drop, replicate, set, length-set, length-drop, length-replicate}
use lib.Seq.{get_or-set_same, get_or-set_other, take_all}
use borrow.Author.Tests.{eq-eqb, ne_eqb, lt-ltb, le-ltb, ltb-true, ltb-false}
use Rattle.octets.specs.Part.{written}
use Rattle.octets.proofs.Parts.{written_next}
use Rattle.answer.specs.Answer.{Answer, done, refused, refusal}
use Rattle.answer.specs.declared.Refusal.{Refusal}
use Rattle.answer.specs.Verdict.{Test, ◌⇒◌, ◌⇒◌carrying◌, verdict, answer_or, unless_refused}
use Rattle.table.specs.Lists.{same, any_of, flat, sum, up_to, distinct, All}
use Rattle.table.specs.Table.{Table, rows}
use Rattle.table.proofs.Counting.{all_select}
use Rattle.table.proofs.Rows.{flat-length, rows-length}
use Rattle.table.proofs.Below.{below, up_to-below, flat_next}
use Rattle.table.proofs.Distinct.{distinct_few}
use Rattle.hmac.specs.declared.Keyed.{Keyed}
use Rattle.scheme.specs.Keys.{find_token_length, share, find_mt, find_me, find_cl}
use Rattle.scheme.specs.Store.{Sizes, width_of, sizes_of, cut, state_tests}
use Rattle.scheme.specs.Reading.{Reading, damaged, count_of}
use Rattle.scheme.specs.Refusals.{token_tests}
use Rattle.scheme.specs.Find
use Rattle.scheme.specs.Find.{share_reading, ids_of_share, ids_held, ids_found, find_verdict, find}
use Rattle.scheme.proofs.Verdicts.{map-up_to}
use Rattle.suite.specs.Program.{program}
use Rattle.store.specs.declared.Shape.{Shape}
use Rattle.std.specs.Prelude.{Ok, Err, Option as Outcome, Some, None, is_none}
use Rattle.store.specs.Check.{checked_of}
use Rattle.store.proofs.Laws.{table_m, table_c, unfit, fit_verdict, fit_sizes, fit_range, fits}
use Rattle.format.specs.Tags.{numbered_by, Prepared}
use Rattle.counter.specs.Outcome.{share_read}
use Rattle.format.proofs.Tags.{share_is}
use Rattle.counter.proofs.Shares.{share_read_lem}
use Rattle.find.specs.declared.Counts.{Counts}
use Rattle.ids.specs.declared.EntryKeys.{EntryKeys}
use Rattle.find.specs.Counts.{filled, counts_of}
pub use Rattle.find.specs.Counts.{Sound}
use Rattle.find.specs.Given.{given_answer, given_output, Empty}
use Rattle.chains.specs.Chains.{Kept, kept, kept_ids, Chained}
use Rattle.chains.proofs.Chains.{RowsM}
use Rattle.chains.proofs.Kept.{chained_none, kept_length}
use Rattle.ids.specs.Ids.{id_at, ids_to, ids_in, noted_in}
use Rattle.ids.proofs.Noted.{gathers_in, wide_in, few_in, most_in}

-- ---- the counts

module _ (f : ℕ → Reading) (p : ℕ) where
  pub counts_damage : any_of (λ u. damaged (f u)) (up_to p) ≡ true → None ≡ counts_of f p
  unfolding counts_of
  counts_damage e = rw e refl

  pub counts_done : (of : List ℕ) (n : ℕ) → of ≡ filled (λ u. count_of (f u)) (p + 1) (replicate 16 0)
      → (any_of (λ u. damaged (f u)) (up_to p) ≡ false) × (n ≡ sum (map (λ u. count_of (f u)) (up_to p))) → Some (record { of = of; sum = n }) ≡ counts_of f p
  unfolding counts_of
  counts_done of n o e = rw e.0 (λ j. Some (record { of = o j; sum = e.1 j }))

  -- by whether one is damaged
  abbrev counts_by : Bool → Outcome Counts
  counts_by b = cond b None (Some (record { of = filled (λ u. count_of (f u)) (p + 1) (replicate 16 0); sum = sum (map (λ u. count_of (f u)) (up_to p)) }))

  pub none_where_damaged : is_none (counts_of f p) ≡ any_of (λ u. damaged (f u)) (up_to p)
  unfolding counts_of
  none_where_damaged = go (any_of (λ u. damaged (f u)) (up_to p))
    where
      go : (b : Bool) → is_none (counts_by b) ≡ b
      go true = refl
      go false = refl

  pub told_damage : None ≡ counts_of f p → any_of (λ u. damaged (f u)) (up_to p) ≡ true
  told_damage e = sym none_where_damaged ∙ ap (λ (o : Outcome Counts). is_none o) (sym e)

  pub told_sound : (c : Counts) → Some c ≡ counts_of f p → Sound f p c
  unfolding counts_of
  told_sound c e = go (any_of (λ u. damaged (f u)) (up_to p)) refl e
    where
      go : (b : Bool) → any_of (λ u. damaged (f u)) (up_to p) ≡ b → Some c ≡ counts_by b → Sound f p c
      go true q r = cc
      go false q r =
          let k : c ≡ record { of = filled (λ u. count_of (f u)) (p + 1) (replicate 16 0); sum = sum (map (λ u. count_of (f u)) (up_to p)) } = cc in
          record { none_damaged = q; of = ap (λ (c : Counts). c.of) k; sum = ap (λ (c : Counts). c.sum) k }

length-filled : (g : ℕ → ℕ) (n : ℕ) (l : List ℕ) → length (filled g n l) ≡ length l
length-filled g zero l = refl
length-filled g (suc n) l = length-set (filled g n l) n (g n) ∙ length-filled g n l

filled_at : (g : ℕ → ℕ) (l : List ℕ) (n u : ℕ) → u < n → n ≤ length l → get_or (filled g n l) u 0 ≡ g u
filled_at g l zero u h k = absurd (not-suc-le-zero h)
filled_at g l (suc n) u h k = go (ltb u n) refl (filled_at g l n u)
  where
    go : (b : Bool) → ltb u n ≡ b → (u < n → n ≤ length l → get_or (filled g n l) u 0 ≡ g u) → get_or (set (filled g n l) n (g n)) u 0 ≡ g u
    go true q r =
        let m = ltb-true u n q in
        get_or-set_other (filled g n l) n u (g n) 0 (λ z. absurd (omega arith)) ∙ r m (omega arith)
    go false q r =
        let m : u ≡ n = omega (arith, ltb-false u n q) in
        ap (λ (j : ℕ). get_or (set (filled g n l) n (g n)) j 0) m ∙ get_or-set_same (filled g n l) n (g n) 0 (omega (arith, length-filled g n l)) ∙ ap g (sym m)

-- the count of a share, read again
pub count_at : (f : ℕ → Reading) (p : ℕ) (c : Counts) → Sound f p c → p ≤ 15 → (u : ℕ) → u ≤ p → get_or c.of u 0 ≡ count_of (f u)
count_at f p c s l u h =
    ap (λ (x : List ℕ). get_or x u 0) s.of ∙ filled_at (λ u. count_of (f u)) (replicate 16 0) (p + 1) u (omega arith) (omega (arith, length-replicate {A = ℕ} 16 0))

pub counts_sum : (f : ℕ → Reading) (p : ℕ) (c : Counts) → Sound f p c → p ≤ 15 → sum (map (λ u. get_or c.of u 0) (up_to p)) ≡ c.sum
counts_sum f p c s l = ap sum (map-up_to p (λ u. get_or c.of u 0) (λ u. count_of (f u)) (count_at f p c s l)) ∙ sym s.sum

-- ---- the ids are the scheme's

ids_to_lem : (keys : EntryKeys) (t : Table) (u n : ℕ) → ids_to keys t u n ≡ Find.ids_to program (numbered_by keys.mt u) (numbered_by keys.me u) t n
unfolding ids_to id_at
ids_to_lem keys t u zero = refl
ids_to_lem keys t u (suc n) = ap (λ (l : List (List ℕ)). l ++ id_at keys t u (suc n)) (ids_to_lem keys t u n)

ids_below : (keys : EntryKeys) (t : Table) (of : List ℕ) (n : ℕ) → ids_in keys t of n ≡ flat (map (λ u. ids_to keys t u (get_or of u 0)) (below n))
unfolding ids_in
ids_below keys t of zero = refl
ids_below keys t of (suc n) =
    ap (λ (l : List (List ℕ)). l ++ ids_to keys t n (get_or of n 0)) (ids_below keys t of n) ∙ sym (flat_next (λ u. ids_to keys t u (get_or of u 0)) n)

-- a part of the store or of the token
token-CL : (token : List ℕ) → length token ≡ find_token_length → take 32 (drop 64 token) ≡ find_cl token
unfolding find_cl
token-CL token h = take_all 32 (drop 64 token) (omega (arith, length-drop 64 token))

module _ (before token : List ℕ) (z : Shape) (e : checked_of before ≡ Ok z) (h : length token ≡ find_token_length) where
  -- the readings of the shares
  pub readings : (clx : Keyed) → Prepared clx (take 32 (drop 64 token))
      → share_read clx z.c.rows (rows (width_of table_c) z.c.rows (take (z.c.end - z.c.start) (drop z.c.start before))) ≡ share_reading program before (find_cl token)
  readings clx p =
      share_read_lem clx (find_cl token) before z.c.rows _ (subst (Prepared clx) (token-CL token h) p) (ap (λ (y : Sizes). y.c) (fit_sizes before z e)) (fits before z e table_c).same

  pub shares_are : z.p ≡ (sizes_of before).p
  shares_are = ap (λ (y : Sizes). y.p) (fit_sizes before z e)

  pub ids_are : (keys : EntryKeys) (c : Counts) → Prepared keys.mt (find_mt token) → Prepared keys.me (find_me token)
      → Sound (share_reading program before (find_cl token)) z.p c
      → distinct (ids_in keys (rows (width_of table_m) z.m.rows (take (z.m.end - z.m.start) (drop z.m.start before))) c.of (z.p + 1)) ≡ ids_found program before token
  unfolding ids_found ids_held ids_of_share
  ids_are keys c km ke s =
      let f = share_reading program before (find_cl token) in
      let t = rows (width_of table_m) z.m.rows (take (z.m.end - z.m.start) (drop z.m.start before)) in
      let q : t ≡ (cut before).table table_m = (fits before z e table_m).same in
      ap distinct (
      ids_below keys t c.of (z.p + 1)
      ∙ ap (λ (l : List ℕ). flat (map (λ u. ids_to keys t u (get_or c.of u 0)) l)) (sym (up_to-below z.p))
      ∙ ap flat (map-up_to z.p (λ u. ids_to keys t u (get_or c.of u 0)) (ids_of_share program before token)
      (λ u l.
      ids_to_lem keys t u (get_or c.of u 0)
      ∙ ap₂ (λ (a b : List ℕ). Find.ids_to program a b t (get_or c.of u 0)) (share_is keys.mt (find_mt token) u km) (share_is keys.me (find_me token) u ke)
      ∙ ap₂ (Find.ids_to program (share program (find_mt token) u) (share program (find_me token) u)) q (count_at f z.p c s (fit_range before z e).p_most u l)))
      ∙ ap (λ (p : ℕ). flat (map (ids_of_share program before token) (up_to p))) shares_are)

-- ---- each way out

module _ (before token output : List ℕ) where
  -- by the verdict
  told : (o : Option Answer) → find_verdict program before token output ≡ o
      → (answer_or o (done (length (ids_found program before token) ∷ [])) ≡ (find program before token output).answer)
      × (unless_refused o (flat (ids_found program before token) ++ drop (16 * length (ids_found program before token)) output) output ≡ (find program before token output).output)
  unfolding find
  told o q =
      (ap (λ (v : Option Answer). answer_or v (done (length (ids_found program before token) ∷ []))) (sym q), ap (λ (v : Option Answer). unless_refused v (flat (ids_found program before token) ++ drop (16 * length (ids_found program before token)) output) output) (sym q))

  abbrev later_tests : List Test
  later_tests =
      (any_of (λ u. damaged (share_reading program before (find_cl token) u)) (up_to (sizes_of before).p) ⇒ 13)
      ∷ (ltb (length output) (16 * length (ids_found program before token)) ⇒ 18 carrying (length (ids_found program before token) ∷ []))
      ∷ []

  pub other_length : (length token ≡ find_token_length → ⊥) → (refused 6 [] ≡ (find program before token output).answer) × (output ≡ (find program before token output).output)
  unfolding find_verdict token_tests
  other_length h = told (some (refused 6 [])) (rw (ne_eqb (length token) find_token_length h) refl)

  module _ (h : length token ≡ find_token_length) where
    from_state : find_verdict program before token output ≡ verdict (state_tests before ++ later_tests)
    unfolding find_verdict token_tests
    from_state = rw (eq-eqb (length token) find_token_length h) refl

    pub unfit_store : (r : Refusal) → checked_of before ≡ Err r → (refusal r ≡ (find program before token output).answer) × (output ≡ (find program before token output).output)
    unfit_store r e = told (some (refusal r)) (from_state ∙ unfit before r later_tests e)

    module _ (z : Shape) (e : checked_of before ≡ Ok z) where
      passed : find_verdict program before token output ≡ verdict later_tests
      passed = from_state ∙ fit_verdict before z later_tests e

      pub damage_found : any_of (λ u. damaged (share_reading program before (find_cl token) u)) (up_to z.p) ≡ true
          → (refused 13 [] ≡ (find program before token output).answer) × (output ≡ (find program before token output).output)
      damage_found d = told (some (refused 13 [])) (passed ∙ rw (sym (ap (λ (p : ℕ). any_of (λ u. damaged (share_reading program before (find_cl token) u)) (up_to p)) (shares_are before token z e h)) ∙ d) refl)

      pub given : any_of (λ u. damaged (share_reading program before (find_cl token) u)) (up_to z.p) ≡ false
          → (given_answer (ids_found program before token) output ≡ (find program before token output).answer) × (given_output (ids_found program before token) output ≡ (find program before token output).output)
      unfolding given_answer given_output
      given d = go (ltb (length output) (16 * length ids)) refl
        where
          ids : List (List ℕ)
          ids = ids_found program before token

          sound : any_of (λ u. damaged (share_reading program before (find_cl token) u)) (up_to (sizes_of before).p) ≡ false
          sound = sym (ap (λ (p : ℕ). any_of (λ u. damaged (share_reading program before (find_cl token) u)) (up_to p)) (shares_are before token z e h)) ∙ d

          go : (b : Bool) → ltb (length output) (16 * length ids) ≡ b
              → (cond b (refused 18 (length ids ∷ [])) (done (length ids ∷ [])) ≡ (find program before token output).answer)
              × (cond b output (flat ids ++ drop (16 * length ids) output) ≡ (find program before token output).output)
          go true q = told (some (refused 18 (length ids ∷ []))) (passed ∙ rw (sound, q) refl)
          go false q = told none (passed ∙ rw (sound, q) refl)

-- ---- what is given of the ids that are kept

module _ (ids : List (List ℕ)) (output : List ℕ) (n : ℕ) (q : n ≡ length ids) where
  pub no_room : length output < 16 * n → (refused 18 (n ∷ []) ≡ given_answer ids output) × (output ≡ given_output ids output)
  unfolding given_answer given_output
  no_room h =
      let e = lt-ltb (length output) (16 * length ids) (omega arith) in (
        ap (λ (k : ℕ). refused 18 (k ∷ [])) q ∙ sym (ap (λ (b : Bool). cond b (refused 18 (length ids ∷ [])) (done (length ids ∷ []))) e),
        sym (ap (λ (b : Bool). cond b output (flat ids ++ drop (16 * length ids) output)) e),
      )

  pub all_written : 16 * n ≤ length output → All (λ id. length id ≡ 16) ids → (o : List ℕ) → o ≡ written output 0 (flat ids)
      → (done (n ∷ []) ≡ given_answer ids output) × (o ≡ given_output ids output)
  unfolding given_answer given_output
  all_written h w o k =
      let e = le-ltb (length output) (16 * length ids) (omega arith) in (
        ap (λ (k : ℕ). done (k ∷ [])) q ∙ sym (ap (λ (b : Bool). cond b (refused 18 (length ids ∷ [])) (done (length ids ∷ []))) e),
        k ∙ written_next [] output (flat ids) 0 refl ∙ ap (λ (j : ℕ). flat ids ++ drop j output) (flat-length 16 ids w)
            ∙ sym (ap (λ (b : Bool). cond b output (flat ids ++ drop (16 * length ids) output)) e),
      )

-- an index of so many zeros has room for half of those behind the buckets
pub empty : (size n : ℕ) → 4096 + n ≤ size → size ≤ 69632 → Empty (replicate size 0) n
empty size n h k =
    let l : length (replicate size zero) ≡ size = length-replicate size zero in
    record { clear = ap (λ (m : ℕ). replicate m zero) (sym l); room = omega (arith, l); most = omega (arith, l) }

-- an index for 4,096 ids has room for the different ones where the counts sum to no more; one for 16 times as many has, whatever
-- the counts
module _ (keys : EntryKeys) (m : ℕ) (t : List ℕ) (h : m ≤ 4096) (of : List ℕ) (p : ℕ) where
  few_rows : length (rows (width_of table_m) m t) ≤ 4096
  few_rows = omega (arith, rows-length (width_of table_m) m t)

  pub room_for_few : sum (map (λ u. get_or of u 0) (up_to p)) ≤ 4096 → Empty (replicate 8192 0) (length (distinct (ids_in keys (rows (width_of table_m) m t) of (p + 1))))
  room_for_few c =
      let ids = ids_in keys (rows (width_of table_m) m t) of (p + 1) in
      let e = ap (λ (l : List ℕ). sum (map (λ u. get_or of u 0) l)) (up_to-below p) in
      empty 8192 (length (distinct ids)) (omega (arith, distinct_few ids, few_in keys (rows (width_of table_m) m t) few_rows of (p + 1), e, c)) (omega arith)

  pub room_for_many : p ≤ 15 → Empty (replicate 69632 0) (length (distinct (ids_in keys (rows (width_of table_m) m t) of (p + 1))))
  room_for_many l =
      let ids = ids_in keys (rows (width_of table_m) m t) of (p + 1) in
      empty 69632 (length (distinct ids)) (omega (arith, most_in keys (rows (width_of table_m) m t) few_rows of (p + 1) (omega (arith, l)))) (omega arith)

-- ---- gathered in an index with no id: those kept are the distinct ones

module _ (keys : EntryKeys) (t : Table) (few : length t ≤ 4096) (w : RowsM t) (of : List ℕ) (p : ℕ) (index ids : List ℕ) (e : Empty index (length (distinct (ids_in keys t of p)))) (l : length ids ≡ 65536) where
  pub ready : Chained keys.me t (kept index ids 0)
  ready = chained_none keys.me t index ids e.clear (omega (arith, e.room)) e.most l

  none_kept : kept_ids keys.me t index 0 ≡ distinct []
  unfolding kept_ids
  none_kept = refl

  pub room : 4096 + (noted_in keys t of p (kept index ids 0)).n ≤ length index
  room = (gathers_in keys t few w of p (kept index ids 0)).fits ready [] none_kept e.room

  module _ (k : Kept) (q : k ≡ noted_in keys t of p (kept index ids 0)) where
    pub gathered_chained : Chained keys.me t k
    gathered_chained = subst (Chained keys.me t) (sym q) ((gathers_in keys t few w of p (kept index ids 0)).chained ready room)

    pub gathered_ids : kept_ids keys.me t k.index k.n ≡ distinct (ids_in keys t of p)
    gathered_ids =
        ap (λ (k : Kept). kept_ids keys.me t k.index k.n) q ∙ (gathers_in keys t few w of p (kept index ids 0)).keeps ready room [] none_kept

    pub gathered_number : k.n ≡ length (distinct (ids_in keys t of p))
    gathered_number = sym (kept_length keys.me t k.index k.n) ∙ ap length gathered_ids

  pub gathered_wide : All (λ id. length id ≡ 16) (distinct (ids_in keys t of p))
  gathered_wide = distinct-all (λ id. length id ≡ 16) (ids_in keys t of p) (wide_in keys t few w of p)
    where
      distinct-all : (P : List ℕ → Type 0) (l : List (List ℕ)) → All P l → All P (distinct l)
      distinct-all P [] h = tt
      distinct-all P (x ∷ xs) h = (h.0, all_select P (λ y. not (same y x)) (distinct xs) (distinct-all P xs h.1))
