-- Every answer fits its number: what the definitions answer is below 2 ^ 63, with 256 times what a refusal carries, and each call
-- answers always as many values, and its refusals carry as many as their numbers say.
use Prim.Native.Nat.{ℕ, zero, suc, ◌+◌, ◌*◌, ◌/◌, ◌^◌, ◌≤◌, ◌<◌}
use native.Mathlib.Omega.{arith}
use native.Mathlib.Nat.{le_trans}
use mathlib.Core.Path.{◌≡◌, refl, sym, subst}
use mathlib.Core.Bool.{Bool, true, false, cond, ◌&&◌}
use mathlib.Core.Option.{Option, none, some}
use mathlib.Core.List.{List, [], ◌∷◌, ◌++◌, map}
use lib.Dec.{T, ltb, eqb, lit<, eqb→eq}
use lib.ListN.{length, drop, length-append, length-map}
use Rattle.answer.specs.Answer.{Answer, done, refused, without_rows}
use Rattle.answer.specs.Verdict.{Test, ◌⇒◌, ◌⇒◌carrying◌, verdict, answer_or}
use Rattle.table.specs.Lists.{any_of, all_of, select, sum, up_to}
use Rattle.table.specs.Table.{Table, used, lookup}
use Rattle.table.proofs.Counting.{count-length, count-le, count-select}
use Rattle.table.proofs.Distinct.{distinct_few}
use Rattle.table.proofs.Rows.{rows-length, free_used}
use Rattle.table.proofs.Below.{flat-length-sum}
use Rattle.sha256.specs.Hash.{hash_tests, hash_answer}
use Rattle.hmac.specs.Hmac.{mac_tests, mac_answer}
use Rattle.chacha20.specs.Call.{cipher_tests, cipher_answer}
use Rattle.client.specs.Making.{making_answer}
use Rattle.scheme.specs.Labels.{Field}
use Rattle.scheme.specs.Keys.{insert_token_length, find_token_length, count_token_length, compaction_token_length, mark_token_length, token_cl, find_cl, part_find}
use Rattle.scheme.specs.Store.{Sizes, Which, table_m, table_v, table_c, table_s, table_r, width_of, rows_of, start_of, make_tests, make, cut, sizes_of, header_bad, mark_tests, state_tests, entry_tag, cl_in}
use Rattle.scheme.specs.Reading.{Reading, damage, counter, limit, count_of, damaged, reading}
use Rattle.scheme.specs.Refusals.{token_tests, part_tests, parts_in, id_tests, insert_input_tests, compaction_input_tests, insert_token_tests, field_token_tests, key_tests}
use Rattle.scheme.specs.Insert.{insert_reading, new_count, insert_state_tests, insert_verdict, insert}
use Rattle.scheme.specs.Erase.{is_reverse, erase_verdict, erase}
use Rattle.scheme.specs.Find.{id_of, ids_to, share_reading, ids_of_share, ids_held, ids_found, find_verdict, find}
use Rattle.scheme.specs.Test.{tests, yes_or_no, test_verdict, test}
use Rattle.scheme.specs.JointFind.{without, part_damaged, part_ids, part_test, chosen_at, chosen_part, ids_kept, joint_verdict, joint_find}
use Rattle.scheme.specs.Count.{count_verdict, sum_of_counts, full_count, count}
use Rattle.scheme.specs.Compaction.{Treated, by_reading, treat_all, log_of, logged, compact_verdict, treated, compact}
use Rattle.scheme.specs.Order.{used_in_all, order_verdict, order}
use Rattle.scheme.specs.Check.{faults, check_verdict, check}
use Rattle.consistency.proofs.Few.{faults_few}
use Rattle.scheme.proofs.RowsRead.{full_count_lem}
use Rattle.suite.specs.Program.{program}
use Rattle.store.proofs.Laws.{good_header}
use Rattle.counter.proofs.Readings.{reading_bounds}
use Rattle.encoding.specs.Encoding.{packed, magnitude, Values, none as no_value, one, two, carries, Gives, Fits, summed}

-- the answer of a list of conditions, each looked at where those before it do not hold
abbrev pub Bounded : ℕ → List Test → Answer → Type 0
Bounded n [] a = Fits n a
Bounded n ((b ⇒ k) ∷ ts) a = T (ltb 0 k && ltb k 256 && eqb (carries n k) 0) × (b ≡ false → Bounded n ts a)
Bounded n ((b ⇒ k carrying l) ∷ ts) a = Fits n (refused k l) × (b ≡ false → Bounded n ts a)

both : (x y : Bool) → T (x && y) → T x × T y
both true y t = (tt, t)
both false y t = absurd t

-- a refusal that carries nothing
plain : (n k : ℕ) → T (ltb 0 k && ltb k 256 && eqb (carries n k) 0) → Fits n (refused k [])
plain n k t =
    let h = both (ltb 0 k && ltb k 256) (eqb (carries n k) 0) t in
    let i = both (ltb 0 k) (ltb k 256) h.0 in
    let below = lit< {m = k} {n = 256} i.1 in
    record { small = omega arith; gives = (lit< {m = 0} {n = k} i.0, below, subst (λ (m : ℕ). Values m []) (sym (eqb→eq (carries n k) 0 h.1)) no_value) }

chosen : {n : ℕ} (b : Bool) (r a : Answer) (v : Option Answer) → Fits n r → (b ≡ false → Fits n (answer_or v a))
    → Fits n (answer_or (cond b (some r) v) a)
chosen true r a v h f = h
chosen false r a v h f = f refl

pub bounded : {n : ℕ} (ts : List Test) (a : Answer) → Bounded n ts a → Fits n (answer_or (verdict ts) a)
bounded [] a h = h
bounded {n} ((b ⇒ k) ∷ ts) a h = chosen b (refused k []) a (verdict ts) (plain n k h.0) (λ e. bounded ts a (h.1 e))
bounded ((b ⇒ k carrying l) ∷ ts) a h = chosen b (refused k l) a (verdict ts) h.0 (λ e. bounded ts a (h.1 e))

-- a reading's count
count_small : (c : ℕ) (cl : List ℕ) (t : Table) → count_of (reading program c cl t) ≤ limit
count_small c cl t = go (reading program c cl t) refl
  where
    go : (r : Reading) → r ≡ reading program c cl t → count_of r ≤ limit
    go damage e = omega arith
    go (counter b s k n) e = (reading_bounds c cl t b s k n e).count_limit

share_small : (before clx : List ℕ) (u : ℕ) → count_of (share_reading program before clx u) ≤ limit
unfolding share_reading
share_small before clx u = count_small _ _ _

sum_few : (f : ℕ → ℕ) → ((u : ℕ) → f u ≤ limit) → (l : List ℕ) → sum (map f l) ≤ limit * length l
sum_few f h [] = omega arith
sum_few f h (u ∷ l) = omega (arith, h u, sum_few f h l)

length-up_to : (p : ℕ) → length (up_to p) ≡ p + 1
length-up_to zero = refl
length-up_to (suc p) = simp length-append (omega (arith, length-up_to p))

-- a table's used rows are at most its rows
used_most : (before : List ℕ) (k : Which) → length (used ((cut before).table k)) ≤ rows_of (sizes_of before) k
unfolding cut
used_most before k =
    let z = sizes_of before in
    omega (arith, free_used ((cut before).table k), rows-length (width_of k) (rows_of z k) (drop (start_of z k) before))

-- the calls' answers
pub insert_fits : (before ids nonces token : List ℕ) → length ids < 2 ^ 64 → Fits 1 (insert program before ids nonces token).answer
unfolding insert insert_verdict insert_input_tests token_tests state_tests insert_state_tests new_count insert_reading
insert_fits before ids nonces token h =
    let n = count_small (sizes_of before).c (token_cl token) ((cut before).table table_c) in
    bounded (insert_input_tests ids nonces ++ (token_tests insert_token_length token ++ (state_tests before ++ insert_state_tests program before ids nonces token))) (done (new_count program before ids token ∷ []))
    (tt, λ _. (tt, λ _. (tt, λ _. (tt, λ _. (tt, λ _. (tt, λ _. (tt, λ _. (tt, λ _. (tt, λ _. (tt, λ _. (tt, λ _. (tt, λ _. (tt, λ _. record { small = omega (arith, n, h); gives = one })))))))))))))

pub erase_fits : (before id : List ℕ) → Fits 1 (erase before id).answer
unfolding erase erase_verdict id_tests state_tests
erase_fits before id =
    bounded (id_tests id ++ state_tests before) _
    (tt, λ _. (tt, λ h. (tt, λ _. (tt, λ _. record { small = omega (arith, (good_header before h).range.m_most, used_most before table_v, count-le (is_reverse before id) (used ((cut before).table table_v))); gives = one }))))

full_fits : (before token : List ℕ) → Fits 1 (full_count program before token)
unfolding full_count count_verdict token_tests state_tests sum_of_counts
full_fits before token =
    bounded (token_tests count_token_length token ++ (state_tests before ++ ((any_of (λ u. damaged (share_reading program before token u)) (up_to (sizes_of before).p) ⇒ 13) ∷ []))) _ (
      tt,
      λ _. (
        tt,
        λ h. (
          tt,
          λ _. (
            tt,
            λ _. (
              tt,
              λ _. record {
                small = omega (arith, (good_header before h).range.p_most, length-up_to (sizes_of before).p, sum_few (λ u. count_of (share_reading program before token u)) (share_small before token) (up_to (sizes_of before).p));
                gives = one;
              },
            ),
          ),
        ),
      ),
    )

pub count-answer_fits : (before token : List ℕ) → Fits 1 (without_rows (count program before token).answer)
count-answer_fits before token = subst (Fits 1) (sym (full_count_lem program before token)) (full_fits before token)

ids_few : (mt me : List ℕ) (t : Table) (n : ℕ) → length (ids_to program mt me t n) ≤ n
ids_few mt me t zero = omega arith
ids_few mt me t (suc n) = rw length-append (omega (arith, ids_few mt me t n, one (lookup (entry_tag program mt (suc n)) t)))
  where
    one : (o : Option (List ℕ)) → length (id_of program me o) ≤ 1
    one none = omega arith
    one (some b) = omega arith

share_few : (before token : List ℕ) (u : ℕ) → length (ids_of_share program before token u) ≤ limit
unfolding ids_of_share
share_few before token u = le_trans (ids_few _ _ _ _) (share_small before (find_cl token) u)

held_few : (before token : List ℕ) → header_bad before ≡ false → length (ids_held program before token) ≤ limit * 16
unfolding ids_held
held_few before token h =
    omega (
      arith,
      (good_header before h).range.p_most,
      length-up_to (sizes_of before).p,
      flat-length-sum (ids_of_share program before token) (up_to (sizes_of before).p),
      sum_few (λ u. length (ids_of_share program before token u)) (share_few before token) (up_to (sizes_of before).p),
    )

found_few : (before token : List ℕ) → header_bad before ≡ false → length (ids_found program before token) ≤ limit * 16
unfolding ids_found
found_few before token h = le_trans (distinct_few (ids_held program before token)) (held_few before token h)

pub find_fits : (before token output : List ℕ) → Fits 1 (find program before token output).answer
unfolding find find_verdict token_tests state_tests
find_fits before token output =
    let n = length (ids_found program before token) in
    bounded (token_tests find_token_length token ++ (state_tests before ++ ((any_of (λ u. damaged (share_reading program before (find_cl token) u)) (up_to (sizes_of before).p) ⇒ 13) ∷ (ltb (length output) (16 * n) ⇒ 18 carrying (n ∷ [])) ∷ []))) _
    (tt, λ _. (tt, λ h. (tt, λ _. (tt, λ _. (tt, λ _. (record { small = omega (arith, found_few before token h); gives = (omega arith, omega arith, one) }, λ _. record { small = omega (arith, found_few before token h); gives = one }))))))

-- a selection is no longer than its list
select_few : {A : Type 0} (p : A → Bool) (l : List A) → length (select p l) ≤ length l
select_few {A} p l =
    omega (arith, count-length (select p l), count-select p (λ (x : A). true) l, count-le (λ (x : A). p x && true) l)

kept_few : (before parts : List ℕ) → header_bad before ≡ false → length (ids_kept program before parts) ≤ limit * 16
unfolding ids_kept part_ids
kept_few before parts h =
    let t = part_find (chosen_part program before parts) in
    let others = without (chosen_at program before parts) (parts_in parts) in
    le_trans (select_few (λ id. all_of (part_test program before id) others) (ids_found program before t)) (found_few before t h)

pub joint_find_fits : (before parts output : List ℕ) → Fits 1 (joint_find program before parts output).answer
unfolding joint_find joint_verdict part_tests state_tests
joint_find_fits before parts output =
    let n = length (ids_kept program before parts) in
    bounded (part_tests parts ++ (state_tests before ++ ((any_of (part_damaged program before) (parts_in parts) ⇒ 13) ∷ (ltb (length output) (16 * n) ⇒ 18 carrying (n ∷ [])) ∷ []))) _
    (tt, λ _. (tt, λ h. (tt, λ _. (tt, λ _. (tt, λ _. (record { small = omega (arith, kept_few before parts h); gives = (omega arith, omega arith, one) }, λ _. record { small = omega (arith, kept_few before parts h); gives = one }))))))

yes_or_no_fits : (b : Bool) → Fits 1 (yes_or_no b)
yes_or_no_fits true = record { small = omega arith; gives = one }
yes_or_no_fits false = record { small = omega arith; gives = one }

pub test_fits : (before id token : List ℕ) → Fits 1 (test program before id token).answer
unfolding test test_verdict id_tests token_tests state_tests
test_fits before id token =
    bounded (id_tests id ++ (token_tests mark_token_length token ++ state_tests before)) _
    (tt, λ _. (tt, λ _. (tt, λ _. (tt, λ _. (tt, λ _. yes_or_no_fits (tests program ((cut before).table table_r) token id))))))

-- what a treatment of CL after CL answers, from a anchors and w counters
pub record Few (n a w : ℕ) (x : Answer) : Type 0 where
  pub most : magnitude x ≤ 13 + 256 * packed ((a + n) ∷ (w + 4096 * n) ∷ [])
  pub values : w + 4096 * n < 2 ^ 32 → Gives 2 x

few_more : (n a w : ℕ) (x : Answer) → Few n a w x → Few (suc n) a w x
few_more n a w x h = record { most = omega (arith, h.most); values = λ b. h.values (omega arith) }

few_anchored : (n a w k : ℕ) (x : Answer) → k ≤ 4096 → Few n (a + 1) (w + k) x → Few (suc n) a w x
few_anchored n a w k x l h = record { most = omega (arith, h.most); values = λ b. h.values (omega arith) }

few_by : (c : ℕ) → c ≤ 4096 → (ks cl : List ℕ) (t_c t_s : Table) (nonces : List ℕ) (a w n : ℕ) (rest : Table → Table → List ℕ → ℕ → ℕ → Treated)
    → ((t s : Table) (l : List ℕ) (b v : ℕ) → Few n b v (rest t s l b v).answer)
    → (r : Reading) → r ≡ reading program c cl t_c → Few (suc n) a w (by_reading program ks cl t_c t_s nonces a w r rest).answer
few_by c h ks cl t_c t_s nonces a w n rest f damage e = record { most = omega arith; values = λ b. let s : w < 2 ^ 32 = omega arith in (omega arith, omega arith, two s) }
few_by c h ks cl t_c t_s nonces a w n rest f (counter B s zero m) e = few_more n a w _ (f _ _ _ _ _)
few_by c h ks cl t_c t_s nonces a w n rest f (counter B s (suc k) m) e =
    few_anchored n a w (suc k) _ (omega (arith, (reading_bounds c cl t_c B s (suc k) m e).counters)) (f _ _ _ _ _)

all_few : (c : ℕ) → c ≤ 4096 → (ks : List ℕ) (cls : List (List ℕ)) (t_c t_s : Table) (nonces : List ℕ) (a w : ℕ)
    → Few (length cls) a w (treat_all program c ks cls t_c t_s nonces a w).answer
all_few c h ks [] t_c t_s nonces a w = record { most = omega arith; values = λ b. let s : w < 2 ^ 32 = omega arith in two s }
all_few c h ks (cl ∷ cls) t_c t_s nonces a w =
    few_by c h ks cl t_c t_s nonces a w (length cls) _ (λ t s l b v. all_few c h ks cls t s l b v) (reading program c cl t_c) refl

module _ (before nonces token : List ℕ) where
  logged_few : length (logged program before token) ≤ (sizes_of before).s
  unfolding logged log_of
  logged_few = omega (arith, distinct_few (map (cl_in program token) (used ((cut before).table table_s))), length-map (used ((cut before).table table_s)) (cl_in program token), used_most before table_s)

  treated_fits : header_bad before ≡ false → Fits 2 (treated program before nonces token).answer
  unfolding treated
  treated_fits h =
      let z = (good_header before h).range in
      let f = all_few (sizes_of before).c z.c_most token (logged program before token) ((cut before).table table_c) ((cut before).table table_s) nonces 0 0 in
      record { small = omega (arith, f.most, logged_few, z.s_most); gives = f.values (omega (arith, logged_few, z.s_most)) }

  pub compact_fits : Fits 2 (compact program before nonces token).answer
  unfolding compact compact_verdict compaction_input_tests token_tests state_tests
  compact_fits =
      bounded (compaction_input_tests nonces ++ (token_tests compaction_token_length token ++ (state_tests before ++
      ((ltb (length nonces / 12) (length (used ((cut before).table table_s))) ⇒ 19) ∷ [])))) _
      (tt, λ _. (tt, λ _. (tt, λ h. (tt, λ _. (tt, λ _. (tt, λ _. treated_fits h))))))

-- the used rows of all tables are at most their rows
pub order_fits : (before : List ℕ) → Fits 1 (order before).answer
unfolding order order_verdict mark_tests used_in_all
order_fits before =
    bounded (mark_tests before) _ (
      tt,
      λ h. let z = (good_header before h).range in (
        tt,
        λ _. record {
          small = omega (arith, z.m_most, z.c_most, z.s_most, z.r_most, used_most before table_m, used_most before table_v, used_most before table_c, used_most before table_s, used_most before table_r);
          gives = one;
        },
      ),
    )

-- a refusal stays as it is
one_summed : (b : Bool) (k : ℕ) (l : List ℕ) (v : Option Answer) (a : Answer) → summed (answer_or v a) ≡ answer_or v (summed a)
    → summed (answer_or (cond b (some (refused k l)) v) a) ≡ answer_or (cond b (some (refused k l)) v) (summed a)
one_summed true k l v a e = refl
one_summed false k l v a e = e

all_summed : (ts : List Test) (a : Answer) → summed (answer_or (verdict ts) a) ≡ answer_or (verdict ts) (summed a)
all_summed [] a = refl
all_summed ((b ⇒ k) ∷ ts) a = one_summed b k [] (verdict ts) a (all_summed ts a)
all_summed ((b ⇒ k carrying l) ∷ ts) a = one_summed b k l (verdict ts) a (all_summed ts a)

pub check_fits : (before : List ℕ) → Fits 1 (summed (check before).answer)
unfolding check check_verdict state_tests
check_fits before =
    subst (Fits 1) (sym (all_summed (state_tests before) (done (faults (cut before)))))
    (bounded (state_tests before) _ (tt, λ h. (tt, λ _. (tt, λ _. record { small = omega (arith, faults_few before h); gives = one }))))

-- the calls that answer no value
pub hash_fits : (m : List ℕ) → Fits 0 (hash_answer m)
unfolding hash_answer hash_tests
hash_fits m = bounded (hash_tests m) (done []) (tt, λ _. record { small = omega arith; gives = no_value })

pub mac_fits : (key m : List ℕ) → Fits 0 (mac_answer key m)
unfolding mac_answer mac_tests
mac_fits key m = bounded (mac_tests key m) (done []) (tt, λ _. record { small = omega arith; gives = no_value })

pub cipher_fits : (key nonce text : List ℕ) → Fits 0 (cipher_answer key nonce text)
unfolding cipher_answer cipher_tests
cipher_fits key nonce text = bounded (cipher_tests key nonce text) (done []) (tt, λ _. (tt, λ _. (tt, λ _. record { small = omega arith; gives = no_value })))

pub make_fits : (z : Sizes) (slice : List ℕ) → Fits 0 (make z slice).answer
unfolding make make_tests
make_fits z slice = bounded (make_tests z slice) (done []) (tt, λ _. (tt, λ _. record { small = omega arith; gives = no_value }))

pub insert_token_fits : (key : List ℕ) (f : Field) (p u : ℕ) (nonce : List ℕ) → Fits 0 (making_answer (insert_token_tests key f p u nonce))
unfolding insert_token_tests
insert_token_fits key f p u nonce = bounded (insert_token_tests key f p u nonce) (done []) (tt, λ _. (tt, λ _. (tt, λ _. (tt, λ _. record { small = omega arith; gives = no_value }))))

pub field_token_fits : (key : List ℕ) (f : Field) → Fits 0 (making_answer (field_token_tests key f))
unfolding field_token_tests
field_token_fits key f = bounded (field_token_tests key f) (done []) (tt, λ _. (tt, λ _. record { small = omega arith; gives = no_value }))

pub key_token_fits : (key : List ℕ) → Fits 0 (making_answer (key_tests key))
unfolding key_tests
key_token_fits key = bounded (key_tests key) (done []) (tt, λ _. record { small = omega arith; gives = no_value })
