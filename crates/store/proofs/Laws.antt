-- Laws of the header and of the checks: what a header in range says of the slice, and what callers learn of a check.
use Prim.Native.Nat.{ℕ, ◌+◌, ◌*◌, ◌-◌, ◌≤◌}
use mathlib.Core.Path.{◌≡◌, refl, sym, ap, ap₂, subst, ◌∙◌, fun_ext}
use mathlib.Core.Bool.{Bool, true, false, cond, not, ◌||◌, or-false}
use mathlib.Core.Option.{none, some}
use mathlib.Core.List.{List, [], ◌++◌, append-nil}
use native.Mathlib.Omega.{arith}
use lib.ListN.{length, take, drop, replicate, length-drop, drop_of_length-le}
use lib.Seq.{drop_at, length-take-le}
use borrow.Author.Tests.{not-false, eq-eqb, ne_eqb}
use Rattle.octets.specs.Part.{back}
use Rattle.octets.proofs.Parts.{back_next}
use Rattle.table.specs.Lists.{any_of}
use Rattle.table.specs.Table.{Table, rows, mark_bad, free_rows}
use Rattle.table.specs.Order.{used_rows, in_form, Searchable}
use Rattle.table.proofs.Counting.{neither}
use Rattle.table.proofs.Rows.{rows-length}
use Rattle.table.proofs.Walk.{rows_take}
use Rattle.table.proofs.Order.{rows_counted}
use Rattle.answer.specs.Answer.{done, refused, refusal}
use Rattle.answer.specs.declared.Refusal.{Refusal}
use Rattle.answer.specs.declared.Refusal.TheVariants.{Header, Mark, Form}
use Rattle.answer.specs.Verdict.{Test, verdict}
use Rattle.scheme.specs.Store.{Sizes, Which, plan, width_of, rows_of, greatest_mark, start_of, header_length, sizes_bad, length_for, header_of, sizes_of, cut, header_bad, marks_bad, form_bad, mark_tests, state_tests, fresh, make_tests, make}
use Rattle.scheme.specs.Layout.{Span, span_of, Laid}
use Rattle.scheme.proofs.Plan.{laid_cut, laid_end, laid_inside, laid_long, laid_rows, laid_from}
use Rattle.store.specs.declared.Shape.{Shape}
use Rattle.store.specs.declared.Part.{Part}
use Rattle.std.specs.Prelude.{Result, Ok, Err}
use Rattle.store.specs.Check.{table_m, table_v, table_c, table_s, table_r, survey_of, surveys_of, table_by, part_by, shape_by, marked_of, checked_of, part_in, span_in, sizes_in}
pub use Rattle.header.proofs.Laws.{InRange, in_range, length_shares, GoodHeader, good_header, sizes_read}
pub use Rattle.store.specs.Check.{table_m, table_v, table_c, table_s, table_r}

-- ---- making

module _ (z : Sizes) (b : List ℕ) where
  pub make_range : sizes_bad z ≡ true → (refused 7 [] ≡ (make z b).answer) × (b ≡ (make z b).store)
  unfolding make make_tests
  make_range e = (rw e, rw e)

  pub make-length : sizes_bad z ≡ false → (length b ≡ length_for z → ⊥) → (refused 8 [] ≡ (make z b).answer) × (b ≡ (make z b).store)
  unfolding make make_tests
  make-length e f = let n = ne_eqb (length b) (length_for z) f in (rw (e, n), rw (e, n))

  pub make-done : sizes_bad z ≡ false → length b ≡ length_for z → (a : List ℕ) → a ≡ fresh z → (done [] ≡ (make z b).answer) × (a ≡ (make z b).store)
  unfolding make make_tests
  make-done e f a g = let n = eq-eqb (length b) (length_for z) f in (rw (e, n), rw (e, n) g)

  -- the header over the first bytes, then zeros over the rest
  pub made : (h zs : List ℕ) (n : ℕ) → n ≡ length b → n ≡ length_for z → h ≡ header_of z
      → zs ≡ replicate (length (take (n - header_length) (drop header_length (back b 0 header_length h)))) 0 → back (back b 0 header_length h) header_length n zs ≡ fresh z
  unfolding fresh header_of
  made h zs n l e f g =
      let lh : length h ≡ header_length = ap length f in
      let d : drop header_length (h ++ drop header_length b) ≡ drop header_length b = drop_at h (drop header_length b) header_length lh in
      let short : length (drop header_length b) ≤ n - header_length = omega (arith, length-drop header_length b) in
      let k : length (take (n - header_length) (drop header_length b)) ≡ n - header_length = length-take-le (n - header_length) (drop header_length b) (omega (arith, length-drop header_length b)) in
      back_next h (drop header_length b) zs header_length n lh ∙ ap (λ (r : List ℕ). (h ++ zs) ++ r) (drop_of_length-le (drop header_length b) short) ∙ append-nil (h ++ zs)
      ∙ ap₂ (λ (x y : List ℕ). x ++ y) f
      (g ∙ ap (λ (j : ℕ). replicate j 0) (ap (λ (r : List ℕ). length (take (n - header_length) r)) d ∙ k ∙ ap (λ (j : ℕ). j - header_length) e))

-- ---- the checks

abbrev part_at : List ℕ → ℕ → ℕ → ℕ → Part
part_at b a w n = record { start = a; end = a + w * n; rows = n; free = free_rows (rows w n (drop a b)) }

-- one pass over the lent part
module _ (b : List ℕ) (start w n most : ℕ) where
  abbrev lent_rows : Table
  lent_rows = rows w n (take (start + w * n - start) (drop start b))

  all_rows : lent_rows ≡ rows w n (drop start b)
  all_rows = rows_take w n (start + w * n - start) (drop start b) (omega arith)

  pub surveyed_bad : (free : ℕ) → Err free ≡ cond (mark_bad most lent_rows) (Err (free_rows lent_rows)) (Ok (free_rows lent_rows)) → Err Mark ≡ survey_of b start w n most
  unfolding survey_of
  surveyed_bad free e = go (mark_bad most (rows w n (drop start b))) (e ∙ ap (λ (t : Table). cond (mark_bad most t) (Err (free_rows t)) (Ok (free_rows t))) all_rows)
    where
      go : (h : Bool) → Err free ≡ cond h (Err (free_rows (rows w n (drop start b)))) (Ok (free_rows (rows w n (drop start b)))) → Err Mark ≡ cond h (Err Mark) (Ok (part_at b start w n))
      go true e = refl
      go false e = absurd (let z : ◌≡◌ {A = ℕ} 0 1 = cc in omega arith)

  pub surveyed : (free : ℕ) → Ok free ≡ cond (mark_bad most lent_rows) (Err (free_rows lent_rows)) (Ok (free_rows lent_rows))
      → Ok (record { start = start; end = start + w * n; rows = n; free = free }) ≡ survey_of b start w n most
  unfolding survey_of
  surveyed free e = go (mark_bad most (rows w n (drop start b))) (e ∙ ap (λ (t : Table). cond (mark_bad most t) (Err (free_rows t)) (Ok (free_rows t))) all_rows)
    where
      go : (h : Bool) → Ok free ≡ cond h (Err (free_rows (rows w n (drop start b)))) (Ok (free_rows (rows w n (drop start b))))
          → Ok (record { start = start; end = start + w * n; rows = n; free = free }) ≡ cond h (Err Mark) (Ok (part_at b start w n))
      go true e = absurd (let z : ◌≡◌ {A = ℕ} 0 1 = cc in omega arith)
      go false e = let q : free ≡ free_rows (rows w n (drop start b)) = cc in ap (λ (k : ℕ). Ok (record { start = start; end = start + w * n; rows = n; free = k })) q

-- a table that was surveyed: none of its marks is bad, and this is its part
pub record Surveyed (b : List ℕ) (z : Sizes) (k : Which) (x : Part) : Type 0 where
  pub fine : mark_bad (greatest_mark k) (table_by b z k) ≡ false
  pub is : x ≡ part_by b z k

module _ (b : List ℕ) (z : Sizes) (k : Which) (a : ℕ) (here : a ≡ start_of z k) where
  pub good_survey : (x : Part) → Ok x ≡ survey_of b a (width_of k) (rows_of z k) (greatest_mark k) → Surveyed b z k x
  unfolding survey_of
  good_survey x e = go (mark_bad (greatest_mark k) (table_by b z k)) refl (e ∙ ap (λ (y : ℕ). survey_of b y (width_of k) (rows_of z k) (greatest_mark k)) here)
    where
      go : (h : Bool) → mark_bad (greatest_mark k) (table_by b z k) ≡ h → Ok x ≡ cond h (Err Mark) (Ok (part_by b z k)) → Surveyed b z k x
      go true f e = absurd (let z : ◌≡◌ {A = ℕ} 0 1 = cc in omega arith)
      go false f e = let q : x ≡ part_by b z k = cc in record { fine = f; is = q }

  pub bad_survey : (r : Refusal) → Err r ≡ survey_of b a (width_of k) (rows_of z k) (greatest_mark k) → (mark_bad (greatest_mark k) (table_by b z k) ≡ true) × (r ≡ Mark)
  unfolding survey_of
  bad_survey r e = go (mark_bad (greatest_mark k) (table_by b z k)) refl (e ∙ ap (λ (y : ℕ). survey_of b y (width_of k) (rows_of z k) (greatest_mark k)) here)
    where
      go : (h : Bool) → mark_bad (greatest_mark k) (table_by b z k) ≡ h → Err r ≡ cond h (Err Mark) (Ok (part_by b z k)) → (mark_bad (greatest_mark k) (table_by b z k) ≡ true) × (r ≡ Mark)
      go true f e = let q : r ≡ Mark = cc in (f, q)
      go false f e = absurd (let z : ◌≡◌ {A = ℕ} 0 1 = cc in omega arith)

-- all tables were surveyed, or one has a bad mark
module _ (b : List ℕ) (z : Sizes) where
  abbrev bad_marks : Bool
  bad_marks = any_of (λ k. mark_bad (greatest_mark k) (table_by b z k)) plan

  pub bad_surveys : (r : Refusal) → bad_marks ≡ true → r ≡ Mark → Err r ≡ surveys_of b z
  unfolding surveys_of
  bad_surveys r e f = rw e (ap Err f)

  pub good_surveys : (x : Shape) → bad_marks ≡ false → x ≡ shape_by b z → Ok x ≡ surveys_of b z
  unfolding surveys_of
  good_surveys x e f = rw e (ap Ok f)

-- the shape of a store by the surveys of its tables, or the first refusal of one
abbrev all_of : ℕ → Result Part Refusal → Result Part Refusal → Result Part Refusal → Result Part Refusal → Result Part Refusal → Result Shape Refusal
all_of p (Err e) v c s r = Err e
all_of p (Ok m) (Err e) c s r = Err e
all_of p (Ok m) (Ok v) (Err e) s r = Err e
all_of p (Ok m) (Ok v) (Ok c) (Err e) r = Err e
all_of p (Ok m) (Ok v) (Ok c) (Ok s) (Err e) = Err e
all_of p (Ok m) (Ok v) (Ok c) (Ok s) (Ok r) = Ok (record { p = p; m = m; v = v; c = c; s = s; r = r })

-- the tables one after the other
pub all_surveyed : (b : List ℕ) (z : Sizes) (r_m r_v r_c r_s r_r : Result Part Refusal)
    → r_m ≡ survey_of b (start_of z table_m) (width_of table_m) (rows_of z table_m) (greatest_mark table_m)
    → r_v ≡ survey_of b (start_of z table_v) (width_of table_v) (rows_of z table_v) (greatest_mark table_v)
    → r_c ≡ survey_of b (start_of z table_c) (width_of table_c) (rows_of z table_c) (greatest_mark table_c)
    → r_s ≡ survey_of b (start_of z table_s) (width_of table_s) (rows_of z table_s) (greatest_mark table_s)
    → r_r ≡ survey_of b (start_of z table_r) (width_of table_r) (rows_of z table_r) (greatest_mark table_r)
    → all_of z.p r_m r_v r_c r_s r_r ≡ surveys_of b z
unfolding survey_of surveys_of
all_surveyed b z r_m r_v r_c r_s r_r e_m e_v e_c e_s e_r =
    rw (e_m, e_v, e_c, e_s, e_r) (go (bad table_m) (bad table_v) (bad table_c) (bad table_s) (bad table_r))
  where
    bad : Which → Bool
    bad k = mark_bad (greatest_mark k) (table_by b z k)

    surveyed_as : Bool → Which → Result Part Refusal
    surveyed_as h k = cond h (Err Mark) (Ok (part_by b z k))

    go : (h_m h_v h_c h_s h_r : Bool)
        → all_of z.p (surveyed_as h_m table_m) (surveyed_as h_v table_v) (surveyed_as h_c table_c) (surveyed_as h_s table_s) (surveyed_as h_r table_r)
        ≡ cond (h_m || (h_v || (h_c || (h_s || (h_r || false))))) (Err Mark) (Ok (shape_by b z))
    go true h_v h_c h_s h_r = refl
    go false true h_c h_s h_r = refl
    go false false true h_s h_r = refl
    go false false false true h_r = refl
    go false false false false true = refl
    go false false false false false = refl

module _ (b : List ℕ) where
  pub checked_header : header_bad b ≡ true → Err Header ≡ marked_of b
  unfolding marked_of
  checked_header e = rw e

  pub checked_marks : (z : Sizes) (v : Result Shape Refusal) → header_bad b ≡ false → z ≡ sizes_of b → v ≡ surveys_of b z → v ≡ marked_of b
  unfolding marked_of surveys_of marks_bad cut
  checked_marks z v e q w = w ∙ ap (surveys_of b) q ∙ rw e

-- ---- what a caller learns

pub record MarkedStore (b : List ℕ) (z : Shape) : Type 0 where
  pub header : header_bad b ≡ false
  pub marks : marks_bad (cut b) ≡ false
  pub shape : z ≡ shape_by b (sizes_of b)

-- the slice passed: 10 and 11 do not refuse, and its tables are these
marked : (b : List ℕ) (z : Shape) → marked_of b ≡ Ok z → MarkedStore b z
unfolding marked_of
marked b z e = go (header_bad b) (marks_bad (cut b)) refl refl e
  where
    go : (h k : Bool) → header_bad b ≡ h → marks_bad (cut b) ≡ k → cond h (Err Header) (cond k (Err Mark) (Ok (shape_by b (sizes_of b)))) ≡ Ok z → MarkedStore b z
    go true k eh ek e = absurd (let z : ◌≡◌ {A = ℕ} 0 1 = cc in omega arith)
    go false true eh ek e = absurd (let z : ◌≡◌ {A = ℕ} 0 1 = cc in omega arith)
    go false false eh ek e = let q : z ≡ shape_by b (sizes_of b) = cc in record { header = eh; marks = ek; shape = q }

-- 10 and 11, then 20
pub checked_refused : (b : List ℕ) (r : Refusal) → marked_of b ≡ Err r → Err r ≡ checked_of b
unfolding marked_of checked_of
checked_refused b r e = go (header_bad b) (marks_bad (cut b)) e
  where
    go : (h k : Bool) → cond h (Err Header) (cond k (Err Mark) (Ok (shape_by b (sizes_of b)))) ≡ Err r
        → Err r ≡ cond h (Err Header) (cond k (Err Mark) (cond (form_bad (cut b)) (Err Form) (Ok (shape_by b (sizes_of b)))))
    go true k e = sym e
    go false true e = sym e
    go false false e = absurd (let z : ◌≡◌ {A = ℕ} 0 1 = cc in omega arith)

pub checked_form : (b : List ℕ) (z : Shape) → marked_of b ≡ Ok z → form_bad (cut b) ≡ true → Err Form ≡ checked_of b
unfolding checked_of
checked_form b z e f = let m = marked b z e in rw (m.header, m.marks, f) refl

pub checked_formed : (b : List ℕ) (z : Shape) → marked_of b ≡ Ok z → form_bad (cut b) ≡ false → Ok z ≡ checked_of b
unfolding checked_of
checked_formed b z e f = let m = marked b z e in rw (m.header, m.marks, f) (ap Ok m.shape)

record FitBy (b : List ℕ) (z : Shape) (m : Result Shape Refusal) : Type 0 where
  pub marks : m ≡ Ok z
  pub form : form_bad (cut b) ≡ false

-- a slice that passed all three passed 10 and 11
fit : (b : List ℕ) (z : Shape) → checked_of b ≡ Ok z → FitBy b z (marked_of b)
unfolding marked_of checked_of
fit b z e = go (header_bad b) (marks_bad (cut b)) (form_bad (cut b)) refl e
  where
    go : (h k f : Bool) → form_bad (cut b) ≡ f → cond h (Err Header) (cond k (Err Mark) (cond f (Err Form) (Ok (shape_by b (sizes_of b))))) ≡ Ok z
        → FitBy b z (cond h (Err Header) (cond k (Err Mark) (Ok (shape_by b (sizes_of b)))))
    go true k f ef e = absurd (let z : ◌≡◌ {A = ℕ} 0 1 = cc in omega arith)
    go false true f ef e = absurd (let z : ◌≡◌ {A = ℕ} 0 1 = cc in omega arith)
    go false false true ef e = absurd (let z : ◌≡◌ {A = ℕ} 0 1 = cc in omega arith)
    go false false false ef e = record { marks = e; form = ef }

pub fit_marked : (b : List ℕ) (z : Shape) → checked_of b ≡ Ok z → marked_of b ≡ Ok z
fit_marked b z e = (fit b z e).marks

-- and they are no others
pub fit_unique : (b : List ℕ) (y z : Shape) → checked_of b ≡ Ok y → checked_of b ≡ Ok z → y ≡ z
fit_unique b y z p q = (marked b y (fit_marked b y p)).shape ∙ sym (marked b z (fit_marked b z q)).shape

-- the slice was refused: any list of tests that starts with those of the state refuses it so
pub unfit : (b : List ℕ) (r : Refusal) (ts : List Test) → checked_of b ≡ Err r → verdict (state_tests b ++ ts) ≡ some (refusal r)
unfolding checked_of state_tests
unfit b r ts e = go (header_bad b) (marks_bad (cut b)) (form_bad (cut b)) e
  where
    go : (h k f : Bool) → cond h (Err Header) (cond k (Err Mark) (cond f (Err Form) (Ok (shape_by b (sizes_of b))))) ≡ Err r
        → cond h (some (refused 10 [])) (cond k (some (refused 11 [])) (cond f (some (refused 20 [])) (verdict ts))) ≡ some (refusal r)
    go true k f e = let q : Header ≡ r = cc in ap (λ (x : Refusal). some (refusal x)) q
    go false true f e = let q : Mark ≡ r = cc in ap (λ (x : Refusal). some (refusal x)) q
    go false false true e = let q : Form ≡ r = cc in ap (λ (x : Refusal). some (refusal x)) q
    go false false false e = absurd (let z : ◌≡◌ {A = ℕ} 0 1 = cc in omega arith)

pub unmarked : (b : List ℕ) (r : Refusal) → marked_of b ≡ Err r → verdict (mark_tests b) ≡ some (refusal r)
unfolding marked_of mark_tests
unmarked b r e = go (header_bad b) (marks_bad (cut b)) e
  where
    go : (h k : Bool) → cond h (Err Header) (cond k (Err Mark) (Ok (shape_by b (sizes_of b)))) ≡ Err r
        → cond h (some (refused 10 [])) (cond k (some (refused 11 [])) none) ≡ some (refusal r)
    go true k e = let q : Header ≡ r = cc in ap (λ (x : Refusal). some (refusal x)) q
    go false true e = let q : Mark ≡ r = cc in ap (λ (x : Refusal). some (refusal x)) q
    go false false e = absurd (let z : ◌≡◌ {A = ℕ} 0 1 = cc in omega arith)

-- a slice that passed is not refused by the tests of the state
pub fit_verdict : (b : List ℕ) (z : Shape) (ts : List Test) → checked_of b ≡ Ok z → verdict (state_tests b ++ ts) ≡ verdict ts
unfolding state_tests
fit_verdict b z ts e = let f = fit b z e in let m = marked b z f.marks in rw (m.header, m.marks, f.form) refl

pub marked_verdict : (b : List ℕ) (z : Shape) → marked_of b ≡ Ok z → verdict (mark_tests b) ≡ none
unfolding mark_tests
marked_verdict b z e = let m = marked b z e in rw (m.header, m.marks) refl

-- a test that no table of the plan passes
planned_none : (p : Which → Bool) → any_of p plan ≡ false → (k : Which) → p k ≡ false
planned_none p e =
    let m = neither (p table_m) _ e in
    let v = neither (p table_v) _ m.1 in
    let c = neither (p table_c) _ v.1 in
    let s = neither (p table_s) _ c.1 in
    let r = neither (p table_r) _ s.1 in
    go m.0 v.0 c.0 s.0 r.0
  where
    go : p table_m ≡ false → p table_v ≡ false → p table_c ≡ false → p table_s ≡ false → p table_r ≡ false → (k : Which) → p k ≡ false
    go m v c s r table_m = m
    go m v c s r table_v = v
    go m v c s r table_c = c
    go m v c s r table_s = s
    go m v c s r table_r = r

-- the number of rows of each table is in range
rows_range : (z : Sizes) (k : Which) → InRange z → (1 ≤ rows_of z k) × (rows_of z k ≤ 4096)
rows_range z table_m r = (r.m_least, r.m_most)
rows_range z table_v r = (r.m_least, r.m_most)
rows_range z table_c r = (r.c_least, r.c_most)
rows_range z table_s r = (r.s_least, r.s_most)
rows_range z table_r r = (r.r_least, r.r_most)

-- where the tables stand in what the checks found
spans : (b : List ℕ) (k : Which) → span_in (shape_by b (sizes_of b)) k ≡ span_of (sizes_of b) k
spans b table_m = refl
spans b table_v = refl
spans b table_c = refl
spans b table_s = refl
spans b table_r = refl

found : (b : List ℕ) (k : Which) → free_rows (table_by b (sizes_of b) k) ≡ (part_in (shape_by b (sizes_of b)) k).free
found b table_m = refl
found b table_v = refl
found b table_c = refl
found b table_s = refl
found b table_r = refl

-- what an operation needs to know of a table's part: it lies in the slice and has so many rows, and these are the table's
pub record Fits (b : List ℕ) (z : Shape) (k : Which) : Type 0 where
  pub from : (part_in z k).start ≤ (part_in z k).end
  pub to : (part_in z k).end ≤ length b
  pub least : 1 ≤ (part_in z k).rows
  pub most : (part_in z k).rows ≤ 4096
  pub long : length (take ((part_in z k).end - (part_in z k).start) (drop (part_in z k).start b)) ≡ width_of k * (part_in z k).rows
  pub same : rows (width_of k) (part_in z k).rows (take ((part_in z k).end - (part_in z k).start) (drop (part_in z k).start b)) ≡ (cut b).table k

-- of a slice that passed 10 and 11
module _ (b : List ℕ) (z : Shape) (e : marked_of b ≡ Ok z) where
  marked_spans : span_in z ≡ span_of (sizes_of b)
  marked_spans = ap span_in (marked b z e).shape ∙ fun_ext (spans b)

  -- its tables stand where their parts say
  pub laid_marked : Laid (span_in z) b (cut b)
  laid_marked = subst (λ (at : Which → Span). Laid at b (cut b)) (sym marked_spans) (laid_cut b (good_header b (marked b z e).header).whole)

  -- how many rows of a table are free
  pub marked_free : (k : Which) → free_rows ((cut b).table k) ≡ (part_in z k).free
  unfolding cut
  marked_free k = found b k ∙ sym (ap (λ (z : Shape). (part_in z k).free) (marked b z e).shape)

  pub marked_fits : (k : Which) → Fits b z k
  marked_fits k =
      let l = laid_marked in
      let n : (part_in z k).rows ≡ rows_of (sizes_of b) k = ap (λ (at : Which → Span). (at k).rows) marked_spans in
      let r = rows_range (sizes_of b) k (good_header b (marked b z e).header).range in
      record {
        from = omega (arith, laid_end (span_in z) b (cut b) l k);
        to = laid_inside (span_in z) b (cut b) l k;
        least = omega (arith, n, r.0);
        most = omega (arith, n, r.1);
        long = laid_long (span_in z) b (cut b) l k;
        same = laid_rows (span_in z) b (cut b) l k;
      }

  -- the rows from where a table starts are the table's
  pub marked_from : (k : Which) → rows (width_of k) (part_in z k).rows (drop (part_in z k).start b) ≡ (cut b).table k
  marked_from = laid_from (span_in z) b (cut b) laid_marked

  -- what the check of form asks of a table's part
  pub part_formed : (k : Which) → 8 ≤ width_of k
      → ((8 ≤ width_of k) × (((part_in z k).start ≤ (part_in z k).end) × ((part_in z k).end ≤ length b)))
      × (((part_in z k).end - (part_in z k).start ≡ width_of k * (part_in z k).rows) × ((part_in z k).free ≡ free_rows (rows (width_of k) (part_in z k).rows (drop (part_in z k).start b))))
  part_formed k w =
      let f = marked_fits k in
      let l = laid_end (span_in z) b (cut b) laid_marked k in
      ((w, (f.from, f.to)), (omega arith, sym (ap free_rows (marked_from k) ∙ marked_free k)))

  -- whether one of the five is not in form
  pub bad_forms : (f_m f_v f_c f_s f_r : Bool)
      → f_m ≡ in_form (width_of table_m) (rows (width_of table_m) (part_in z table_m).rows (drop (part_in z table_m).start b))
      → f_v ≡ in_form (width_of table_v) (rows (width_of table_v) (part_in z table_v).rows (drop (part_in z table_v).start b))
      → f_c ≡ in_form (width_of table_c) (rows (width_of table_c) (part_in z table_c).rows (drop (part_in z table_c).start b))
      → f_s ≡ in_form (width_of table_s) (rows (width_of table_s) (part_in z table_s).rows (drop (part_in z table_s).start b))
      → f_r ≡ in_form (width_of table_r) (rows (width_of table_r) (part_in z table_r).rows (drop (part_in z table_r).start b))
      → (not f_m || (not f_v || (not f_c || (not f_s || not f_r)))) ≡ form_bad (cut b)
  unfolding form_bad
  bad_forms f_m f_v f_c f_s f_r e_m e_v e_c e_s e_r =
      ap (λ (x : Bool). not f_m || (not f_v || (not f_c || (not f_s || x)))) (sym (or-false (not f_r)))
      ∙ (λ i. not (formed table_m f_m e_m i) || (not (formed table_v f_v e_v i) || (not (formed table_c f_c e_c i) || (not (formed table_s f_s e_s i) || (not (formed table_r f_r e_r i) || false)))))
    where
      formed : (k : Which) (f : Bool) → f ≡ in_form (width_of k) (rows (width_of k) (part_in z k).rows (drop (part_in z k).start b)) → f ≡ in_form (width_of k) ((cut b).table k)
      formed k f e = e ∙ ap (in_form (width_of k)) (marked_from k)

-- of a slice that passed all three
module _ (b : List ℕ) (z : Shape) (e : checked_of b ≡ Ok z) where
  -- its sizes, each in range
  pub fit_sizes : sizes_in z ≡ sizes_of b
  fit_sizes = ap sizes_in (marked b z (fit_marked b z e)).shape

  pub fit_range : InRange (sizes_in z)
  fit_range = subst InRange (sym fit_sizes) (good_header b (marked b z (fit_marked b z e)).header).range

  pub laid_fit : Laid (span_in z) b (cut b)
  laid_fit = laid_marked b z (fit_marked b z e)

  pub free_rows_lem : (k : Which) → free_rows ((cut b).table k) ≡ (part_in z k).free
  free_rows_lem = marked_free b z (fit_marked b z e)

  pub fits : (k : Which) → Fits b z k
  fits = marked_fits b z (fit_marked b z e)

  -- how many rows of a table are used
  pub used_rows_lem : (k : Which) → (part_in z k).rows - (part_in z k).free ≡ length (used_rows ((cut b).table k))
  used_rows_lem k =
      omega (arith, free_rows_lem k, rows_counted ((cut b).table k), ap length (fits k).same, rows-length (width_of k) (part_in z k).rows (take ((part_in z k).end - (part_in z k).start) (drop (part_in z k).start b)))

  -- each is in form, and can be searched where it has no mark above 1
  pub formed : (k : Which) → in_form (width_of k) ((cut b).table k) ≡ true
  unfolding form_bad
  formed k = not-false (in_form (width_of k) ((cut b).table k)) (planned_none (λ k. not (in_form (width_of k) ((cut b).table k))) (fit b z e).form k)

  pub searchable : (k : Which) → greatest_mark k ≡ 1 → Searchable (width_of k) ((part_in z k).rows - (part_in z k).free) ((cut b).table k)
  unfolding marks_bad
  searchable k g = record {
    form = formed k;
    marks = subst (λ (n : ℕ). mark_bad n ((cut b).table k) ≡ false) g (planned_none (λ k. mark_bad (greatest_mark k) ((cut b).table k)) (marked b z (fit_marked b z e)).marks k);
    number = used_rows_lem k;
  }

  pub part_searchable : (k : Which) → greatest_mark k ≡ 1
      → Searchable (width_of k) ((part_in z k).rows - (part_in z k).free) (rows (width_of k) (part_in z k).rows (take ((part_in z k).end - (part_in z k).start) (drop (part_in z k).start b)))
  part_searchable k g = subst (Searchable (width_of k) ((part_in z k).rows - (part_in z k).free)) (sym (fits k).same) (searchable k g)

  pub free_le : (k : Which) → (part_in z k).free ≤ (part_in z k).rows
  free_le k = omega (arith, free_rows_lem k, rows_counted ((cut b).table k), ap length (fits k).same, rows-length (width_of k) (part_in z k).rows (take ((part_in z k).end - (part_in z k).start) (drop (part_in z k).start b)))
