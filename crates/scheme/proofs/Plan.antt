-- Laws of the plan of tables, by going through it: what stands before and after a table, cutting, joining, and a table that came back.
use Prim.Native.Nat.{ℕ, zero, suc, ◌+◌, ◌*◌, ◌-◌, ◌≤◌}
use mathlib.Core.Path.{◌≡◌, refl, sym, ap, ap₂, subst, ◌∙◌, fun_ext}
use mathlib.Core.Bool.{Bool, true, false, cond, true≢false}
use mathlib.Core.List.{List, [], ◌∷◌, ◌++◌, append_assoc, append-nil}
use native.Mathlib.Omega.{arith}
use native.Mathlib.Nat.{add-zero}
use lib.ListN.{length, take, drop, length-append, length-drop, take-append-drop, drop_of_length-le}
use lib.Seq.{take_at, drop_at, drop-drop, length-take-le}
use borrow.Author.Tests.{eqb-true, eq-eqb}
use Rattle.octets.specs.Part.{back}
use Rattle.octets.proofs.Parts.{back_next}
use Rattle.table.specs.Lists.{flat}
use Rattle.table.specs.Table.{Table, rows}
use Rattle.table.proofs.Rows.{flat-length, rows-flat, rows-length, rows_wide}
use Rattle.table.proofs.Walk.{flat_rows, rows_take}
use Rattle.scheme.specs.Store.{Sizes, Which, plan, width_of, rows_of, rank_of, same_table, header_length, start_from, end_from, start_of, length_for, sizes_of, Store, cut, joined_from, joined, instead, put_in}
use Rattle.scheme.specs.Layout.{Span, span_of, Wide, Laid}
pub use Rattle.scheme.specs.Store.{table_m, table_v, table_c, table_s, table_r}

-- ---- the plan: what changes here with another table

-- the table of a rank
abbrev table_at : ℕ → Which
table_at zero = table_m
table_at (suc zero) = table_v
table_at (suc (suc zero)) = table_c
table_at (suc (suc (suc zero))) = table_s
table_at (suc (suc (suc (suc n)))) = table_r

table_at_lem : (k : Which) → table_at (rank_of k) ≡ k
table_at_lem table_m = refl
table_at_lem table_v = refl
table_at_lem table_c = refl
table_at_lem table_s = refl
table_at_lem table_r = refl

-- k is none of these tables
abbrev Absent : Which → List Which → Type 0
Absent k [] = Unit {0}
Absent k (j ∷ js) = (same_table j k ≡ false) × Absent k js

-- k is one of these tables, once
data At (k : Which) : List Which → Type 0 where
  here : {js : List Which} → Absent k js → At k (k ∷ js)
  there : {j : Which} {js : List Which} → same_table j k ≡ false → At k js → At k (j ∷ js)

planned : (k : Which) → At k plan
planned table_m = here {js = drop 1 plan} (refl, (refl, (refl, (refl, tt))))
planned table_v = there refl (here {js = drop 2 plan} (refl, (refl, (refl, tt))))
planned table_c = there refl (there refl (here {js = drop 3 plan} (refl, (refl, tt))))
planned table_s = there refl (there refl (there refl (here {js = drop 4 plan} (refl, tt))))
planned table_r = there refl (there refl (there refl (there refl (here {js = drop 5 plan} tt))))

-- the tables of a list start one after the other from a place on
abbrev Starts : (Which → ℕ) → (Which → ℕ) → ℕ → List Which → Type 0
Starts n start a [] = Unit {0}
Starts n start a (k ∷ ks) = (start k ≡ a) × Starts n start (a + width_of k * n k) ks

starts : (z : Sizes) → Starts (rows_of z) (start_of z) header_length plan
starts z = (refl, (refl, (refl, (refl, (refl, tt)))))

-- the length as a formula [01:ST3] [02:W4.8]
pub length_is : (z : Sizes) → length_for z ≡ 10 + 110 * z.m + 61 * z.c + 45 * z.s + 61 * z.r
unfolding length_for
length_is z = omega arith

-- ---- two tables are the same or not

pub same_self : (k : Which) → same_table k k ≡ true
same_self k = eq-eqb (rank_of k) (rank_of k) refl

same_table_lem : (j k : Which) → same_table j k ≡ true → j ≡ k
same_table_lem j k e = sym (table_at_lem j) ∙ ap table_at (eqb-true (rank_of j) (rank_of k) e) ∙ table_at_lem k

-- what holds of a table and of every other holds of all
pub by_table : (k : Which) (P : Which → Type 0) → P k → ((j : Which) → same_table j k ≡ false → P j) → (j : Which) → P j
by_table k P own other j = go (same_table j k) refl
  where
    go : (b : Bool) → same_table j k ≡ b → P j
    go true e = subst P (sym (same_table_lem j k e)) own
    go false e = other j e

-- ---- putting tables

pub put_own : (k : Which) (t : Table) (f : Which → Table) → instead k t f k ≡ t
put_own k t f = ap (λ (b : Bool). cond b t (f k)) (same_self k)

pub put_other : (k j : Which) (t : Table) (f : Which → Table) → same_table j k ≡ false → instead k t f j ≡ f j
put_other k j t f e = ap (λ (b : Bool). cond b t (f j)) e

store_same : (h : List ℕ) (f g : Which → Table) → ((k : Which) → f k ≡ g k) → ◌≡◌ {A = Store} (record { header = h; table = f }) (record { header = h; table = g })
store_same h f g e = ap (λ (x : Which → Table). record { header = h; table = x }) (fun_ext e)

-- the table that is there
pub put_same : (k : Which) (st : Store) → put_in k (st.table k) st ≡ st
put_same k st =
    store_same st.header (instead k (st.table k) st.table) st.table
    (by_table k (λ j. instead k (st.table k) st.table j ≡ st.table j) (put_own k (st.table k) st.table) (λ j e. put_other k j (st.table k) st.table e))

-- a table put twice
pub put_again : (k : Which) (t u : Table) (st : Store) → put_in k t (put_in k u st) ≡ put_in k t st
put_again k t u st = store_same st.header _ _ (λ j. go (same_table j k) (st.table j))
  where
    go : (b : Bool) (v : Table) → cond b t (cond b u v) ≡ cond b t v
    go true v = refl
    go false v = refl

-- two tables in either order
pub put_swap : (j k : Which) (t u : Table) (st : Store) → same_table j k ≡ false → put_in j t (put_in k u st) ≡ put_in k u (put_in j t st)
put_swap j k t u st ne = store_same st.header _ _ (λ i. go i (same_table i j) (same_table i k) refl refl)
  where
    go : (i : Which) (a b : Bool) → same_table i j ≡ a → same_table i k ≡ b → cond a t (cond b u (st.table i)) ≡ cond b u (cond a t (st.table i))
    go i true true p q = absurd (true≢false (sym (same_self k) ∙ ap (λ (x : Which). same_table x k) (sym (same_table_lem i k q) ∙ same_table_lem i j p) ∙ ne))
    go i true false p q = refl
    go i false b p q = refl

-- ---- rows

wide_flat : (w n : ℕ) (t : Table) → Wide w n t → length (flat t) ≡ w * n
wide_flat w n t a = flat-length w t a.widths ∙ ap (λ (k : ℕ). w * k) a.number

wide_rows : (w n : ℕ) (t : Table) → Wide w n t → rows w n (flat t) ≡ t
wide_rows w n t a =
    ap (λ (l : List ℕ). rows w n l) (sym (append-nil (flat t))) ∙ ap (λ (k : ℕ). rows w k (flat t ++ [])) (sym a.number) ∙ rows-flat w t [] a.widths

rows_are_wide : (w n : ℕ) (l : List ℕ) → w * n ≤ length l → Wide w n (rows w n l)
rows_are_wide w n l h = record { number = rows-length w n l; widths = rows_wide w n l h }

-- ---- what stands before and after a table, whatever is in it

record Around (n : Which → ℕ) (f : Which → Table) (k : Which) (a : ℕ) (ks : List Which) : Type 0 where
  pub pre : List ℕ
  pub post : List ℕ
  pub at : a + length pre ≡ start_from n a ks k
  pub filled : (t : Table) → joined_from ks (instead k t f) ≡ pre ++ (flat t ++ post)

module _ (n : Which → ℕ) (f : Which → Table) (k : Which) where
  absent : (t : Table) (js : List Which) → Absent k js → joined_from js (instead k t f) ≡ joined_from js f
  absent t [] a = refl
  absent t (j ∷ js) a = ap₂ (λ (x : Table) (y : List ℕ). flat x ++ y) (put_other k j t f a.0) (absent t js a.1)

  around : (wide : (j : Which) → Wide (width_of j) (n j) (f j)) (a : ℕ) (ks : List Which) → At k ks → Around n f k a ks
  around wide a _ (here {js} m) = record {
    pre = [];
    post = joined_from js f;
    at = rw (same_self k) (add-zero a);
    filled = λ t. ap₂ (λ (x : Table) (y : List ℕ). flat x ++ y) (put_own k t f) (absent t js m);
  }
  around wide a _ (there {j} {js} e m) =
      let r = around wide (a + width_of j * n j) js m in
      record {
        pre = flat (f j) ++ r.pre;
        post = r.post;
        at = rw e (omega (arith, r.at, length-append (flat (f j)) r.pre, wide_flat (width_of j) (n j) (f j) (wide j)));
        filled = λ t. ap₂ (λ (x : Table) (y : List ℕ). flat x ++ y) (put_other k j t f e) (r.filled t) ∙ sym (append_assoc (flat (f j)) r.pre (flat t ++ r.post));
      }

joined_length : (n : Which → ℕ) (f : Which → Table) → ((j : Which) → Wide (width_of j) (n j) (f j)) → (a : ℕ) (ks : List Which) → a + length (joined_from ks f) ≡ end_from n a ks
joined_length n f wide a [] = add-zero a
joined_length n f wide a (k ∷ ks) =
    omega (arith, length-append (flat (f k)) (joined_from ks f), wide_flat (width_of k) (n k) (f k) (wide k), joined_length n f wide (a + width_of k * n k) ks)

-- ---- a store laid out

module _ (at : Which → Span) (b : List ℕ) (st : Store) (l : Laid at b st) where
  abbrev s : Which → ℕ
  s k = (at k).start

  abbrev e : Which → ℕ
  e k = (at k).end

  abbrev n : Which → ℕ
  n k = (at k).rows

  record Split (k : Which) : Type 0 where
    pub pre : List ℕ
    pub post : List ℕ
    pub before : length pre ≡ s k
    pub filled : (t : Table) → joined (put_in k t st) ≡ pre ++ (flat t ++ post)

  split : (k : Which) → Split k
  unfolding joined
  split k =
      let a = around n st.table k l.wide header_length plan (planned k) in
      record {
        pre = st.header ++ a.pre;
        post = a.post;
        before = length-append st.header a.pre ∙ omega (arith, l.head, a.at, l.start k);
        filled = λ t. ap (λ (x : List ℕ). st.header ++ x) (a.filled t) ∙ sym (append_assoc st.header a.pre (flat t ++ a.post));
      }

  whole : (k : Which) → b ≡ (split k).pre ++ (flat (st.table k) ++ (split k).post)
  whole k = l.bytes ∙ ap joined (sym (put_same k st)) ∙ (split k).filled (st.table k)

  flat_long : (k : Which) → length (flat (st.table k)) ≡ e k - s k
  flat_long k = wide_flat (width_of k) (n k) (st.table k) (l.wide k) ∙ omega (arith, l.end k)

  -- a table's part ends where its rows end, inside the slice
  pub laid_end : (k : Which) → s k + width_of k * n k ≡ e k
  laid_end k = sym (l.end k)

  pub laid_inside : (k : Which) → e k ≤ length b
  laid_inside k =
      let w = split k in
      omega (arith, ap length (whole k), length-append w.pre (flat (st.table k) ++ w.post), length-append (flat (st.table k)) w.post, w.before, wide_flat (width_of k) (n k) (st.table k) (l.wide k), l.end k)

  -- the lent part is the table's rows, one after the other
  pub laid_part : (k : Which) → take (e k - s k) (drop (s k) b) ≡ flat (st.table k)
  laid_part k =
      let w = split k in
      ap (λ (x : List ℕ). take (e k - s k) (drop (s k) x)) (whole k)
      ∙ ap (take (e k - s k)) (drop_at w.pre (flat (st.table k) ++ w.post) (s k) w.before)
      ∙ take_at (flat (st.table k)) w.post (e k - s k) (flat_long k)

  pub laid_long : (k : Which) → length (take (e k - s k) (drop (s k) b)) ≡ width_of k * n k
  laid_long k = ap length (laid_part k) ∙ wide_flat (width_of k) (n k) (st.table k) (l.wide k)

  pub laid_rows : (k : Which) → rows (width_of k) (n k) (take (e k - s k) (drop (s k) b)) ≡ st.table k
  laid_rows k = ap (rows (width_of k) (n k)) (laid_part k) ∙ wide_rows (width_of k) (n k) (st.table k) (l.wide k)

  -- the rows from a table's start on
  pub laid_from : (k : Which) → rows (width_of k) (n k) (drop (s k) b) ≡ st.table k
  laid_from k = sym (rows_take (width_of k) (n k) (e k - s k) (drop (s k) b) (omega (arith, l.end k))) ∙ laid_rows k

  -- the part came back as ys
  back_bytes : (k : Which) (ys : List ℕ) → length ys ≡ width_of k * n k → back b (s k) (e k) ys ≡ joined (put_in k (rows (width_of k) (n k) ys) st)
  back_bytes k ys h =
      let w = split k in
      let t : Table = st.table k in
      ap (λ (x : List ℕ). back x (s k) (e k) ys) (whole k)
      ∙ back_next w.pre (flat t ++ w.post) ys (s k) (e k) w.before
      ∙ ap (λ (x : List ℕ). (w.pre ++ ys) ++ x) (drop_at (flat t) w.post (e k - s k) (flat_long k))
      ∙ append_assoc w.pre ys w.post
      ∙ ap (λ (x : List ℕ). w.pre ++ (x ++ w.post)) (sym (flat_rows (width_of k) (n k) ys h))
      ∙ sym (w.filled (rows (width_of k) (n k) ys))

  -- another table of the same rows in place of one
  put_wide : (k : Which) (t : Table) → Wide (width_of k) (n k) t → (j : Which) → Wide (width_of j) (n j) (instead k t st.table j)
  put_wide k t a =
      by_table k (λ j. Wide (width_of j) (n j) (instead k t st.table j)) (subst (Wide (width_of k) (n k)) (sym (put_own k t st.table)) a)
      (λ j e. subst (Wide (width_of j) (n j)) (sym (put_other k j t st.table e)) (l.wide j))

  pub laid_back : (k : Which) (ys : List ℕ) → length ys ≡ length (take (e k - s k) (drop (s k) b))
      → Laid at (back b (s k) (e k) ys) (put_in k (rows (width_of k) (n k) ys) st)
  laid_back k ys h =
      let g : length ys ≡ width_of k * n k = h ∙ laid_long k in
      record {
        bytes = back_bytes k ys g;
        head = l.head;
        wide = put_wide k (rows (width_of k) (n k) ys) (rows_are_wide (width_of k) (n k) ys (omega (arith, g)));
        start = l.start;
        end = l.end;
      }

  pub laid_put : (k : Which) (t : Table) → Wide (width_of k) (n k) t → Laid at (joined (put_in k t st)) (put_in k t st)
  laid_put k t a = record { bytes = refl; head = l.head; wide = put_wide k t a; start = l.start; end = l.end }

  pub laid_length : length b ≡ end_from n header_length plan
  unfolding joined
  laid_length =
      ap length l.bytes ∙ length-append st.header (joined_from plan st.table) ∙ ap (λ (x : ℕ). x + length (joined_from plan st.table)) l.head
      ∙ joined_length n st.table l.wide header_length plan

-- ---- cutting a slice of the right length

pub grows : (n : Which → ℕ) (a : ℕ) (ks : List Which) → a ≤ end_from n a ks
grows n a [] = omega arith
grows n a (k ∷ ks) = omega (arith, grows n (a + width_of k * n k) ks)

module _ (b : List ℕ) where
  abbrev z : Sizes
  z = sizes_of b

  abbrev cuts : Which → Table
  cuts k = rows (width_of k) (rows_of z k) (drop (start_of z k) b)

  -- a table, then the rest
  pieces : (a : ℕ) (ks : List Which) → Starts (rows_of z) (start_of z) a ks → end_from (rows_of z) a ks ≡ length b → joined_from ks cuts ≡ drop a b
  pieces a [] q e = let h : length b ≤ a = omega arith in sym (drop_of_length-le b h)
  pieces a (k ∷ ks) q e =
      let w = width_of k in
      let m = rows_of z k in
      let g = grows (rows_of z) (a + w * m) ks in
      let d : start_of z k ≡ a = q.0 in
      let h : length (take (w * m) (drop a b)) ≡ w * m = length-take-le (w * m) (drop a b) (omega (arith, length-drop a b)) in
      ap₂ (λ (x y : List ℕ). x ++ y)
      (ap (λ (x : ℕ). flat (rows w m (drop x b))) d ∙ ap flat (sym (rows_take w m (w * m) (drop a b) (omega arith))) ∙ flat_rows w m (take (w * m) (drop a b)) h)
      (pieces (a + w * m) ks q.1 e ∙ sym (drop-drop (w * m) a b))
      ∙ take-append-drop (w * m) (drop a b)

  -- each table of a list lies inside
  inside : (k : Which) (a : ℕ) (ks : List Which) → Starts (rows_of z) (start_of z) a ks → end_from (rows_of z) a ks ≡ length b → At k ks → start_of z k + width_of k * rows_of z k ≤ length b
  inside k a _ q e (here {js} m) = omega (arith, q.0, grows (rows_of z) (a + width_of k * rows_of z k) js)
  inside k a _ q e (there {j} {js} ne m) = inside k (a + width_of j * rows_of z j) js q.1 e m

  pub laid_cut : length b ≡ length_for z → Laid (span_of z) b (cut b)
  unfolding cut joined length_for
  laid_cut e = record {
    bytes = sym (ap (λ (x : List ℕ). take header_length b ++ x) (pieces header_length plan (starts z) (sym e)) ∙ take-append-drop header_length b);
    head = length-take-le header_length b (omega (arith, grows (rows_of z) header_length plan));
    wide = λ k.
        rows_are_wide (width_of k) (rows_of z k) (drop (start_of z k) b)
        (omega (arith, inside k header_length plan (starts z) (sym e) (planned k), length-drop (start_of z k) b));
    start = λ k. refl;
    end = λ k. refl;
  }

  -- cutting gives the tables back
  pub cut_laid : (st : Store) → Laid (span_of z) b st → cut b ≡ st
  unfolding cut joined
  cut_laid st l =
      let h : take header_length b ≡ st.header = ap (take header_length) l.bytes ∙ take_at st.header (joined_from plan st.table) header_length l.head in
      λ i. record { header = h i; table = fun_ext (laid_from (span_of z) b st l) i }
