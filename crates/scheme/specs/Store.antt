-- Document 01, "Store": the header, the plan of the tables and the tables as parts of one slice, their rows, and making a store.
use Rattle.std.specs.Prelude.{ℕ, ◌+◌, ◌*◌, ◌-◌, ◌/◌, ◌%◌, Bool, cond, ◌||◌, not, List, [], ◌∷◌, ◌++◌, ltb, eqb, length, get_or, take, drop, replicate}
use Rattle.table.specs.Lists.{any_of, flat}
use Rattle.table.specs.Table.{Row, Table, rows, mark_bad}
use Rattle.table.specs.Order.{in_form}
use Rattle.answer.specs.Answer.{done}
use Rattle.scheme.specs.Suite.{Suite, number8}
use Rattle.scheme.specs.Refusals.{Result}
use Rattle.answer.specs.Verdict.{Test, ◌⇒◌, verdict, answer_or, unless_refused}
use Rattle.scheme.specs.Keys.{CT, CE}

-- ---- the header

-- p, m, c, s, r of a header [01:ST2] [02:W4.7]
pub record Sizes : Type 0 where
  pub p : ℕ
  pub m : ℕ
  pub c : ℕ
  pub s : ℕ
  pub r : ℕ

-- [02:W4.7]
abbrev pub header_length : ℕ
header_length = 10

-- p above 15, or m, c, s or r outside 1 to 4,096 [01:KT3 ST2] [02:W4.2]
abbrev pub rows_bad : ℕ → Bool
rows_bad n = ltb n 1 || ltb 4096 n

unfoldable pub sizes_bad : Sizes → Bool
sizes_bad z = ltb 15 z.p || (rows_bad z.m || (rows_bad z.c || (rows_bad z.s || rows_bad z.r)))

-- the header: version 2, p, then m, c, s, r, two bytes each, big-endian [01:ST2] [02:W4.5 W4.7]
unfoldable pub header_of : Sizes → List ℕ
header_of z =
    2 ∷ z.p ∷ z.m / 256 ∷ z.m % 256 ∷ z.c / 256 ∷ z.c % 256 ∷ z.s / 256 ∷ z.s % 256 ∷ z.r / 256 ∷ z.r % 256 ∷ []

unfoldable pub sizes_of : List ℕ → Sizes
sizes_of b = record {
  p = get_or b 1 0;
  m = 256 * get_or b 2 0 + get_or b 3 0;
  c = 256 * get_or b 4 0 + get_or b 5 0;
  s = 256 * get_or b 6 0 + get_or b 7 0;
  r = 256 * get_or b 8 0 + get_or b 9 0;
}

-- ---- the plan of the tables

-- a table of the store [01:SC1 SC4] [02:W4.1]
pub data Which : Type 0 where
  table_m : Which
  table_v : Which
  table_c : Which
  table_s : Which
  table_r : Which

-- the tables in the order in which they stand [01:ST3] [02:W4.1]
abbrev pub plan : List Which
plan = table_m ∷ table_v ∷ table_c ∷ table_s ∷ table_r ∷ []

-- how many bytes a row has [01:ST6 ST8 ST9 ST12] [02:W4.3]
abbrev pub width_of : Which → ℕ
width_of table_m = 61
width_of table_v = 49
width_of table_c = 61
width_of table_s = 45
width_of table_r = 61

-- how many rows the table has in a store with these sizes [01:ST3] [02:W4.2]
abbrev pub rows_of : Sizes → Which → ℕ
rows_of z table_m = z.m
rows_of z table_v = z.m
rows_of z table_c = z.c
rows_of z table_s = z.s
rows_of z table_r = z.r

-- the greatest mark that a row may have [01:ST5 RS3]
abbrev pub greatest_mark : Which → ℕ
greatest_mark table_m = 1
greatest_mark table_v = 1
greatest_mark table_c = 1
greatest_mark table_s = 1
greatest_mark table_r = 1

-- a table's place in the order, by which two tables are told apart
abbrev pub rank_of : Which → ℕ
rank_of table_m = 0
rank_of table_v = 1
rank_of table_c = 2
rank_of table_s = 3
rank_of table_r = 4

abbrev pub same_table : Which → Which → Bool
same_table j k = eqb (rank_of j) (rank_of k)

-- where table k starts and where the last table ends, if the tables of a list stand one after the other from a place on, with so
-- many rows each
abbrev pub start_from : (Which → ℕ) → ℕ → List Which → Which → ℕ
start_from n a [] k = a
start_from n a (j ∷ js) k = cond (same_table j k) a (start_from n (a + width_of j * n j) js k)

abbrev pub end_from : (Which → ℕ) → ℕ → List Which → ℕ
end_from n a [] = a
end_from n a (j ∷ js) = end_from n (a + width_of j * n j) js

-- where a table starts in a store with these sizes [01:ST3]
abbrev pub start_of : Sizes → Which → ℕ
start_of z k = start_from (rows_of z) header_length plan k

-- the length of a store with these sizes; that it is 10 + 110·m + 61·c + 45·s + 61·r is a law [01:ST3] [02:W4.8]
unfoldable pub length_for : Sizes → ℕ
length_for z = end_from (rows_of z) header_length plan

-- ---- the tables as parts of one slice

-- a store's header and tables [01:SC1 SC4 ST3]
pub record Store : Type 0 where
  pub header : List ℕ
  pub table : Which → Table

-- each table is the part of the one slice that holds it [01:ST1 ST3 ST4 FM6]
unfoldable pub cut : List ℕ → Store
cut b = record {
  header = take header_length b;
  table = λ k. rows (width_of k) (rows_of (sizes_of b) k) (drop (start_of (sizes_of b) k) b);
}

-- the slice that holds them
abbrev pub joined_from : List Which → (Which → Table) → List ℕ
joined_from [] f = []
joined_from (k ∷ ks) f = flat (f k) ++ joined_from ks f

unfoldable pub joined : Store → List ℕ
joined st = st.header ++ joined_from plan st.table

-- the store with another table in place of one
abbrev pub instead : Which → Table → (Which → Table) → Which → Table
instead k t f j = cond (same_table j k) t (f j)

abbrev pub put_in : Which → Table → Store → Store
put_in k t st = record { header = st.header; table = instead k t st.table }

-- ---- what every call tests first

-- the condition of 10 [01:RS2] [02:W4.5 W4.6]
unfoldable pub header_bad : List ℕ → Bool
header_bad b = ltb (length b) header_length || (not (eqb (get_or b 0 0) 2) || (sizes_bad (sizes_of b) || not (eqb (length b) (length_for (sizes_of b)))))

-- the condition of 11: a table has a mark above its greatest [01:RS3]
unfoldable pub marks_bad : Store → Bool
marks_bad st = any_of (λ k. mark_bad (greatest_mark k) (st.table k)) plan

-- the condition of 20: a table is not in form [02:W2.11]
unfoldable pub form_bad : Store → Bool
form_bad st = any_of (λ k. not (in_form (width_of k) (st.table k))) plan

-- 10, then 11: all that refuses the call that puts a store in form [02:W2.9]
unfoldable pub mark_tests : List ℕ → List Test
mark_tests b = (header_bad b ⇒ 10) ∷ (marks_bad (cut b) ⇒ 11) ∷ []

-- 10, 11, then 20: the tests of the state that every other call begins with [01:RS1 RS2 RS3] [02:W2.11 W2.12]
unfoldable pub state_tests : List ℕ → List Test
state_tests b = (header_bad b ⇒ 10) ∷ (marks_bad (cut b) ⇒ 11) ∷ (form_bad (cut b) ⇒ 20) ∷ []

-- ---- making a store

-- making a store writes the header and zeroes the rest [01:ST16]
unfoldable pub fresh : Sizes → List ℕ
fresh z = header_of z ++ replicate (length_for z - header_length) 0

unfoldable pub make_tests : Sizes → List ℕ → List Test
make_tests z slice = (sizes_bad z ⇒ 7) ∷ (not (eqb (length slice) (length_for z)) ⇒ 8) ∷ []

-- the answer, and the slice after it [01:RI8 RI9]
unfoldable pub make : Sizes → List ℕ → Result
make z slice = record {
  answer = answer_or (verdict (make_tests z slice)) (done []);
  store = unless_refused (verdict (make_tests z slice)) (fresh z) slice;
  output = [];
}

-- ---- the rows

module _ (suite : Suite) where
  open suite use {F, E}

  -- M: mark, tag F(MT, address), nonce, E(ME, nonce, id) [01:ST6]
  unfoldable pub entry_tag : List ℕ → ℕ → List ℕ
  entry_tag mt address = F mt (number8 address)

  unfoldable pub entry_row : List ℕ → List ℕ → ℕ → List ℕ → List ℕ → Row
  entry_row mt me address nonce id = 1 ∷ entry_tag mt address ++ (nonce ++ E me nonce id)

  -- V: mark, id, that M row's tag [01:ST8]
  unfoldable pub reverse_row : List ℕ → ℕ → List ℕ → Row
  reverse_row mt address id = 1 ∷ id ++ entry_tag mt address

  -- C: mark, tag, nonce, 16 bytes under CE [01:ST9]; counter row at a position [01:ST10], anchor row of a number [01:ST11]
  unfoldable pub counter_tag : List ℕ → ℕ → List ℕ
  counter_tag cl position = F (CT suite cl) (1 ∷ number8 position)

  unfoldable pub anchor_tag : List ℕ → ℕ → List ℕ
  anchor_tag cl number = F (CT suite cl) (2 ∷ number8 number)

  unfoldable pub counted_row : List ℕ → List ℕ → List ℕ → ℕ → ℕ → Row
  counted_row cl tag nonce a n = 1 ∷ tag ++ (nonce ++ E (CE suite cl) nonce (number8 a ++ number8 n))

  unfoldable pub counter_row : List ℕ → ℕ → List ℕ → ℕ → Row
  counter_row cl position nonce n = counted_row cl (counter_tag cl position) nonce 0 n

  unfoldable pub anchor_row : List ℕ → ℕ → List ℕ → ℕ → ℕ → Row
  anchor_row cl number nonce position n = counted_row cl (anchor_tag cl number) nonce position n

  -- the id in an M row, the CL in an S row, the plaintext in a C row; each without its mark [01:ST6 ST9 ST12]
  unfoldable pub id_in : List ℕ → List ℕ → List ℕ
  id_in me b = E me (take 12 (drop 32 b)) (drop 44 b)

  unfoldable pub plain_in : List ℕ → List ℕ → List ℕ
  plain_in cl b = E (CE suite cl) (take 12 (drop 32 b)) (drop 44 b)

  unfoldable pub cl_in : List ℕ → List ℕ → List ℕ
  cl_in ks b = E ks (take 12 b) (drop 12 b)

  -- R mark: F(RL, n then id) [02:W4.3]
  unfoldable pub r_mark : List ℕ → List ℕ → List ℕ → List ℕ
  r_mark rl nonce id = F rl (nonce ++ id)

  -- R: mark, id, nonce, R mark: the document of the id has the label [02:W4.3]
  unfoldable pub label_row : List ℕ → List ℕ → List ℕ → Row
  label_row rl nonce id = 1 ∷ id ++ (nonce ++ r_mark rl nonce id)

-- S: mark, nonce, E(KS, nonce, CL) [01:ST12]
unfoldable pub log_row : List ℕ → Row
log_row log = 1 ∷ log

-- id and tag in a V row [01:ST8]
unfoldable pub reverse_id : List ℕ → List ℕ
reverse_id b = take 16 b

unfoldable pub reverse_tag : List ℕ → List ℕ
reverse_tag b = drop 16 b

-- id, nonce and R mark in an R row [02:W4.3]
unfoldable pub label_id : List ℕ → List ℕ
label_id b = take 16 b

unfoldable pub label_nonce : List ℕ → List ℕ
label_nonce b = take 12 (drop 16 b)

unfoldable pub label_mark : List ℕ → List ℕ
label_mark b = drop 28 b
