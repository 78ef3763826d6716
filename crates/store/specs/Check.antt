-- What the checks 10, 11 and 20 make of a slice: its p, and of each table where it stands, how many rows it has and how many are free; or
-- the refusal (document 01, "Store" and "Refusals from the state").
use Rattle.std.specs.Prelude.{ℕ, ◌+◌, ◌*◌, cond, List, drop, Result, Ok, Err}
use Rattle.table.specs.Lists.{any_of}
use Rattle.table.specs.Table.{Table, rows, mark_bad, free_rows}
use Rattle.answer.specs.declared.Refusal.TheVariants.{Header, Mark, Form}
use Rattle.scheme.specs.Store.{Sizes, Which, plan, width_of, rows_of, greatest_mark, start_of, sizes_of, cut, header_bad, marks_bad, form_bad}
use Rattle.scheme.specs.Layout.{Span}
use Rattle.store.specs.declared.Part.{Part}
use Rattle.store.specs.declared.Shape.{Shape}
use Rattle.answer.specs.declared.Refusal.{Refusal}
pub use Rattle.scheme.specs.Store.{table_m, table_v, table_c, table_s, table_r}

-- one pass over the marks of n rows of w bytes from a place on: their part, or 11 [01:ST5 RS3]
unfoldable pub survey_of : List ℕ → ℕ → ℕ → ℕ → ℕ → Result Part Refusal
survey_of b start w n most =
    cond (mark_bad most (rows w n (drop start b))) (Err Mark) (Ok (record { start = start; end = start + w * n; rows = n; free = free_rows (rows w n (drop start b)) }))

-- a table of a slice with these sizes, and its part
abbrev pub table_by : List ℕ → Sizes → Which → Table
table_by b z k = rows (width_of k) (rows_of z k) (drop (start_of z k) b)

abbrev pub part_by : List ℕ → Sizes → Which → Part
part_by b z k = record { start = start_of z k; end = start_of z k + width_of k * rows_of z k; rows = rows_of z k; free = free_rows (table_by b z k) }

abbrev pub shape_by : List ℕ → Sizes → Shape
shape_by b z = record { p = z.p; m = part_by b z table_m; v = part_by b z table_v; c = part_by b z table_c; s = part_by b z table_s; r = part_by b z table_r }

-- the passes over all tables
unfoldable pub surveys_of : List ℕ → Sizes → Result Shape Refusal
surveys_of b z = cond (any_of (λ k. mark_bad (greatest_mark k) (table_by b z k)) plan) (Err Mark) (Ok (shape_by b z))

-- 10, then 11 [01:RS1 RS2 RS3] [02:W2.9]
unfoldable pub marked_of : List ℕ → Result Shape Refusal
marked_of b = cond (header_bad b) (Err Header) (cond (marks_bad (cut b)) (Err Mark) (Ok (shape_by b (sizes_of b))))

-- 10, 11, then 20 [01:RS1 RS2 RS3] [02:W2.11 W2.12]
unfoldable pub checked_of : List ℕ → Result Shape Refusal
checked_of b =
    cond (header_bad b) (Err Header) (cond (marks_bad (cut b)) (Err Mark) (cond (form_bad (cut b)) (Err Form) (Ok (shape_by b (sizes_of b)))))

-- the part of a table in what the checks found, and where it stands
abbrev pub part_in : Shape → Which → Part
part_in z table_m = z.m
part_in z table_v = z.v
part_in z table_c = z.c
part_in z table_s = z.s
part_in z table_r = z.r

abbrev pub span_in : Shape → Which → Span
span_in z k = record { start = (part_in z k).start; end = (part_in z k).end; rows = (part_in z k).rows }

abbrev pub sizes_in : Shape → Sizes
sizes_in z = record { p = z.p; m = z.m.rows; c = z.c.rows; s = z.s.rows; r = z.r.rows }
