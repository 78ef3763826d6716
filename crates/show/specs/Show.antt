-- What `show` prints of a store.
use Rattle.std.specs.Prelude.{ℕ, ◌-◌, List, ◌++◌}
use Rattle.text.specs.Ascii.{ascii}
use Rattle.text.specs.Bar.{bar_of}
use Rattle.store.specs.declared.Shape.{Shape}
use Rattle.buffer.specs.Decimal.{counted}

-- a bar of 20 marks
unfoldable pub bar_text : ℕ → ℕ → List ℕ
bar_text used total = ascii " [" ++ (bar_of used total 20 20 ++ ascii "] ")

-- how full a table is, by its rows and the free ones
unfoldable pub table_line : List ℕ → ℕ → ℕ → List ℕ
table_line name total free =
    name
    ++ (bar_text (total - free) total
    ++ (counted (total - free) (ascii " of ") ++ (counted total (ascii " rows used, ") ++ counted free (ascii " free\n"))))

unfoldable pub shares_line : ℕ → List ℕ
shares_line p = ascii "a store for shares 0 to " ++ counted p (ascii "\n")

-- the shares, then the tables that have a row for each entry
unfoldable pub entry_lines : Shape → List ℕ
entry_lines x =
    shares_line x.p
    ++ (table_line (ascii "entries  (M)") x.m.rows x.m.free ++ table_line (ascii "reverse  (V)") x.v.rows x.v.free)

-- these, then the other three tables [02:W4.1]
unfoldable pub shape_lines : Shape → List ℕ
shape_lines x =
    entry_lines x
    ++ (table_line (ascii "counters (C)") x.c.rows x.c.free
    ++ (table_line (ascii "log      (S)") x.s.rows x.s.free ++ table_line (ascii "labels   (R)") x.r.rows x.r.free))
