-- A bar that shows how full a table is: `#` as far as `used` is of `total`, then `.`.
use Rattle.std.specs.Prelude.{ℕ, ◌*◌, cond, List, ltb}
use Rattle.text.specs.Tabulate.{tabulate}

abbrev pub bar_at : ℕ → ℕ → ℕ → ℕ → ℕ
bar_at used total width i = cond (ltb (i * total) (used * width)) 35 46

-- the first n marks of a bar of the width
abbrev pub bar_of : ℕ → ℕ → ℕ → ℕ → List ℕ
bar_of used total width n = tabulate (bar_at used total width) n
