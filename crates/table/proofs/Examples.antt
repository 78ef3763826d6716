-- The examples hold: the checker computes both sides.
use mathlib.Core.Path.{◌≡◌, refl}
use mathlib.Core.List.{map}
use Rattle.table.specs.Lists.{repeats, lacking}
use Rattle.table.specs.Table.{place_of}
use Rattle.table.specs.Order.{in_form, arranged, reordered, closed}
use Rattle.table.specs.Looked.{smaller_rows, looked_at}
use Rattle.table.specs.Examples.{left, right, examples}

pub examples_hold : map left examples ≡ map right examples
unfolding repeats lacking place_of in_form arranged reordered closed smaller_rows looked_at
examples_hold = refl
