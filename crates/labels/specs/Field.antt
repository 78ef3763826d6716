-- A field, of a name and a value (document 01, "Labels").
use Rattle.std.specs.Prelude.{List, ℕ}
use Rattle.scheme.specs.Labels.{Field}

abbrev pub field_of : List ℕ → List ℕ → Field
field_of name value = record { name = name; value = value }
