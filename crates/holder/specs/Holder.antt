-- Whose a lock is, by its line and the name of the host at hand.
use Rattle.std.specs.Prelude.{ℕ, Bool, true, false, List, Option, Some, None}
use Rattle.octets.specs.Compare.{same}
use Rattle.holder.specs.Line.{host_of, process_of}
use Rattle.holder.specs.declared.Holder.{Holder}
use Rattle.holder.specs.declared.Holder.TheVariants.{Here, Elsewhere, Unknown}

-- by the process that is named, and whether its host is the one at hand
abbrev pub holder_at : Option ℕ → Bool → Holder
holder_at (Some n) true = Here n
holder_at (Some n) false = Elsewhere n
holder_at None is_here = Unknown

abbrev pub holder_of : List ℕ → List ℕ → Holder
holder_of line here = holder_at (process_of line) (same (host_of line) here)
