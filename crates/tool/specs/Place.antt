-- A request's place among all of them, by which the function that runs it is known.
use Rattle.std.specs.Prelude.{ℕ}
use denote.Enum.Declared.{tag_of}
use Rattle.request.specs.contracts.Request.{the_type}
use Rattle.request.specs.declared.Request.{Request}

abbrev pub place_of : Request → ℕ
place_of q = tag_of the_type q
