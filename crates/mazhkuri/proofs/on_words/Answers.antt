-- A run on no bytes is a run on some.
use Rattle.std.proofs.lemmas.Option.{IfSome_then}
use Rattle.mazhkuri.proofs.on_words.Goals as goal

pub returns : goal.returns
returns c = IfSome_then c.apply.result c.apply.ensures.ends (λ ran e. record { before = _; key = _; random = _; after = _; ends = e })
