-- What was served stands in the slices.
use Rattle.std.proofs.lemmas.Option.{IfSome_then}
use Rattle.buffer.proofs.Laws.{counts}
use Rattle.mazhkuri.proofs.main.Goals as goal

pub print-requires : goal.print-requires
print-requires c = IfSome_then c.serve-r.result c.serve-r.ensures (λ ran served. let e = served.ends in ((counts e.output).0, (counts e.errors).0))
