-- The lemmas that functions' attributes name.
use Rattle.sha256.proofs.Laws.{length-digest}
use borrow.Author.Tests.{le-ltb, lt-ltb}
use lib.ListN.{length-drop}
use lib.Seq.{take_all}

pub ruleset hash_rules = (lt-ltb, le-ltb)

pub ruleset finish_digest_rules = (length-digest)

pub ruleset finish_rules = (length-drop, take_all)
