-- The lemmas that functions' attributes name.
use Rattle.sha256.proofs.Laws.{length-hash}
use borrow.Author.Tests.{le-ltb, lt-ltb}

pub ruleset mac_rules = (lt-ltb, le-ltb)

pub ruleset block_rules = (length-hash)
