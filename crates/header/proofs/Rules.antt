-- The lemmas that functions' attributes name.
use Rattle.header.proofs.Laws.{header_read, sizes_read}
use borrow.Author.Tests.{lt-ltb}

pub ruleset bad_header_rules = (sizes_read, header_read, lt-ltb)
