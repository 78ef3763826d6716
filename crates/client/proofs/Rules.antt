-- The lemmas that functions' attributes name.
use Rattle.client.proofs.Laws.{insert_tests, share_range}
use Rattle.format.proofs.Tags.{prepared}
use Rattle.labels.proofs.Laws.{in_range}
use Rattle.tokens.proofs.Laws.{token_is}
use borrow.Author.Tests.{eq-eqb, ne_eqb}

pub ruleset compaction_token_rules = (eq-eqb, ne_eqb)

pub ruleset insert_token_rules = (insert_tests, token_is, share_range, prepared, eq-eqb, ne_eqb)

pub ruleset test_field_rules = (eq-eqb, ne_eqb)
