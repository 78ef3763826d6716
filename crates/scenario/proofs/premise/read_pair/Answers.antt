-- The tags under the keys of the token that was made.
use Rattle.scenario.proofs.Lists.{pair_tags}
use Rattle.scenario.proofs.premise.read_pair.Goals as goal

pub returns : goal.returns
returns c =
    pair_tags _ _ _ c.find_token.new.token _ _ _ c.keys.result _ _ c.find_token.ensures.token_after (c.keys.ensures.prepared, c.keys.ensures.prepared_2) (c.pair.ensures.m_after, c.pair.ensures.c_after)
