-- The parts of the token, each share's key, prepared.
use Rattle.scenario.proofs.Lists.{prepared_mt, prepared_ct}
use Rattle.scenario.proofs.premise.keys.Goals as goal

pub returns : goal.returns
returns c =
    let a = c.args in record { prepared = prepared_mt a.token.now a.u c.all-1.given c.prepare-mtx.result c.prepare-mt.result c.numbered-mt.result (record { inner = c.prepare-mtx.ensures.0; outer = c.prepare-mtx.ensures.1 }) c.numbered-mt.ensures (record { inner = c.prepare-mt.ensures.0; outer = c.prepare-mt.ensures.1 }); prepared_2 = prepared_ct a.token.now a.u c.all-1.given c.prepare-clx.result c.keys_of-of_cl.result c.numbered-cl.result (record { inner = c.prepare-clx.ensures.0; outer = c.prepare-clx.ensures.1 }) c.numbered-cl.ensures c.keys_of-of_cl.ensures }
