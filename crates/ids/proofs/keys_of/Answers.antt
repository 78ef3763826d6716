-- MT of the share is prepared; the tags are by it.
use mathlib.Core.Path.{refl}
use Rattle.ids.proofs.Noted.{share_tags}
use Rattle.ids.proofs.keys_of.Goals as goal

pub returns : goal.returns
returns c =
    let a = c.args in record {
      number = refl;
      tags = share_tags c.prepare-mt.result c.numbered-key.result a.keys a.u (record { inner = c.prepare-mt.ensures.0; outer = c.prepare-mt.ensures.1 }) c.numbered-key.ensures;
      me = c.numbered-me.ensures;
    }
