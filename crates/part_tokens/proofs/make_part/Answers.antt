-- Key, name and value are three pieces of the text.
use mathlib.Core.Path.{ap, ◌∙◌}
use Rattle.scheme.specs.Call.{Part}
use Rattle.scheme.specs.Run.{part_of, part_token_tests}
use Rattle.suite.specs.Program.{program}
use Rattle.client.specs.Making.{making_answer, making_token}
use Rattle.part_tokens.proofs.Parts.{part_is}
use Rattle.part_tokens.proofs.make_part.Goals as goal

pub returns : goal.returns
returns c =
    let s = c.args in
    let e = part_is s.text.now s.ends.now s.i _ _ _ _ _ _ _ c.edge-a.ensures c.edge-k.ensures c.edge-n.ensures c.edge-v.ensures c.piece.ensures c.piece-2.ensures c.piece-3.ensures in record {
      result_value = c.part_token.ensures.result_value ∙ ap (λ (p : Part). making_answer (part_token_tests p)) e;
      part_after = c.part_token.ensures.token_after ∙ ap (λ (p : Part). making_token (part_token_tests p) (part_of program p) s.part.now) e;
    }
