-- The call with the line's token.
use mathlib.Core.Path.{◌≡◌, sym, ap, ◌∙◌}
use native.Mathlib.Omega.{arith}
use lib.ListN.{length}
use Rattle.scheme.specs.Keys.{find_token_length}
use Rattle.report.specs.Run.{token_in, lent}
use Rattle.report.proofs.Found.{find_room, holds}
use Rattle.report.proofs.Arms.{lent_length}
use Rattle.token_execution.proofs.Arms.{found_by_answer}
use Rattle.token_execution.proofs.find_by.Goals as goal

pub told_ids-requires : goal.told_ids-requires
told_ids-requires c =
    let long : length c.find-o.new.output ≡ 65536 = omega (arith, lent_length, ap length c.blank-ids.ensures, c.find-o.auto) in
    (holds c.find-o.result (length c.find-o.new.output) (λ n h. omega (arith, find_room c.args.store.now (token_in find_token_length c.args.line.now c.args.key.now) lent n (sym (found_by_answer c.args.store.now _ c.args.line.now c.args.key.now _ _ c.find-o.result c.read-t.ensures.to_after c.blank-ids.ensures c.find-o.ensures.result_value c.find-o.ensures.output_after) ∙ h), lent_length, long)), (omega (arith, long), c.requires))
