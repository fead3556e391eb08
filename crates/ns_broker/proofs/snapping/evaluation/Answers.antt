use Rattle.std.proofs.Common.{sym, ◌∙◌}
use Rattle.keyed.proofs.Tables.{get-rows}
use Rattle.keyed.specs.Table.{row_at}
use Rattle.ns_types.proofs.Named.{numbers}
use Rattle.ns_broker.proofs.snapping.evaluation.Goals as goal

pub returns : goal.returns
returns c = c.get.ensures ∙ (λ i. row_at (c.rows.ensures i) (c.evaluation.ensures i))
    ∙ sym (get-rows numbers c.args.tenant.now.evaluations.slots c.args.worker.now.evaluation)
