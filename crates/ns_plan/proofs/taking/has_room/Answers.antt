use Rattle.std.proofs.Common.{◌∙◌}
use Rattle.ns_types.specs.State.Resources.{plus}
use Rattle.ns_types.specs.State.Resources.{added}
use Rattle.ns_types.proofs.Amounts.{amount_added}
use Rattle.ns_plan.proofs.taking.has_room.Goals as goal

pub returns : goal.returns
returns c = λ r h. c.is_below.ensures (plus c.args.load r)
    (c.add.ensures ∙ (λ i. added (c.amount_of.ensures i) (h i)) ∙ amount_added c.args.load r)
