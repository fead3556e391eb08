use Rattle.std.proofs.Common.{◌∙◌, ap, sym, option_copied, true}
use Rattle.std.specs.Option.{option_map_or}
use Rattle.ns_types.specs.State.Resources.{limits_allow, plus}
use Rattle.ns_types.specs.State.Resources.{added}
use Rattle.ns_plan.specs.Looks.{limits_of}
use Rattle.ns_types.proofs.Amounts.{amount_added}
use Rattle.ns_plan.proofs.taking.allows.Goals as goal

pub returns-in-Some : goal.returns-in-Some
returns-in-Some g c = λ r h.
    let w = g.V.View.world c.args.view.now in
    let used = c.args.used in
    c.limits_allow_sum.ensures (plus used r) (c.add.ensures ∙ (λ i. added (c.amount_of.ensures i) (h i)) ∙ amount_added used r)
    ∙ ap (λ l. limits_allow l (plus used r)) c.limits.ensures
    ∙ sym (ap (λ o. option_map_or (λ q. limits_allow (limits_of w q) (plus used r)) o true) (ap option_copied c.in-Some.is))

pub returns-in-None : goal.returns-in-None
returns-in-None g c = λ r h.
    let w = g.V.View.world c.args.view.now in
    sym (ap (λ o. option_map_or (λ q. limits_allow (limits_of w q) (plus c.args.used r)) o true) (ap option_copied c.in-None.is))
