use Rattle.std.proofs.Common.{◌∙◌, ◌&&◌, ap, option_copied, sym, true}
use Rattle.std.specs.Option.{option_map_or}
use Rattle.ns_types.specs.Placing.Constraint.{is_feasible}
use Rattle.ns_types.specs.State.Resources.{limits_allow, plus}
use Rattle.ns_types.proofs.Lists.{not_both}
use Rattle.ns_types.specs.State.Resources.{added}
use Rattle.ns_plan.specs.Looks.{limits_of}
use Rattle.ns_types.proofs.Amounts.{amount_added}
use Rattle.ns_plan.proofs.taking.accepts.Goals as goal
use Rattle.ns_plan.proofs.taking.accepts.Goals.{then-feasible, else-feasible}

pub returns-then-has_room : goal.returns-then-has_room
returns-then-has_room g c = λ r p h k.
    let w = g.V.View.world c.args.view.now in
    let left = c.args.left in
    elim c.if-feasible.branch [
      | then-feasible v ↦ c.allows.ensures (plus p r) (c.add.ensures ∙ (λ i. added (k i) (h i)) ∙ amount_added p r)
          ∙ (λ i. (sym v.if-feasible.true ∙ c.feasible.ensures ∙ ap (λ l. is_feasible l c.args.name.now c.args.node.now) c.constraints_of.ensures) i
          && (sym c.if-has_room.true ∙ v.value-is ∙ v.has_room.ensures r h) i
          && option_map_or (λ q. limits_allow (limits_of w q) (plus left.used (plus p r))) (option_copied c.args.quota) true)
      | else-feasible v ↦ not_both c.if-has_room.true (v.value-is ∙ v.if-feasible.false)
    ]
