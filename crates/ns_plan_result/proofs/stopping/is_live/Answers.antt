use Rattle.std.proofs.Common.{ap, sym, false, ◌∙◌}
use Rattle.std.specs.Option.{option_copied, option_map_or}
use Rattle.keyed.proofs.Tables.{get-rows}
use Rattle.ns_types.proofs.Named.{numbers}
use Rattle.ns_types.specs.State.Rows.{is_live}
use Rattle.ns_plan_result.proofs.stopping.is_live.Goals as goal

pub returns-in-Some : goal.returns-in-Some
returns-in-Some c = c.is_live.ensures ∙ sym (ap (λ r. option_map_or is_live r false)
    (get-rows numbers c.args.tenant.now.allocations.slots c.args.number ∙ sym c.get.ensures ∙ ap option_copied c.in-Some.is))

pub returns-in-None : goal.returns-in-None
returns-in-None c = sym (ap (λ r. option_map_or is_live r false)
    (get-rows numbers c.args.tenant.now.allocations.slots c.args.number ∙ sym c.get.ensures ∙ ap option_copied c.in-None.is))
