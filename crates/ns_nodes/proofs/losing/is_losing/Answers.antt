use Rattle.std.proofs.Common.{ap, sym, ◌∙◌}
use Rattle.std.specs.Option.{option_copied}
use Rattle.keyed.proofs.Tables.{get-rows}
use Rattle.ns_types.proofs.Named.{numbers}
use Rattle.ns_nodes.specs.Losing.{is_losing}
use Rattle.ns_nodes.proofs.losing.is_losing.Goals as goal

pub returns-in-Some : goal.returns-in-Some
returns-in-Some c = c.is_of_job.ensures ∙ sym (ap (λ o. is_losing c.args.pool.now c.args.node.now c.args.job.now (c.args.slot.now.0, o))
    (get-rows numbers c.args.tenant.now.allocations.slots c.args.slot.now.0 ∙ sym c.get.ensures ∙ ap option_copied c.in-Some.is))

pub returns-in-None : goal.returns-in-None
returns-in-None c = sym (ap (λ o. is_losing c.args.pool.now c.args.node.now c.args.job.now (c.args.slot.now.0, o))
    (get-rows numbers c.args.tenant.now.allocations.slots c.args.slot.now.0 ∙ sym c.get.ensures ∙ ap option_copied c.in-None.is))
