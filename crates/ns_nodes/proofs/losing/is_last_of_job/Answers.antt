use Rattle.std.proofs.Common.{ap, sym, ◌∙◌}
use Rattle.std.specs.Option.{option_copied}
use Rattle.std.specs.Prelude.{◌&&◌, map, not}
use Rattle.keyed.proofs.Tables.{get-rows}
use Rattle.ns_types.specs.State.Rows.{is_live_on}
use Rattle.ns_types.proofs.Elements.{any_map}
use Rattle.ns_types.proofs.Named.{numbers}
use Rattle.ns_nodes.specs.Losing.{is_last_of_job, is_losing, looked}
use Rattle.ns_nodes.proofs.losing.is_last_of_job.Goals as goal
use Rattle.ns_tables.specs.World.{tenant_of}

pub returns-in-Some : goal.returns-in-Some
returns-in-Some c =
    let pool = c.args.pool.now in
    let node = c.args.node.now in
    let t = tenant_of c.args.tenant.now in
    let row = c.in-Some.row.now in
    c.is_last.ensures
    ∙ ap (λ b. is_live_on pool node row && not b) (sym (any_map (is_losing pool node row.job) (looked t) c.args.later.now))
    ∙ sym (ap (λ o. is_last_of_job pool node (c.args.slot.now.0, o) (map (looked t) c.args.later.now))
    (get-rows numbers c.args.tenant.now.allocations.slots c.args.slot.now.0 ∙ sym c.get.ensures ∙ ap option_copied c.in-Some.is))

pub returns-in-None : goal.returns-in-None
returns-in-None c = sym (ap (λ o. is_last_of_job c.args.pool.now c.args.node.now (c.args.slot.now.0, o)
    (map (looked (tenant_of c.args.tenant.now)) c.args.later.now))
    (get-rows numbers c.args.tenant.now.allocations.slots c.args.slot.now.0 ∙ sym c.get.ensures ∙ ap option_copied c.in-None.is))
