use Rattle.std.specs.Prelude.{not, ◌&&◌}
use Rattle.ns_admin.proofs.Holdings.{by_slots}
use Rattle.ns_types.specs.State.Names.{has_name}
use Rattle.ns_types.specs.State.Rows.{is_held}
use Rattle.ns_admin.proofs.confinement.straying.has_allocation_astray.Goals as goal

pub returns : goal.returns
returns c = by_slots (λ _ a. is_held a.client && not (has_name c.args.pools.now a.pool)) c.args.tenant.now.allocations.slots _ _
    c.as_slice.ensures c.any_allocation_strays.ensures
