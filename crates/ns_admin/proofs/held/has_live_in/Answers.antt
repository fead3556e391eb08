use Rattle.std.specs.Prelude.{◌&&◌}
use Rattle.ns_types.specs.State.Rows.{is_live}
use Rattle.ns_admin.specs.Asked.{passes}
use Rattle.ns_admin.proofs.Holdings.{by_slots}
use Rattle.ns_admin.proofs.held.has_live_in.Goals as goal

pub returns : goal.returns
returns c = by_slots (λ _ a. is_live a && passes c.args.asked.now a.pool) c.args.tenant.now.allocations.slots _ _
    c.as_slice.ensures c.any_live_in.ensures
