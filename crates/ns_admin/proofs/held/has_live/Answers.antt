use Rattle.ns_types.specs.State.Rows.{is_live}
use Rattle.ns_admin.proofs.Holdings.{by_slots}
use Rattle.ns_admin.proofs.held.has_live.Goals as goal

pub returns : goal.returns
returns c = by_slots (λ _ a. is_live a) c.args.tenant.now.allocations.slots _ _ c.as_slice.ensures c.any_lives.ensures
