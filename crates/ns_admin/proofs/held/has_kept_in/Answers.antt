use Rattle.std.specs.Prelude.{false}
use Rattle.std.specs.Option.{option_map_or}
use Rattle.ns_admin.specs.Asked.{passes}
use Rattle.ns_admin.proofs.Holdings.{by_slots}
use Rattle.ns_admin.proofs.held.has_kept_in.Goals as goal

pub returns : goal.returns
returns c = by_slots (λ _ worker. option_map_or (λ kept. passes c.args.asked.now kept.pool) worker.kept false)
    c.args.tenant.now.workers _ _ c.as_slice.ensures c.any_kept_in.ensures
