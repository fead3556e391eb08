use Rattle.std.specs.Option.{option_map_or}
use Rattle.std.specs.Prelude.{false, not}
use Rattle.ns_admin.proofs.Holdings.{by_slots}
use Rattle.ns_types.specs.State.Names.{has_name}
use Rattle.ns_admin.proofs.confinement.straying.has_worker_astray.Goals as goal

pub returns : goal.returns
returns c = by_slots (λ _ worker. option_map_or (λ kept. not (has_name c.args.pools.now kept.pool)) worker.kept false)
    c.args.tenant.now.workers _ _ c.as_slice.ensures c.any_worker_strays.ensures
