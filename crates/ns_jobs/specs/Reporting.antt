-- Whether a report passes the bound of a counter, once it has settled.
use Rattle.std.specs.Prelude.{Bool, not, ◌&&◌, ◌||◌}
use Rattle.ns_types.specs.declared.allocation.Allocation.{Allocation}
use Rattle.ns_types.specs.declared.allocation.ClientStatus.{ClientStatus}
use Rattle.ns_types.specs.Asking.Nodes.{calls_for_one}
use Rattle.ns_types.specs.State.Rows.{World, Tenant, is_held, is_live}
use Rattle.ns_counters.specs.Bounds.{is_at_bound}
use Rattle.ns_jobs.specs.Ending.{ending_passes}

-- the allocation is live, and no longer is with that status
abbrev pub ends : Allocation → ClientStatus → Bool
ends a client = is_live a && not (is_held client)

-- the status calls for an evaluation, and the number of the namespace's evaluations is at its bound
abbrev pub number_passes : Tenant → Allocation → ClientStatus → Bool
number_passes t a client = is_at_bound t.evaluation_number && calls_for_one t a client

-- a counter passes its bound by what the end of the allocation releases
abbrev pub release_passes : World → Tenant → Allocation → ClientStatus → Bool
release_passes w t a client = ends a client && ending_passes w t a

-- the namespace's index or one of these counters passes its bound, once the allocation has another status
abbrev pub report_passes : World → Tenant → Allocation → ClientStatus → Bool
report_passes w t a client = is_at_bound t.index || number_passes t a client || release_passes w t a client
