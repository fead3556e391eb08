-- Whether a step passes the bound of a counter, found from its change alone.
use Rattle.std.specs.Prelude.{ℕ, Bool, false, not, ◌&&◌, ◌||◌, Option, nat_lt}
use Rattle.std.specs.Option.{option_map_or}
use Rattle.std.specs.List.{list_any}
use Rattle.std.specs.FinMap.{get, entries}
use Rattle.keyed.specs.Table.{at_slot}
use Rattle.ns_types.specs.declared.evaluation.Evaluation.{Evaluation}
use Rattle.ns_types.specs.declared.node.Class.{Class}
use Rattle.ns_types.specs.declared.node.Node.{Node}
use Rattle.ns_types.specs.State.Names.{Name, Key, same_key}
use Rattle.ns_types.specs.State.Rows.{World, Tenant, evaluation_at}
use Rattle.ns_types.specs.Settling.Settle.{changes_allocation, changes_evaluation, pending}
use Rattle.ns_types.specs.Steps.{greatest}
use Rattle.ns_change.specs.declared.change.Change.{Change}
use Rattle.ns_change.specs.declared.change.PoolChange.{PoolChange}
use Rattle.ns_change.specs.declared.change.TenantChange.{TenantChange}
use Rattle.ns_change.specs.Changed.{changed}
use Rattle.ns_release.specs.Released.{does_wake, released_quotas, released_rooms}
use Rattle.ns_release.specs.Shown.{changes_job_row}
pub use Rattle.ns_tables.specs.Bound.{is_at_bound}

-- ---- which evaluations the step wakes

-- the evaluation has an entry in `blocked`, and the step wakes the entry
abbrev pub is_waking : World → Change → Key → Bool
is_waking w c key = list_any (λ k. same_key key k && does_wake w c k) w.blocked

-- ---- indexes of namespaces

-- the namespace's index is at its bound
abbrev pub is_last_index : World → Name → Bool
is_last_index w ns = option_map_or (λ t. is_at_bound t.index) (get w.tenants ns) false

-- the index of some namespace with a blocked evaluation is at its bound
abbrev pub any_last_index : World → Bool
any_last_index w = list_any (λ key. is_last_index w key.0) w.blocked

-- the evaluation, once it has woken, is shown differently than before
abbrev pub shows_awake : Tenant → ℕ → Option Evaluation → Bool
shows_awake t n row = option_map_or (λ e. changes_evaluation t n (pending e)) row false

abbrev pub waking_passes_in : World → Change → Key → Tenant → Bool
waking_passes_in w c key t =
    is_at_bound t.index && (does_wake w c key && shows_awake t key.1 (evaluation_at (changed w c) key))

-- the step wakes the entry, and by that the index of its namespace passes its bound
abbrev pub waking_passes : World → Change → Key → Bool
waking_passes w c key = option_map_or (waking_passes_in w c key) (get w.tenants key.0) false

-- the step does not wake a changed evaluation, and it is shown differently than before
abbrev pub shows_asleep : World → Change → Name → Tenant → ℕ × Option Evaluation → Bool
shows_asleep w c ns t slot =
    at_slot (λ e. not (is_waking w c (ns, e.0)) && changes_evaluation t e.0 e.1) slot

-- a row of the namespace is shown differently than before, not counting evaluations that the step wakes
abbrev pub touches_asleep : World → Change → Name → Tenant → TenantChange → Bool
touches_asleep w c ns t x = list_any (λ e. changes_job_row t e.0 e.1) (entries x.jobs)
    || list_any (shows_asleep w c ns t) (entries x.evaluations)
    || list_any (at_slot (λ e. changes_allocation t e.0 e.1)) (entries x.allocations)

abbrev pub is_number_past : TenantChange → Bool
is_number_past x = nat_lt greatest x.evaluation_number || nat_lt greatest x.allocation_number

-- a number of a changed namespace passes its bound, or its index does by the changed rows themselves
abbrev pub passes_in : World → Change → Name → TenantChange → Tenant → Bool
passes_in w c ns x t = is_number_past x || (is_at_bound t.index && touches_asleep w c ns t x)

abbrev pub tenant_passes : World → Change → Name × Option TenantChange → Bool
tenant_passes w c slot =
    option_map_or (λ x. option_map_or (passes_in w c slot.0 x) (get w.tenants slot.0) false) slot.1 false

abbrev pub tenants_pass : World → Change → Bool
tenants_pass w c = list_any (tenant_passes w c) (entries c.tenants) || list_any (waking_passes w c) w.blocked

-- ---- pools

abbrev pub is_place_past : Name × Option Node → Bool
is_place_past slot = at_slot (λ (e : Name × Node). nat_lt greatest e.1.places) slot

-- the number of placements on a changed node passes its bound
abbrev pub places_pass : World → Name × Option PoolChange → Bool
places_pass w slot =
    option_map_or (λ x. option_map_or (λ _. list_any is_place_past (entries x.nodes)) (get w.pools slot.0) false) slot.1
    false

-- if a class of the pool is released, the pool's release number passes its bound
abbrev pub room_passes : World → Name × Class → Bool
room_passes w room = option_map_or (λ p. is_at_bound p.release) (get w.pools room.0) false

abbrev pub pools_pass : World → Change → Bool
pools_pass w c = list_any (room_passes w) (released_rooms w c) || list_any (places_pass w) (entries c.pools)

-- ---- quotas

-- if the quota is released, its release number passes its bound
abbrev pub quota_passes : World → Name → Bool
quota_passes w name = option_map_or (λ q. is_at_bound q.release) (get w.quotas name) false

abbrev pub quotas_pass : World → Change → Bool
quotas_pass w c = list_any (quota_passes w) (released_quotas w c)
