-- When an Apply of a plan that stands passes the bound of a counter, by the state before it.
use Rattle.std.specs.Prelude.{◌≡◌, ℕ, ◌+◌, Bool, false, not, ◌&&◌, ◌||◌, if◌then◌else◌, List, ◌++◌, filter, length, map}
use Rattle.std.specs.Prelude.{nat_lt}
use Rattle.std.specs.Option.{option_map_or}
use Rattle.std.specs.List.{list_any}
use Rattle.std.specs.FinMap.{get}
use Rattle.ns_types.specs.declared.node.Node.{Node}
use Rattle.ns_types.specs.declared.plan.Placement.{Placement}
use Rattle.ns_types.specs.declared.snapshot.Snapshot.{Snapshot}
use Rattle.ns_types.specs.Settling.Settle.{settle}
use Rattle.ns_types.specs.State.Lists.{first_each, is_empty}
use Rattle.ns_types.specs.State.Names.{Name, Key, has_name, same_name}
use Rattle.ns_types.specs.State.Rows.{World, Tenant, node_at}
use Rattle.ns_types.specs.State.Tables.{any_row}
use Rattle.ns_types.specs.Steps.{greatest, is_past_bound}
use Rattle.ns_types.specs.Working.Commit.{Victim, node_name, same_victim_job}
use Rattle.ns_types.specs.Working.Parts.{goes_to}
use Rattle.ns_counters.specs.Bounds.{is_at_bound, is_last_index}
use Rattle.ns_applier.specs.Passing.{end_passes}
use Rattle.ns_applier.specs.Raising.{Raise, Raises}
use Rattle.ns_applier.specs.Releasing.{EndsAlone}

-- the part of a plan that is done: the stops of live allocations, the placements on committed nodes, and the live allocations
-- that these evict, with their rows
pub record Doing : Type 0 where
  pub stops : List ℕ
  pub placed : List Placement
  pub victims : List Victim

-- something is stopped or placed
abbrev pub does_something : Doing → Bool
does_something d = not (is_empty d.stops) || not (is_empty d.placed)

-- ---- the allocations that end, and the numbers that are given

abbrev pub victim_key : Victim → Key
victim_key v = (v.0, v.1.0)

abbrev pub ended_keys : Snapshot → Doing → List Key
ended_keys kept d = map (λ n. (kept.namespace, n)) d.stops ++ map victim_key d.victims

-- how many jobs of the namespace lose an allocation
abbrev pub losing_in : Name → List Victim → ℕ
losing_in ns victims = length (filter (λ v. same_name ns v.0) (first_each same_victim_job victims))

-- what a namespace gets; its rows change if it is the plan's own namespace and the plan does something, or if it loses an
-- allocation
abbrev pub apply_raise : Snapshot → Doing → Name → Raise
apply_raise kept d ns = record {
  evaluations = losing_in ns d.victims;
  allocations = if same_name ns kept.namespace then length d.placed else 0;
  touched = (same_name ns kept.namespace && does_something d) || has_name (map (λ v. v.0) d.victims) ns;
}

abbrev pub places_on : Snapshot → List Placement → Name → Name → ℕ
places_on kept placed pool name = length (filter (goes_to kept pool name) placed)

-- ---- counters

-- the number of the last evaluation that some namespace gets passes its bound
abbrev pub evaluations_pass : World → List Victim → Bool
evaluations_pass w victims = any_row (λ ns t. nat_lt greatest (t.evaluation_number + losing_in ns victims)) w.tenants

-- the number of the plan's last allocation, or the index of its namespace, passes its bound
abbrev pub own_passes_in : Doing → Tenant → Bool
own_passes_in d t = nat_lt greatest (t.allocation_number + length d.placed) || (is_at_bound t.index && does_something d)

abbrev pub own_passes : World → Name → Doing → Bool
own_passes w ns d = option_map_or (own_passes_in d) (get w.tenants ns) false

-- the number of places of the node passes its bound
abbrev pub place_passes_on : Snapshot → List Placement → Name → Node → Bool
place_passes_on kept placed name node = nat_lt greatest (node.places + places_on kept placed kept.pool name)

abbrev pub place_passes : World → Snapshot → List Placement → Placement → Bool
place_passes w kept placed p = option_map_or (place_passes_on kept placed (node_name kept p.node))
    (node_at w kept.pool (node_name kept p.node)) false

-- a counter passes its bound by what the stop releases
abbrev pub stop_passes : World → Name → ℕ → Bool
stop_passes w ns n = end_passes w w (ns, n)

-- a counter passes its bound by what the eviction releases, or the index of the victim's namespace does
abbrev pub victim_passes : World → Victim → Bool
victim_passes w v = is_last_index w v.0 || end_passes w w (victim_key v)

abbrev pub apply_passes : World → Snapshot → Doing → Bool
apply_passes w kept d = evaluations_pass w d.victims || own_passes w kept.namespace d
    || list_any (place_passes w kept d.placed) d.placed
    || list_any (stop_passes w kept.namespace) d.stops || list_any (victim_passes w) d.victims

-- the law: a step that does this part of a plan passes a bound exactly if one of these counters does
abbrev pub PassesByApply : Type 0
PassesByApply = (w x : World) (kept : Snapshot) (d : Doing) → is_past_bound w ≡ false
    → EndsAlone w x (ended_keys kept d) → Raises w x (apply_raise kept d) (places_on kept d.placed)
    → is_past_bound (settle w x) ≡ apply_passes w kept d
