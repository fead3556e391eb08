-- How an Apply is judged before anything is written.
use Rattle.std.specs.Prelude.{ℕ, ◌+◌, Bool, false, ◌&&◌, ◌||◌, List, filter, nat_lt}
use Rattle.std.specs.Option.{option_map_or}
use Rattle.std.specs.List.{list_any}
use Rattle.std.specs.FinMap.{get}
use Rattle.ns_types.specs.declared.plan.Eviction.{Eviction}
use Rattle.ns_types.specs.declared.plan.Placement.{Placement}
use Rattle.ns_types.specs.declared.plan.Plan.{Plan}
use Rattle.ns_types.specs.declared.snapshot.Snapshot.{Snapshot}
use Rattle.ns_types.specs.State.Names.{Name}
use Rattle.ns_types.specs.State.Rows.{World, node_at}
use Rattle.ns_types.specs.Steps.{greatest}
use Rattle.ns_types.specs.Working.Commit.{counts, evicted_rows, node_name, stop_all}
use Rattle.ns_counters.specs.Bounds.{is_last_index}
use Rattle.ns_applier.specs.HeadroomApplying.{Doing, own_passes, place_passes, place_passes_on, stop_passes}
use Rattle.ns_applier.specs.HeadroomApplying.{victim_passes}
use Rattle.ns_applier.specs.Passing.{end_passes}
use Rattle.ns_types.specs.Working.Parts.{lives_at}
pub use Rattle.ns_types.specs.Working.Parts.{placed_on}

-- with `count` more, the number of the namespace's last allocation, or of the node's last place, passes its bound
abbrev pub allocations_pass : World → Name → ℕ → Bool
allocations_pass w ns count =
    option_map_or (λ t. nat_lt greatest (t.allocation_number + count)) (get w.tenants ns) false

abbrev pub node_passes : World → Name → Name → ℕ → Bool
node_passes w pool name count =
    option_map_or (λ node. nat_lt greatest (node.places + count)) (node_at w pool name) false

-- ---- the part of a plan that is done, where the nodes at the places in `committed` are the committed ones

abbrev pub live_numbers : World → Name → List ℕ → List ℕ
live_numbers w ns numbers = filter (λ n. lives_at w (ns, n)) numbers

abbrev pub doing : World → Snapshot → Plan → List ℕ → Doing
doing w kept p committed =
    let stops = live_numbers w kept.namespace p.stops in
    let placed = placed_on committed p.placing.placements in
    record {
      stops = stops;
      placed = placed;
      victims = evicted_rows (stop_all kept.namespace stops w) kept placed;
    }

-- the number of places of the node at place `k` passes its bound
abbrev pub committed_passes : World → Snapshot → List Placement → ℕ → Bool
committed_passes w kept placed k = option_map_or (place_passes_on kept placed (node_name kept k))
    (node_at w kept.pool (node_name kept k)) false

-- a counter passes its bound by what the eviction releases, or the index of its namespace does
abbrev pub eviction_passes : World → Eviction → Bool
eviction_passes w e = is_last_index w e.namespace || end_passes w w (e.namespace, e.number)

-- some eviction counts on the node at place `k` of the snapshot, after the stops, and passes a bound
abbrev pub evictions_pass_at : World → World → Snapshot → ℕ → List Eviction → Bool
evictions_pass_at w stopped kept k evictions =
    list_any (λ e. eviction_passes w e && counts stopped kept.pool (node_name kept k) e) evictions

-- what the plan evicts passes a bound, be it that of the index of a namespace that loses an allocation
abbrev pub lost_part_passes : World → Snapshot → Plan → List ℕ → Bool
lost_part_passes w kept p committed = list_any (victim_passes w) (doing w kept p committed).victims

-- what the plan places and stops passes a bound, be it that of its own namespace's index
abbrev pub own_part_passes : World → Snapshot → Plan → List ℕ → Bool
own_part_passes w kept p committed =
    let d = doing w kept p committed in
    own_passes w kept.namespace d || list_any (place_passes w kept d.placed) d.placed
    || list_any (stop_passes w kept.namespace) d.stops
