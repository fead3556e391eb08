-- Parts of a plan in a given state: the stops of allocations that are live there, and the placements on some of the nodes.
-- Neither the headline nor the wire rests on this: the code that applies a plan node by node is specified by it.
use Rattle.std.specs.Prelude.{ℕ, Bool, false, ◌&&◌, List, filter}
use Rattle.std.specs.Option.{option_map_or}
use Rattle.ns_types.specs.declared.plan.Placement.{Placement}
use Rattle.ns_types.specs.declared.plan.Plan.{Plan}
use Rattle.ns_types.specs.declared.snapshot.Snapshot.{Snapshot}
use Rattle.ns_types.specs.State.Names.{Name, Key, has_number, same_name}
use Rattle.ns_types.specs.State.Rows.{World, Tenant, allocation_at, is_live}
use Rattle.ns_types.specs.Working.Commit.{live_stops, node_name, stop_all}

abbrev pub lives_at : World → Key → Bool
lives_at w key = option_map_or is_live (allocation_at w key) false

-- the state after the plan's stops of live allocations; t is the snapshot's namespace
abbrev pub stopped : Snapshot → Plan → World → Tenant → World
stopped kept p w t = stop_all kept.namespace (live_stops t p.stops) w

-- the placements on those nodes, in the order of the plan
abbrev pub placed_on : List ℕ → List Placement → List Placement
placed_on nodes placements = filter (λ p. has_number nodes p.node) placements

-- the placement is on the node with that name in that pool
abbrev pub goes_to : Snapshot → Name → Name → Placement → Bool
goes_to kept pool name p = same_name pool kept.pool && same_name name (node_name kept p.node)
