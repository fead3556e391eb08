-- The plan of a snapshot: the stops, and then the missing allocations, placed in the room that the stops leave.
-- Nomad's page "Scheduling in Nomad".
use Rattle.std.specs.Prelude.{ℕ, ◌==◌, Bool, not, ◌&&◌, ◌||◌, List, [], Option, Some, None, filter, map}
use Rattle.std.specs.List.{list_any}
use Rattle.std.specs.Option.{unwrap_or}
use Rattle.std.specs.Str.{bytes_eq}
use Rattle.std.specs.FinMap.{keys, from_entries}
use Rattle.ns_types.specs.declared.job.Constraint.{Constraint}
use Rattle.ns_types.specs.declared.job.Job.{Job}
use Rattle.ns_types.specs.declared.node.Class.{Class}
use Rattle.ns_types.specs.declared.plan.Plan.{Plan}
use Rattle.ns_types.specs.declared.plan.Placing.{Placing}
use Rattle.ns_types.specs.declared.snapshot.LiveAllocation.{LiveAllocation}
use Rattle.ns_types.specs.declared.snapshot.OwnAllocation.{OwnAllocation}
use Rattle.ns_types.specs.declared.snapshot.PoolNode.{PoolNode}
use Rattle.ns_types.specs.declared.snapshot.QuotaSeen.{QuotaSeen}
use Rattle.ns_types.specs.declared.snapshot.Snapshot.{Snapshot}
use Rattle.ns_types.specs.State.Names.{class_cmp}
use Rattle.ns_types.specs.State.Lists.{is_empty}
use Rattle.ns_types.specs.State.Rows.{class_of}
use Rattle.ns_types.specs.Placing.Constraint.{is_feasible, escapes, is_class_infeasible}
use Rattle.ns_types.specs.Placing.Placement.{Candidate}
use Rattle.ns_types.specs.Placing.Planning.{Site, place, all_placed}
use Rattle.ns_types.specs.Placing.Preemption.{evictable}
use Rattle.ns_types.specs.State.Resources.{none, minus, total, unlimited}
use Rattle.ns_types.specs.Placing.Wanted.{stopping, demands}

abbrev pub is_among : List OwnAllocation → ℕ → Bool
is_among stops number = list_any (λ s. s.number == number) stops

-- the allocation is of another namespace, or is none of the stops
abbrev pub stays : List ℕ → List OwnAllocation → LiveAllocation → Bool
stays namespace stops a = not (bytes_eq a.namespace namespace && is_among stops a.number)

-- the live allocations of a node without the stops, which are of this namespace
abbrev pub staying : List ℕ → List OwnAllocation → List LiveAllocation → List LiveAllocation
staying namespace stops live = filter (stays namespace stops) live

abbrev pub candidate_of : Job → List ℕ → List OwnAllocation → PoolNode → Candidate
candidate_of j namespace stops p = record {
  name = p.name;
  feasible = is_feasible j.document.constraints p.name p.row;
  left = minus p.row.offer.capacity (total (λ a. a.size) (staying namespace stops p.live));
  evictable = staying namespace stops (evictable j.document.priority p.live);
}

-- a namespace without a quota is planned for as if its quota limited nothing
abbrev pub no_quota : QuotaSeen
no_quota = record { name = []; limits = unlimited; used = none; release = 0; namespaces = [] }

abbrev pub quota_of : Snapshot → QuotaSeen
quota_of s = unwrap_or s.quota no_quota

-- where placing begins: the snapshot's nodes and quota use, without the stops
abbrev pub opening : Snapshot → Job → List OwnAllocation → Site
opening s j stops = record {
  candidates = map (candidate_of j s.namespace stops) s.nodes;
  used = minus (quota_of s).used (total (λ a. a.row.size) stops);
}

abbrev pub placing_of : Snapshot → Option Job → List OwnAllocation → Placing
placing_of s None stops = all_placed
placing_of s (Some j) stops = place (quota_of s) (demands (Some j) s.own) (opening s j stops)

unfoldable pub plan : Snapshot → Plan
plan s = let stops = stopping s.job s.own in
    record { stops = map (λ a. a.number) stops; placing = placing_of s s.job stops }

-- the plan neither stops nor places anything
abbrev pub does_nothing : Plan → Bool
does_nothing p = is_empty p.stops && is_empty p.placing.placements

-- a missing allocation was not placed
abbrev pub is_short : Plan → Bool
is_short p = p.placing.quota_limited || p.placing.class_limited

-- ---- what a follower remembers

abbrev pub constraints_of : Option Job → List Constraint
constraints_of None = []
constraints_of (Some j) = j.document.constraints

-- some constraint of the job escapes classes
abbrev pub any_escapes : Snapshot → Bool
any_escapes s = list_any escapes (constraints_of s.job)

-- the infeasible classes of the snapshot's nodes, in their order, each once
abbrev pub infeasible_classes : Snapshot → List Class
infeasible_classes s =
    keys (from_entries {R = class_cmp}
    (map (λ p. (class_of p.row, p.name))
    (filter (λ p. is_class_infeasible (constraints_of s.job) p.name p.row) s.nodes)))
