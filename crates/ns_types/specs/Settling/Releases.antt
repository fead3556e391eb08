-- What a step releases, found by comparing the rows before and after it, and which blocked evaluations that wakes.
-- Nomad's page "Scheduling in Nomad", of blocked evaluations.
use Rattle.std.specs.Prelude.{ℕ, Bool, true, false, not, ◌&&◌, ◌||◌, List, [], Option, Some, None, filter, map, nat_lt}
use Rattle.std.specs.Option.{option_map_or}
use Rattle.std.specs.Cmp.Lexicographic.{pointwise}
use Rattle.std.specs.Ordering.{eq_by_cmp}
use Rattle.std.specs.FinMap.{get, entries}
use Rattle.std.specs.List.{list_any}
use Rattle.ns_types.specs.declared.allocation.Allocation.{Allocation}
use Rattle.ns_types.specs.declared.evaluation.Evaluation.{Evaluation}
use Rattle.ns_types.specs.declared.node.Class.{Class}
use Rattle.ns_types.specs.declared.node.Node.{Node}
use Rattle.ns_types.specs.declared.node.Offer.{Offer}
use Rattle.ns_types.specs.declared.records.Namespace.{Namespace}
use Rattle.ns_types.specs.declared.snapshot.Snapshot.{Snapshot}
use Rattle.ns_types.specs.State.Names.{Name, Key, same_name, has_key, has_class, attribute_cmp}
use Rattle.ns_types.specs.State.Resources.{same_resources, same_limits, limits_in}
use Rattle.ns_types.specs.State.Rows.{World, PoolRows, QuotaRows, is_live, is_free, class_of, allocation_at, node_at}
use Rattle.ns_types.specs.State.Rows.{evaluation_at}
use Rattle.ns_types.specs.State.Sums.{names_quota}
use Rattle.ns_types.specs.State.Tables.{any_row}

-- the offers have the same class, attributes and capacity
abbrev pub same_offer : Offer → Offer → Bool
same_offer a b = same_name a.class b.class && pointwise (eq_by_cmp attribute_cmp) a.attributes b.attributes
    && same_resources a.capacity b.capacity

-- some allocation that passes was live before the step and is not live after it
unfoldable pub ends : World → World → (Namespace → Allocation → Bool) → Bool
ends w w' passes = any_row (λ ns t. any_row (λ n a. is_live a && passes t.namespace a
    && not (option_map_or is_live (allocation_at w' (ns, n)) false)) t.allocations) w.tenants

abbrev pub is_on : Name → Name → Namespace → Allocation → Bool
is_on pool node _ a = same_name pool a.pool && same_name node a.node

abbrev pub counts_in : Name → Namespace → Allocation → Bool
counts_in quota namespace _ = names_quota quota namespace

-- a node gives room if it is ready and eligible after the step, and became so, changed its offer, or lost a live allocation
abbrev pub gives_room : World → World → Name → Name → Node → Bool
gives_room w w' pool name node = is_free node
    && (option_map_or (λ old. not (is_free old) || not (same_offer old.offer node.offer)) (node_at w pool name) true
    || ends w w' (is_on pool name))

-- the classes that the step releases in a pool: those of the nodes that give room; without one the pool is not released
unfoldable pub released_classes : World → World → Name → PoolRows → List Class
released_classes w w' name pool = map (λ e. class_of e.1)
    (filter (λ e. gives_room w w' name e.0 e.1) (entries pool.nodes))

abbrev pub classes_of : World → World → Name → List Class
classes_of w w' pool = option_map_or (released_classes w w' pool) (get w'.pools pool) []

abbrev pub changes_limits : QuotaRows → QuotaRows → Bool
changes_limits old new = not (same_limits (limits_in old.quota.limits) (limits_in new.quota.limits))

-- the step releases a quota: its limits change, or a live allocation of a namespace that names it ends
unfoldable pub releases_quota : World → World → Name → QuotaRows → Bool
releases_quota w w' name quota = option_map_or (λ old. changes_limits old quota) (get w.quotas name) false
    || ends w w' (counts_in name)

abbrev pub is_released_quota : World → World → Name → Bool
is_released_quota w w' name = option_map_or (releases_quota w w' name) (get w'.quotas name) false

-- ---- wakes

-- what is released: whether the quota is, and whether a class that passes is released in the pool
pub record Released : Type 0 where
  pub quota : Name → Bool
  pub room : Name → (Class → Bool) → Bool

-- what the step releases
abbrev pub released_between : World → World → Released
released_between w w' = record {
  quota = is_released_quota w w';
  room = λ pool passes. list_any passes (classes_of w w' pool);
}

-- an evaluation that escapes classes may use each; another may use those that it did not find infeasible
abbrev pub may_use : Bool → List Class → Class → Bool
may_use escapes infeasible class = escapes || not (has_class infeasible class)

abbrev pub can_use : Evaluation → Class → Bool
can_use e class = may_use e.escapes e.infeasible class

-- a blocked evaluation wakes if the quota that limits it is released or, if none does, a class of its pool that it can use
abbrev pub wakes_by : Released → Evaluation → Option Name → Bool
wakes_by released e (Some quota) = released.quota quota
wakes_by released e None = released.room e.pool (can_use e)

abbrev pub wakes_on : Released → Evaluation → Bool
wakes_on released e = wakes_by released e e.quota

-- the step wakes a blocked evaluation
unfoldable pub wakes : World → World → Evaluation → Bool
wakes w w' e = wakes_on (released_between w w') e

-- the evaluations that the step wakes, in the order of `blocked`, which has them before the step and after its own change
unfoldable pub woken : World → World → List Key
woken w w' = filter (λ key. has_key w'.blocked key && option_map_or (wakes w w') (evaluation_at w key) false) w.blocked

-- ---- releases that a follower missed

-- the quota was released after the snapshot
abbrev pub is_quota_since : World → Snapshot → Name → Bool
is_quota_since w kept quota = nat_lt (option_map_or (λ q. q.release) kept.quota 0)
    (option_map_or (λ q. q.release) (get w.quotas quota) 0)

-- a class that passes was released in the pool after the release of this number
abbrev pub is_room_since : World → ℕ → Name → (Class → Bool) → Bool
is_room_since w seen pool passes =
    option_map_or (λ p. any_row (λ class number. nat_lt seen number && passes class) p.classes) (get w.pools pool) false

-- what was released after the snapshot
abbrev pub released_since : World → Snapshot → Released
released_since w kept = record { quota = is_quota_since w kept; room = is_room_since w kept.release }

-- a release after the snapshot would have woken the follower
unfoldable pub missed : World → Snapshot → Evaluation → Bool
missed w kept e = wakes_on (released_since w kept) e
