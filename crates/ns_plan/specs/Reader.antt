-- The decision node by node, made without a write: it reads the state after the stops, and holds only the keys of the
-- victims of the nodes that do their part.
use Rattle.std.specs.Prelude.{◌≡◌, ℕ, Bool, true, false, ◌&&◌, List, [], ◌∷◌, ◌++◌, Option, Some, None, filter}
use Rattle.std.specs.Prelude.{flat_map, map, fold, if◌then◌else◌}
use Rattle.std.specs.Option.{option_map_or}
use Rattle.ns_types.specs.declared.node.Node.{Node}
use Rattle.ns_types.specs.declared.plan.Eviction.{Eviction}
use Rattle.ns_types.specs.declared.plan.Placement.{Placement}
use Rattle.ns_types.specs.declared.resources.Resources.{Resources}
use Rattle.ns_types.specs.declared.snapshot.Snapshot.{Snapshot}
use Rattle.ns_types.specs.Placing.Constraint.{is_feasible}
use Rattle.ns_types.specs.Placing.Plan.{constraints_of}
use Rattle.ns_types.specs.State.Names.{Key, Name, has_key, same_key, same_number}
use Rattle.ns_types.specs.State.Resources.{is_within, limits_allow, minus, none, plus}
use Rattle.ns_types.specs.State.Rows.{World, allocation_at, is_live_on, node_at}
use Rattle.ns_types.specs.State.Sums.{node_load, quota_use}
use Rattle.ns_types.specs.Working.Commit.{counts, node_name, part_of, quota_named, size_of, victim_key, victims_of}
use Rattle.ns_types.proofs.Less.{node_parts, quota_parts}
use Rattle.ns_types.proofs.Once.{once}
use Rattle.ns_plan.specs.After.{keys_of}
use Rattle.ns_plan.specs.Looks.{limits_of}
use Rattle.ns_types.specs.State.Resources.{amount_of}
use Rattle.ns_plan.specs.declared.deciding.SoFar.{SoFar}
use Rattle.ns_plan.specs.declared.leaving.Left.{Left}

-- ---- without the allocations at some keys

abbrev pub load_left : World → Name → Name → List Key → Resources
load_left w pool node keys = minus (node_load w pool node) (node_parts w pool node keys)

abbrev pub use_left : World → Name → List Key → Resources
use_left w quota keys = minus (quota_use w quota) (quota_parts w quota keys)

abbrev pub has_room : World → Name → Name → List Key → Resources → Node → Bool
has_room w pool name keys size node = is_within (plus (load_left w pool name keys) size) node.offer.capacity

abbrev pub allows : World → Name → List Key → Resources → Bool
allows w ns keys amount =
    option_map_or (λ q. limits_allow (limits_of w q) (plus (use_left w q keys) amount)) (quota_named w ns) true

-- the node can take placements of that size, and the quota allows them beside what is placed
abbrev pub accepts : Snapshot → World → List Key → Name → Resources → Resources → Node → Bool
accepts kept w keys name size placed node =
    is_feasible (constraints_of kept.job) name node
    && has_room w kept.pool name keys size node
    && allows w kept.namespace keys (plus placed size)

abbrev pub takes : Snapshot → World → List Key → Name → Resources → Resources → Bool
takes kept w keys name size placed =
    option_map_or (accepts kept w keys name size placed) (node_at w kept.pool name) false

-- ---- node by node

-- what is held so far: the keys of the victims, each once, and what is decided
pub record Read : Type 0 where
  pub keys : List Key
  pub placed : Resources
  pub committed : List ℕ
  pub dropped : List ℕ

abbrev pub nothing_read : Read
nothing_read = record { keys = []; placed = none; committed = []; dropped = [] }

abbrev pub with_victims : Snapshot → World → List Key → List Placement → List Key
with_victims kept w keys part = once (keys ++ map victim_key (victims_of w kept part))

abbrev pub read_one : Snapshot → List Placement → World → Read → ℕ → Read
read_one kept placements w r k =
    let part = part_of k placements in
    let keys = with_victims kept w r.keys part in
    if takes kept w keys (node_name kept k) (size_of part) r.placed
    then record {
      keys = keys;
      placed = plus r.placed (size_of part);
      committed = r.committed ++ k ∷ [];
      dropped = r.dropped;
    }
    else record r { dropped = r.dropped ++ k ∷ [] }

abbrev pub read_all : Snapshot → List Placement → World → List ℕ → Read
read_all kept placements w nodes = fold (read_one kept placements w) nothing_read nodes

-- ---- without a list of victims

-- what is left of the quota's use; zero if there is no quota
abbrev pub quota_left : World → Option Name → List Key → Resources
quota_left w None keys = none
quota_left w (Some quota) keys = use_left w quota keys

-- what is left of a node's load and of the quota's use without the allocations at these keys, each counted once
abbrev pub left_without : World → Name → Name → Option Name → List Key → Left
left_without w pool node quota keys = record {
  load = load_left w pool node (once keys);
  used = quota_left w quota (once keys);
}

-- what is left with one more allocation of that size gone, which counts for the quota or not
abbrev pub with_gone : Left → Resources → Bool → Left
with_gone left size shared = record {
  load = minus left.load size;
  used = if shared then minus left.used size else left.used;
}

abbrev pub evictions_of : List Placement → List Eviction
evictions_of placements = flat_map (λ p. p.evictions) placements

-- the keys of those evictions that count on the node
abbrev pub counted_keys : World → Name → Name → List Eviction → List Key
counted_keys w pool node evictions = keys_of (filter (counts w pool node) evictions)

abbrev pub same_eviction : Eviction → Eviction → Bool
same_eviction a b = same_key (victim_key a) (victim_key b) && same_number a.priority b.priority

-- whether the allocation at the key is live on the node
abbrev pub is_on : World → Name → Name → Key → Bool
is_on w pool node key = option_map_or (is_live_on pool node) (allocation_at w key) false

-- none of the keys is of an allocation that is live on the node
abbrev pub AreElsewhere : World → Name → Name → List Key → Type 0
AreElsewhere w pool node keys = (key : Key) → is_on w pool node key ≡ true → has_key keys key ≡ false

-- what is left without the allocations at these keys and those of the evictions that count
abbrev pub left_by : World → Name → Name → Option Name → List Key → List Eviction → Left
left_by w pool node quota keys evictions =
    left_without w pool node quota (keys ++ counted_keys w pool node evictions)

-- if `old` is left by the evictions `seen`, then `new` is left by `seen` and `more`, whatever was evicted on other
-- nodes
abbrev pub Leaves : World → Name → Name → Option Name → List Eviction → Left → List Eviction → Left → Type 0
Leaves w pool node quota seen old more new = (keys : List Key) → AreElsewhere w pool node keys →
    old ≡ left_by w pool node quota keys seen → new ≡ left_by w pool node quota keys (seen ++ more)

-- ---- the node's test, by what is left

abbrev pub accepts_left : Snapshot → World → Option Name → Name → Left → Resources → Resources → Node → Bool
accepts_left kept w quota name left size placed node =
    is_feasible (constraints_of kept.job) name node
    && is_within (plus left.load size) node.offer.capacity
    && option_map_or (λ q. limits_allow (limits_of w q) (plus left.used (plus placed size))) quota true

abbrev pub takes_left : Snapshot → World → Option Name → Name → Left → Resources → Resources → Bool
takes_left kept w quota name left size placed =
    option_map_or (accepts_left kept w quota name left size placed) (node_at w kept.pool name) false

-- ---- what is decided

-- what the program holds so far is what is decided: what is left of the quota's use, what is placed, and both lists
pub record IsSoFar (w : World) (quota : Option Name) (so_far : SoFar) (r : Read) : Type 0 where
  pub used_is : so_far.used ≡ quota_left w quota (once r.keys)
  pub placed_is : so_far.placed ≡ amount_of r.placed
  pub committed_is : so_far.committed.items ≡ r.committed
  pub dropped_is : so_far.dropped.items ≡ r.dropped

-- nothing is decided yet
pub record IsUndecided (so_far : SoFar) : Type 0 where
  pub placed_is : so_far.placed ≡ amount_of none
  pub committed_is : so_far.committed.items ≡ []
  pub dropped_is : so_far.dropped.items ≡ []

-- `new` is `old` with node k decided, if none of the victims so far is on that node
abbrev pub Decides : Snapshot → List Placement → World → Option Name → ℕ → SoFar → SoFar → Type 0
Decides kept placements w quota k old new = (r : Read) → IsSoFar w quota old r →
    AreElsewhere w kept.pool (node_name kept k) r.keys → IsSoFar w quota new (read_one kept placements w r k)

-- both lists are those that are decided: the nodes that do their part, and those that do not
pub record IsDecided (committed dropped : List ℕ) (r : Read) : Type 0 where
  pub committed_is : committed ≡ r.committed
  pub dropped_is : dropped ≡ r.dropped
