-- Laws of the choice of a node, and of the allocations that are evicted there.
use Rattle.std.specs.Prelude.{◌≡◌, ℕ, ◌+◌, ◌<◌, ◌≤◌, ◌==◌, List, ◌++◌, Some, None, filter, length, reverse, slice_get}
use Rattle.std.specs.Prelude.{take, IsTrue, IsFalse, [], ◌↔◌, ◌∷◌, sum_by}
use Rattle.std.specs.List.{AllPairs, list_any}
use Rattle.std.specs.declared.cmp.Ordering.TheVariants.{Less}
use Rattle.ns_types.specs.State.Resources.{InEach, Resource, quantity}
use Rattle.ns_types.specs.declared.resources.Resources.{Resources}
use Rattle.ns_types.specs.declared.snapshot.LiveAllocation.{LiveAllocation}
use Rattle.ns_types.specs.State.Lists.{Each}
use Rattle.ns_types.specs.State.Names.{name_cmp}
use Rattle.ns_types.specs.Placing.Placement.{Candidate, fits, best_fit}
use Rattle.ns_types.specs.Placing.Preemption.{evictable, makes_room, victims, highest_priority, best_victims}
use Rattle.ns_types.specs.Placing.Planning.{Choice, choice}

-- ---- what is compared

-- A node fits exactly where the job may use it and the size is at most what is left there, in each resource.
abbrev pub FitsWhereRoom : Type 0
FitsWhereRoom = (size : Resources) (node : Candidate)
    → IsTrue (fits size node) ↔ (IsTrue node.feasible × InEach (λ r. quantity r size ≤ quantity r node.left))

-- Some allocations of a node make room exactly where the size is at most what is left on the node and what they take
-- together, in each resource.
abbrev pub RoomIsMade : Type 0
RoomIsMade = (size : Resources) (node : Candidate) (gone : List LiveAllocation) → IsTrue (makes_room size node gone)
    ↔ InEach (λ r. quantity r size ≤ quantity r node.left + sum_by (λ a. quantity r a.size) gone)

-- The highest priority of some allocations is the priority of one of them, and none of them has a higher one.
abbrev pub HighestIsHighest : Type 0
HighestIsHighest = (first : LiveAllocation) (others : List LiveAllocation) →
    Each (λ a. a.priority ≤ highest_priority (first ∷ others)) (first ∷ others)
    × IsTrue (list_any (λ a. a.priority == highest_priority (first ∷ others)) (first ∷ others))

-- ---- a node with room

-- The first node has less left: less CPU; or as much CPU and less memory; or as much of both and less disk; or as much
-- of all three and a lesser name.
pub data HasLessLeft (a b : Candidate) : Type 0 where
  less_cpu : a.left.cpu < b.left.cpu → HasLessLeft a b
  less_memory : a.left.cpu ≡ b.left.cpu → a.left.memory < b.left.memory → HasLessLeft a b
  less_disk : a.left.cpu ≡ b.left.cpu → a.left.memory ≡ b.left.memory → a.left.disk < b.left.disk → HasLessLeft a b
  less_name : ((r : Resource) → quantity r a.left ≡ quantity r b.left) → name_cmp a.name b.name ≡ Less → HasLessLeft a b

-- the node at place k fits, and no node that fits has less left
pub record IsBestNode (size : Resources) (nodes : List Candidate) (k : ℕ) : Type 0 where
  pub node : Candidate
  pub there : slice_get nodes k ≡ Some node
  pub fitting : IsTrue (fits size node)
  pub least : Each (λ other. IsTrue (fits size other) → HasLessLeft other node → ⊥) nodes

-- The chosen node fits, and no node that fits has less left.
abbrev pub ChosenIsBest : Type 0
ChosenIsBest = (size : Resources) (nodes : List Candidate) (k : ℕ) → best_fit size nodes ≡ Some k →
    IsBestNode size nodes k

-- If no node is chosen for its room, no node fits.
abbrev pub NoneChosenOfNone : Type 0
NoneChosenOfNone = (size : Resources) (nodes : List Candidate) → best_fit size nodes ≡ None →
    Each (λ node. IsFalse (fits size node)) nodes

-- ---- the allocations that may be evicted

-- Each allocation that may be evicted has a priority that is lower than the given one, the job's, by 10 or more.
abbrev pub EvictableAreLower : Type 0
EvictableAreLower = (priority : ℕ) (live : List LiveAllocation) →
    Each (λ a. a.priority + 10 ≤ priority) (evictable priority live)

-- The allocations that may be evicted are in ascending order of priority.
abbrev pub EvictableInOrder : Type 0
EvictableInOrder = (priority : ℕ) (live : List LiveAllocation) →
    AllPairs (λ a b. a.priority ≤ b.priority) (evictable priority live)

-- At each priority that is lower than the job's by 10 or more, all of the node's live allocations may be evicted, the
-- one placed last first.
abbrev pub EvictableAreAll : Type 0
EvictableAreAll = (priority level : ℕ) (live : List LiveAllocation) → level + 10 ≤ priority
    → filter (λ a. a.priority == level) (evictable priority live) ≡ filter (λ a. a.priority == level) (reverse live)

-- ---- the allocations that are evicted

-- The job may use the node. The allocations are a prefix of those that may be evicted there, they make room, and no
-- shorter prefix does.
pub record AreVictims (size : Resources) (node : Candidate) (gone : List LiveAllocation) : Type 0 where
  pub feasible : IsTrue node.feasible
  pub others : List LiveAllocation
  pub first : node.evictable ≡ gone ++ others
  pub make_room : IsTrue (makes_room size node gone)
  pub fewest : (n : ℕ) → n < length gone → IsFalse (makes_room size node (take n node.evictable))

-- If a node has victims, they are the shortest prefix of the allocations that may be evicted there that makes room, and
-- the job may use the node.
abbrev pub VictimsAreFewest : Type 0
VictimsAreFewest = (size : Resources) (node : Candidate) (gone : List LiveAllocation) → victims size node ≡ Some gone →
    AreVictims size node gone

-- Conversely, if the job may use a node, the shortest prefix of the allocations that may be evicted there that makes
-- room is the node's victims.
abbrev pub FewestAreVictims : Type 0
FewestAreVictims = (size : Resources) (node : Candidate) (gone : List LiveAllocation) → AreVictims size node gone →
    victims size node ≡ Some gone

-- If a node that the job may use has no victims, no prefix of the allocations that may be evicted there makes room.
abbrev pub NoVictimsNoRoom : Type 0
NoVictimsNoRoom = (size : Resources) (node : Candidate) → victims size node ≡ None → IsTrue node.feasible
    → (n : ℕ) → IsFalse (makes_room size node (take n node.evictable))

-- The victims `lost` on node a cost less than the victims `gone` on node b: their highest priority is lower; or it is
-- the same and they are fewer; or their number is the same too and a has the lesser name.
pub data CostsLess (lost : List LiveAllocation) (a : Candidate) (gone : List LiveAllocation)
    (b : Candidate) : Type 0 where
  lower : highest_priority lost < highest_priority gone → CostsLess lost a gone b
  fewer : highest_priority lost ≡ highest_priority gone → length lost < length gone → CostsLess lost a gone b
  less_name : highest_priority lost ≡ highest_priority gone → length lost ≡ length gone →
      name_cmp a.name b.name ≡ Less → CostsLess lost a gone b

-- the node at place k has victims, and no other node's victims cost less
pub record IsCheapestNode (size : Resources) (nodes : List Candidate) (k : ℕ) : Type 0 where
  pub node : Candidate
  pub there : slice_get nodes k ≡ Some node
  pub gone : List LiveAllocation
  pub give_way : victims size node ≡ Some gone
  pub least : Each (λ other. (lost : List LiveAllocation) → victims size other ≡ Some lost →
      CostsLess lost other gone node → ⊥) nodes

-- The node that is chosen for its victims has victims, and no other node's victims cost less.
abbrev pub EvictedCostLeast : Type 0
EvictedCostLeast = (size : Resources) (nodes : List Candidate) (k : ℕ) → best_victims size nodes ≡ Some k →
    IsCheapestNode size nodes k

-- If no node is chosen for its victims, no node has victims.
abbrev pub NoneEvictedOfNone : Type 0
NoneEvictedOfNone = (size : Resources) (nodes : List Candidate) → best_victims size nodes ≡ None →
    Each (λ node. victims size node ≡ None) nodes

-- A choice is the best node with room, without victims; or, if no node has room, the node whose victims cost least,
-- with these victims.
pub data IsChoice (size : Resources) (nodes : List Candidate) : Choice → Type 0 where
  room : (k : ℕ) → IsBestNode size nodes k → IsChoice size nodes (record { node = k; victims = [] })
  preempted : (k : ℕ) (is : IsCheapestNode size nodes k) → Each (λ node. IsFalse (fits size node)) nodes →
      IsChoice size nodes (record { node = k; victims = is.gone })

abbrev pub RoomBeforeVictims : Type 0
RoomBeforeVictims = (size : Resources) (nodes : List Candidate) (chosen : Choice) → choice size nodes ≡ Some chosen →
    IsChoice size nodes chosen

-- If there is no choice, no node has room, and no node has victims.
abbrev pub NoChoiceOfNone : Type 0
NoChoiceOfNone = (size : Resources) (nodes : List Candidate) → choice size nodes ≡ None →
    Each (λ node. IsFalse (fits size node) × (victims size node ≡ None)) nodes
