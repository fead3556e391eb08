-- What a plan places: the missing allocations one by one, each in the state that the ones before it leave.
-- Nomad's page "Scheduling in Nomad".
use Rattle.std.specs.Prelude.{ℕ, zero, suc, Bool, true, false, not, List, [], ◌∷◌, Option, Some, if◌then◌else◌, drop}
use Rattle.std.specs.Prelude.{filter, length, map, slice_get}
use Rattle.std.specs.List.{list_any}
use Rattle.std.specs.Option.{option_map, option_and_then, option_map_or}
use Rattle.std.specs.Str.{bytes_eq}
use Rattle.ns_types.specs.declared.snapshot.LiveAllocation.{LiveAllocation}
use Rattle.ns_types.specs.declared.plan.Demand.{Demand}
use Rattle.ns_types.specs.declared.plan.Eviction.{Eviction}
use Rattle.ns_types.specs.declared.plan.Placement.{Placement}
use Rattle.ns_types.specs.declared.plan.Placing.{Placing}
use Rattle.ns_types.specs.declared.resources.Resources.{Resources}
use Rattle.ns_types.specs.declared.snapshot.QuotaSeen.{QuotaSeen}
use Rattle.ns_types.specs.Placing.Placement.{Candidate, best_fit}
use Rattle.ns_types.specs.Placing.Preemption.{victims, best_victims}
use Rattle.ns_types.specs.State.Resources.{plus, minus, total, limits_allow}

-- what changes while a plan is made: the nodes, and the quota's use
pub record Site : Type 0 where
  pub candidates : List Candidate
  pub used : Resources

-- the node of a placement, and the allocations that it evicts there
pub record Choice : Type 0 where
  pub node : ℕ
  pub victims : List LiveAllocation

-- the node whose victims are cheapest, with these victims
abbrev pub preempt : Resources → List Candidate → Option Choice
preempt size cs =
    option_and_then (λ k. option_map (λ v. record { node = k; victims = v })
    (option_and_then (victims size) (slice_get cs k))) (best_victims size cs)

-- the best node with room, else the node whose victims are cheapest
abbrev pub choice : Resources → List Candidate → Option Choice
choice size cs = option_map_or (λ k. Some (record { node = k; victims = [] })) (best_fit size cs) (preempt size cs)

-- the allocation counts for the quota: its namespace names it
abbrev pub counts_for : QuotaSeen → LiveAllocation → Bool
counts_for q a = list_any (λ n. bytes_eq n a.namespace) q.namespaces

-- the node once the victims are gone and the size is taken
abbrev pub placed_on : Resources → List LiveAllocation → Candidate → Candidate
placed_on size gone c =
    record c { left = minus (plus c.left (total (λ a. a.size) gone)) size; evictable = drop (length gone) c.evictable }

-- xs with the element at i changed by f
abbrev pub update : {X : Type 0} → ℕ → (X → X) → List X → List X
update i f [] = []
update zero f (x ∷ xs) = f x ∷ xs
update (suc i) f (x ∷ xs) = x ∷ update i f xs

abbrev pub after : QuotaSeen → Resources → Choice → Site → Site
after q size ch w = record {
  candidates = update ch.node (placed_on size ch.victims) w.candidates;
  used = minus (plus w.used size) (total (λ a. a.size) (filter (counts_for q) ch.victims));
}

abbrev pub eviction_of : LiveAllocation → Eviction
eviction_of a = record { namespace = a.namespace; number = a.number; priority = a.priority }

abbrev pub placement_of : Demand → Choice → Placement
placement_of d ch = record { group = d.group; node = ch.node; size = d.size; evictions = map eviction_of ch.victims }

abbrev pub ended_by_quota : Placing
ended_by_quota = record { placements = []; quota_limited = true; class_limited = false }

abbrev pub all_placed : Placing
all_placed = record { placements = []; quota_limited = false; class_limited = false }

-- one more placement, before the rest
abbrev pub then_rest : Placement → Placing → Placing
then_rest p rest = record rest { placements = p ∷ rest.placements }

-- a missing allocation is left out; if the quota ended placing, the plan names the quota alone as the limit
abbrev pub without_one : Placing → Placing
without_one rest = record rest { class_limited = not rest.quota_limited }

-- the placement of one missing allocation, and what it leaves; none if no node can take it
abbrev pub placed_one : QuotaSeen → Demand → Site → Option (Placement × Site)
placed_one q d w = option_map (λ ch. (placement_of d ch, after q d.size ch w)) (choice d.size w.candidates)

-- for each missing allocation the quota is checked first, and ends placing if it does not allow it; then a node is chosen. If
-- no node can take it, it is left out, and the next one follows
abbrev pub place : QuotaSeen → List Demand → Site → Placing
place q [] w = all_placed
place q (d ∷ ds) w =
    if limits_allow q.limits (plus w.used d.size) then
    option_map_or (λ s. then_rest s.0 (place q ds s.1)) (placed_one q d w) (without_one (place q ds w))
    else ended_by_quota
