-- The choice of victims where no node has room.
-- Nomad's page "Preemption".
use Rattle.std.specs.Prelude.{ℕ, ◌-◌, ◌==◌, max, Bool, List, [], Option, None, if◌then◌else◌, filter, fold, length}
use Rattle.std.specs.Prelude.{reverse, unwrap_or, is_some}
use Rattle.std.specs.Cmp.Lexicographic.{slice_cmp}
use Rattle.std.specs.List.{flat_map, range_with_len}
use Rattle.std.specs.Ordering.{is_lt, nat_cmp, on, then_cmp}
use Rattle.std.specs.declared.cmp.Ordering.{Ordering}
use Rattle.ns_types.specs.declared.snapshot.LiveAllocation.{LiveAllocation}
use Rattle.ns_types.specs.declared.resources.Resources.{Resources}
use Rattle.ns_types.specs.Placing.Choice.{best, shortest_prefix}
use Rattle.ns_types.specs.Placing.Placement.{Candidate}
use Rattle.ns_types.specs.State.Resources.{plus, is_within, total}

-- the allocations of a node whose priority is lower by 10 or more: lowest priority first, then the last placed first
abbrev pub evictable : ℕ → List LiveAllocation → List LiveAllocation
evictable priority live = flat_map (λ p. filter (λ a. a.priority == p) (reverse live)) (range_with_len 0 (priority - 9))

-- there is room for the size once these victims are gone
abbrev pub makes_room : Resources → Candidate → List LiveAllocation → Bool
makes_room size c victims = is_within size (plus c.left (total (λ a. a.size) victims))

-- the first of the evictable allocations, as few as make room; none if they can't, or if the node is not feasible
abbrev pub victims : Resources → Candidate → Option (List LiveAllocation)
victims size c = if c.feasible then shortest_prefix (makes_room size c) c.evictable else None

abbrev pub highest_priority : List LiveAllocation → ℕ
highest_priority xs = fold (λ m a. max m a.priority) 0 xs

-- nodes are compared by the highest priority of a victim, then by the number of victims, then by name
abbrev pub compare_victims : Resources → Candidate → Candidate → Ordering
compare_victims size =
    let lost = λ (c : Candidate). unwrap_or (victims size c) [] in
    then_cmp (on (λ c. highest_priority (lost c)) nat_cmp)
    (then_cmp (on (λ c. length (lost c)) nat_cmp) (on (λ c. c.name) (slice_cmp nat_cmp)))

abbrev pub cheaper : Resources → Candidate → Candidate → Bool
cheaper size a b = is_lt (compare_victims size a b)

-- the place of the node whose victims are cheapest
abbrev pub best_victims : Resources → List Candidate → Option ℕ
best_victims size = best (λ c. is_some (victims size c)) (cheaper size)
