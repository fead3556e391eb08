-- A node goes down: each job that loses an allocation gets an evaluation, unless a counter passes its bound by that.
use Rattle.std.specs.Prelude.{◌≡◌, ℕ, ◌+◌, Bool, false, ◌&&◌, ◌||◌, not, List, [], ◌∷◌, Option, Some, None, filter}
use Rattle.std.specs.Prelude.{flat_map, fold, length, map, nat_lt, if◌then◌else◌}
use Rattle.std.specs.List.{list_any}
use Rattle.std.specs.Option.{option_map_or}
use Rattle.std.specs.FinMap.{empty, entries, from_entries, get, insert, values}
use Rattle.keyed.specs.Table.{has_slot, row_list, with_slot}
use Rattle.ns_types.specs.declared.allocation.Allocation.{Allocation}
use Rattle.ns_types.specs.declared.allocation.ClientStatus.TheVariants as ClientStatus
use Rattle.ns_types.specs.Asking.Nodes.{losing_jobs}
use Rattle.ns_types.specs.State.Names.{Name, Key, ByName, ByNumber, has_key, name_cmp, same_name}
use Rattle.ns_types.specs.State.Rows.{World, Tenant, is_live_on}
use Rattle.ns_types.specs.State.Tables.{any_row}
use Rattle.ns_types.specs.Steps.{greatest}
use Rattle.ns_counters.specs.Bounds.{is_at_bound}
use Rattle.ns_counters.specs.Given.{left_quota_passes}

-- ---- which counters pass their bounds

-- the number of the last evaluation that the namespace would make passes its bound
abbrev pub numbers_pass_in : Name → Name → Tenant → Bool
numbers_pass_in pool node t = nat_lt greatest (t.evaluation_number + length (losing_jobs pool node t))

abbrev pub numbers_pass : Name → Name → World → Bool
numbers_pass pool node w = any_row (λ _ t. numbers_pass_in pool node t) w.tenants

-- some allocation of the namespace is live on the node
abbrev pub loses : Name → Name → Tenant → Bool
loses pool node t = any_row (λ _ a. is_live_on pool node a) t.allocations

-- a counter passes its bound by the namespace's loss: its index, the number of an evaluation, or one that its quota's release
-- raises
abbrev pub loss_passes_in : World → Name → Name → Tenant → Bool
loss_passes_in w pool node t = is_at_bound t.index || numbers_pass_in pool node t || left_quota_passes w t

abbrev pub loss_passes : World → Name → Name → Bool
loss_passes w pool node = any_row (λ _ t. loses pool node t && loss_passes_in w pool node t) w.tenants

-- ---- the losing jobs

-- for each losing job its live allocation on the node with the least number, and that number, by job id
abbrev pub losing_rows : Name → Name → Tenant → List (ℕ × Allocation)
losing_rows pool node t = values (from_entries {R = name_cmp}
    (map (λ a. (a.1.job, a)) (filter (λ a. is_live_on pool node a.1) (entries t.allocations))))

abbrev pub losing_keys_in : Name → Name → Name → Tenant → List Key
losing_keys_in pool node ns t = map (λ a. (ns, a.0)) (losing_rows pool node t)

-- the keys of the losing jobs' least allocations, by namespace, then job id
abbrev pub losing_keys : Name → Name → World → List Key
losing_keys pool node w = flat_map (λ e. losing_keys_in pool node e.0 e.1) (entries w.tenants)

-- ---- slot by slot

-- the slot has an allocation of the job that is live on the node
abbrev pub is_losing : Name → Name → Name → ℕ × Option Allocation → Bool
is_losing pool node job (n, None) = false
is_losing pool node job (n, Some a) = same_name job a.job && is_live_on pool node a

-- the slot has an allocation that is live on the node, and no later one that is live there is of its job
abbrev pub is_last_of_job : Name → Name → ℕ × Option Allocation → List (ℕ × Option Allocation) → Bool
is_last_of_job pool node (n, None) later = false
is_last_of_job pool node (n, Some a) later =
    is_live_on pool node a && not (list_any (is_losing pool node a.job) later)

-- the slot's number is put under its job, if its allocation is live on the node and the job has no number yet
abbrev pub with_losing : Name → Name → ByName (Option ℕ) → ℕ × Option Allocation → ByName (Option ℕ)
with_losing pool node m (n, None) = m
with_losing pool node m (n, Some a) =
    if is_live_on pool node a && not (has_slot m a.job) then insert (with_slot m a.job) a.job (Some n) else m

-- the key of the number that a job has; a vacant slot has no key
abbrev pub key_at : Name → Name × Option ℕ → List Key
key_at ns (job, None) = []
key_at ns (job, Some n) = (ns, n) ∷ []

-- ---- by the index of live allocations

-- the allocation at a number
abbrev pub looked : Tenant → ℕ × Option Unit → ℕ × Option Allocation
looked t slot = (slot.0, get t.allocations slot.0)

-- the allocation at the number is live on the node
abbrev pub is_live_at : Name → Name → Tenant → ℕ × Option Unit → Bool
is_live_at pool node t slot = option_map_or (is_live_on pool node) (get t.allocations slot.0) false

-- an allocation of each losing job among the allocations at these numbers
abbrev pub losing_jobs_at : Name → Name → Tenant → List (ℕ × Option Unit) → List Allocation
losing_jobs_at pool node t slots = values (from_entries {R = name_cmp}
    (map (λ a. (a.1.job, a.1)) (filter (λ a. is_live_on pool node a.1) (row_list (map (looked t) slots)))))

abbrev pub numbers_pass_at : Name → Name → Tenant → List (ℕ × Option Unit) → Bool
numbers_pass_at pool node t slots = nat_lt greatest (t.evaluation_number + length (losing_jobs_at pool node t slots))

-- a counter passes its bound by the namespace's loss, given the numbers of its live allocations on the node
abbrev pub tenant_passes_at : World → Name → Name → Tenant → List (ℕ × Option Unit) → Bool
tenant_passes_at w pool node t slots = list_any (is_live_at pool node t) slots
    && (is_at_bound t.index || numbers_pass_at pool node t slots || left_quota_passes w t)

-- a counter passes its bound by the loss of a namespace, given the slot that has its numbers
abbrev pub loss_passes_at : World → Name → Name → Name × Option (ByNumber (Option Unit)) → Bool
loss_passes_at w pool node (ns, None) = false
loss_passes_at w pool node (ns, Some numbers) =
    option_map_or (λ t. tenant_passes_at w pool node t (entries numbers)) (get w.tenants ns) false

-- ---- the lists of keys, by the index of live allocations

-- the keys of the losing jobs among the allocations at these numbers
abbrev pub job_keys_at : Name → Name → Name → Tenant → List (ℕ × Option Unit) → List Key
job_keys_at pool node ns t slots =
    flat_map (key_at ns) (entries (fold (with_losing pool node) empty (map (looked t) slots)))

abbrev pub losing_keys_at : World → Name → Name → Name × Option (ByNumber (Option Unit)) → List Key
losing_keys_at w pool node (ns, None) = []
losing_keys_at w pool node (ns, Some numbers) =
    option_map_or (λ t. job_keys_at pool node ns t (entries numbers)) (get w.tenants ns) []

-- the key of a number; a vacant slot has no key
abbrev pub slot_key : Name → ℕ × Option Unit → List Key
slot_key ns (n, None) = []
slot_key ns (n, Some key) = (ns, n) ∷ []

abbrev pub slot_keys : Name × Option (ByNumber (Option Unit)) → List Key
slot_keys (ns, None) = []
slot_keys (ns, Some numbers) = flat_map (slot_key ns) (entries numbers)

-- ---- the allocations that are lost

-- keys of a node's live allocations, all of them and no others
abbrev pub IsLiveSet : World → Name → Name → List Key → Type 0
IsLiveSet w pool node keys = (ns : Name) (t : Tenant) (n : ℕ) (a : Allocation) → get w.tenants ns ≡ Some t →
    get t.allocations n ≡ Some a → has_key keys (ns, n) ≡ is_live_on pool node a

abbrev pub lost_row : Allocation → Allocation
lost_row a = record a { client = ClientStatus.Lost }
