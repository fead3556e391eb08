-- The jobs that lose allocations by preemption.
use Rattle.std.specs.Prelude.{◌≡◌, ℕ, ◌+◌, ◌<◌, ◌^◌, Bool, false, not, ◌&&◌, List, [], ◌∷◌, Option, Some, None, filter, flat_map}
use Rattle.std.specs.Prelude.{length, map, nat_lt, option_map, unwrap_or}
use Rattle.std.specs.List.{filter_map, list_any}
use Rattle.std.specs.Option.{option_and_then, option_map_or, option_to_list}
use Rattle.std.specs.FinMap.{get}
use Rattle.keyed.specs.Table.{row_at}
use Rattle.ns_types.specs.declared.plan.Eviction.{Eviction}
use Rattle.ns_types.specs.State.Lists.{first_each}
use Rattle.ns_types.specs.State.Names.{ByName, Name, Key, same_name}
use Rattle.ns_types.specs.State.Rows.{World, Tenant}
use Rattle.ns_types.specs.State.Tables.{any_row}
use Rattle.ns_types.specs.Steps.{greatest}
use Rattle.ns_types.specs.Working.Commit.{Victim, same_victim_job, victim_at}
use Rattle.ns_change.specs.Waiting.{lesser}

-- the evictions' allocations with their rows, where they are there
abbrev pub victims_at : World → List Eviction → List Victim
victims_at w evictions = filter_map (victim_at w) evictions

-- the first victim of each job that loses an allocation, in the order of these victims
abbrev pub losing : List Victim → List Victim
losing victims = first_each same_victim_job victims

-- ---- the numbers of their evaluations

-- how many jobs of the namespace lose an allocation
abbrev pub losing_in : Name → List Victim → ℕ
losing_in ns victims = length (filter (λ v. same_name ns v.0) (losing victims))

-- the number of the last evaluation that the namespace would make passes its bound
abbrev pub numbers_pass_in : List Victim → Name → Tenant → Bool
numbers_pass_in victims ns t = nat_lt greatest (t.evaluation_number + losing_in ns victims)

abbrev pub numbers_pass : List Victim → World → Bool
numbers_pass victims w = any_row (numbers_pass_in victims) w.tenants

-- the namespace is there, and the number of the last evaluation that it would make passes its bound
abbrev pub numbers_pass_at : World → List Victim → Name → Bool
numbers_pass_at w victims ns = option_map_or (numbers_pass_in victims ns) (get w.tenants ns) false

-- the victim is the namespace's, and none of the later ones is of its job
abbrev pub is_last_of_job : Name → List Victim → Victim → Bool
is_last_of_job ns later v = same_name ns v.0 && not (list_any (same_victim_job v) later)

-- each namespace has the numbers for an evaluation of each of its jobs that lose an allocation
abbrev pub CanMakeUp : List Victim → World → Type 0
CanMakeUp victims x = (ns : Name) (t : Tenant) → get x.tenants ns ≡ Some t → t.evaluation_number + losing_in ns victims < 2 ^ 64

-- ---- the victim with the least number, for each job

abbrev pub is_of_job : Name → Name → Victim → Bool
is_of_job ns job v = same_name ns v.0 && same_name job v.1.1.job

abbrev pub least : List ℕ → Option ℕ
least [] = None
least (n ∷ ns) = lesser (Some n) (least ns)

-- the least number of the job's victims
abbrev pub least_of : List Victim → Name → Name → Option ℕ
least_of victims ns job = least (map (λ v. v.1.0) (filter (is_of_job ns job) victims))

-- the key of the least victim of this victim's job
abbrev pub least_key : List Victim → Victim → Key
least_key victims v = (v.0, unwrap_or (least_of victims v.0 v.1.1.job) v.1.0)

-- for each job that loses an allocation, the key of its least victim, in the order of the jobs' first victims
abbrev pub losing_keys : List Victim → List Key
losing_keys victims = map (least_key victims) (losing victims)

-- for each job that loses an allocation and has a number, the key of that number
abbrev pub keys_left : (Name → Name → Option ℕ) → List Victim → List Key
keys_left number victims = flat_map (λ v. option_to_list (option_map (λ n. (v.0, n)) (number v.0 v.1.1.job))) (losing victims)

-- the number that the job has in a table of a namespace's jobs, if there is such a table
abbrev pub job_number : Option (ByName (Option ℕ)) → Name → Option ℕ
job_number jobs job = option_and_then (λ jobs. row_at jobs job) jobs
