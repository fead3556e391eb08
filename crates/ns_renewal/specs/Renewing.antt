-- Evaluations of the jobs of some allocations, one after the other.
use Rattle.std.specs.Prelude.{◌≡◌, ℕ, ◌+◌, ◌<◌, ◌^◌, List, Some, filter, length, option_map}
use Rattle.std.specs.Option.{option_map_or}
use Rattle.std.specs.FinMap.{get}
use Rattle.ns_types.specs.declared.evaluation.Trigger.{Trigger}
use Rattle.ns_types.specs.Settling.Making.{evaluation_for, make}
use Rattle.ns_types.specs.State.Names.{Name, Key, same_name}
use Rattle.ns_types.specs.State.Rows.{World, Tenant}

-- an evaluation is made in x for the job of the allocation at that key, from the job and the allocation as they are in w
abbrev pub renewed : Trigger → World → World → Key → World
renewed trigger w x key = option_map_or (λ t. option_map_or
    (λ a. make key.0 (λ _. evaluation_for t a trigger) x) (get t.allocations key.1) x) (get w.tenants key.0) x

-- how many of the keys are the namespace's
abbrev pub keys_in : Name → List Key → ℕ
keys_in ns keys = length (filter (λ key. same_name ns key.0) keys)

-- each namespace has the numbers for an evaluation of each of its keys
abbrev pub HasNumbers : World → List Key → Type 0
HasNumbers x keys = (ns : Name) (t : Tenant) → get x.tenants ns ≡ Some t → t.evaluation_number + keys_in ns keys < 2 ^ 64

-- the namespaces have the same jobs
abbrev pub SameJobs : World → World → Type 0
SameJobs w x = (ns : Name) → option_map (λ (t : Tenant). t.jobs) (get x.tenants ns)
    ≡ option_map (λ (t : Tenant). t.jobs) (get w.tenants ns)

-- the number of the last evaluation of each namespace is the same
abbrev pub SameNumbers : World → World → Type 0
SameNumbers w x = (ns : Name) → option_map (λ (t : Tenant). t.evaluation_number) (get x.tenants ns)
    ≡ option_map (λ (t : Tenant). t.evaluation_number) (get w.tenants ns)
