-- What an Apply does of a plan that stands, by the state before it. Here t is the snapshot's namespace.
use Rattle.std.specs.Prelude.{◌≡◌, ◌≤◌, ◌<◌, ℕ, ◌+◌, ◌⊎◌, if◌then◌else◌, List, [], ◌++◌, Option, Some, None}
use Rattle.std.specs.Prelude.{filter, length}
use Rattle.ns_types.specs.declared.allocation.Allocation.{Allocation}
use Rattle.ns_types.specs.declared.allocation.DesiredStatus.TheVariants as DesiredStatus
use Rattle.ns_types.specs.declared.evaluation.Evaluation.{Evaluation}
use Rattle.ns_types.specs.declared.event.Event.{Event}
use Rattle.ns_types.specs.declared.job.Job.{Job}
use Rattle.ns_types.specs.declared.plan.Placement.{Placement}
use Rattle.ns_types.specs.declared.plan.Plan.{Plan}
use Rattle.ns_types.specs.declared.records.Namespace.{Namespace}
use Rattle.ns_types.specs.declared.snapshot.Snapshot.{Snapshot}
use Rattle.ns_types.specs.Settling.Making.{change_tenant}
use Rattle.ns_types.specs.State.Lists.{first_each}
use Rattle.ns_types.specs.State.Names.{ByName, ByNumber, Key, Name, has_key, same_name}
use Rattle.ns_types.specs.State.Rows.{PoolRows, Tenant, World}
use Rattle.ns_types.specs.State.Tables.{map_rows}
use Rattle.ns_types.specs.Working.Commit.{Applied, Victim, applied_worker, done, evicted_rows, same_victim_job}
use Rattle.ns_types.specs.Working.Parts.{placed_on, stopped}
use Rattle.ns_types.specs.Working.Work.{with_worker, without_key}
use Rattle.ns_types.specs.Working.Worker.{Worker}
use Rattle.ns_applier.specs.HeadroomApplying.{places_on}
use Rattle.ns_applier.specs.Raising.{with_places}
use Rattle.ns_plan.specs.After.{stop_keys}

-- a plan that places something is for a job
abbrev pub IsForJob : Snapshot → Plan → Type 0
IsForJob kept p = kept.job ≡ None → p.placing.placements ≡ []

-- ---- what is done

-- the allocations that are stopped, and those that are evicted
abbrev pub stops : Snapshot → Plan → World → Tenant → List Key
stops kept p w t = stop_keys kept.namespace (done kept p w t).checked.stops

abbrev pub victims : Snapshot → Plan → World → Tenant → List Key
victims kept p w t = (done kept p w t).checked.victims

abbrev pub ended : Snapshot → Plan → World → Tenant → List Key
ended kept p w t = stops kept p w t ++ victims kept p w t

-- the placements on committed nodes, in the order of the plan
abbrev pub placed : Snapshot → Plan → World → Tenant → List Placement
placed kept p w t = placed_on (done kept p w t).checked.committed p.placing.placements

-- the victims with their rows, and the first victim of each job
abbrev pub evicted : Snapshot → Plan → World → Tenant → List Victim
evicted kept p w t = evicted_rows (stopped kept p w t) kept (placed kept p w t)

abbrev pub losers : Snapshot → Plan → World → Tenant → List Victim
losers kept p w t = first_each same_victim_job (evicted kept p w t)

abbrev pub losers_in : Snapshot → Plan → World → Tenant → Name → List Victim
losers_in kept p w t ns = filter (λ v. same_name ns v.0) (losers kept p w t)

-- ---- rows

-- the number is none of the `count` numbers after `last`
abbrev pub IsOutside : ℕ → ℕ → ℕ → Type 0
IsOutside last count n = (n ≤ last) ⊎ (last + count < n)

-- the namespace exists, and the number is one of the `count` numbers after its last evaluation
abbrev pub IsNew : ℕ → Option Tenant → ℕ → Type 0
IsNew count found n = (u : Tenant) × (found ≡ Some u) × (u.evaluation_number < n) × (n ≤ u.evaluation_number + count)

-- how many allocations a namespace gets
abbrev pub placed_in : Snapshot → Plan → World → Tenant → Name → ℕ
placed_in kept p w t ns = if same_name ns kept.namespace then length (placed kept p w t) else 0

-- the row of an allocation that was there, after the Apply
abbrev pub left_row : List Key → List Key → Key → Allocation → Allocation
left_row stops victims key a =
    if has_key victims key then record a { desired = DesiredStatus.Evict }
    else if has_key stops key then record a { desired = DesiredStatus.Stop }
    else a

-- ---- nodes

-- each node has counted the placements on it
abbrev pub counted_rows : Snapshot → List Placement → Name → PoolRows → PoolRows
counted_rows kept placements pool rows =
    record rows { nodes = map_rows (λ name node. with_places (places_on kept placements pool name) node) rows.nodes }

-- ---- namespaces

-- a namespace without its evaluations, its allocations and its last numbers
pub record Standing : Type 0 where
  pub namespace : Namespace
  pub index : ℕ
  pub jobs : ByName Job
  pub workers : ByNumber Worker
  pub events : List Event

abbrev pub standing : Tenant → Standing
standing t = record { namespace = t.namespace; index = t.index; jobs = t.jobs; workers = t.workers; events = t.events }

-- ---- the worker

-- the state after the step, with the worker's new row, and without its plan in the list
abbrev pub applied_world : ℕ → Name → Worker → Evaluation → Applied → World
applied_world number ns worker e a =
    record (change_tenant ns (with_worker number (applied_worker a worker e)) a.world)
    { plans = without_key (ns, worker.evaluation) a.world.plans }
