-- What every step does at its end: blocked evaluations wake, releases are numbered,
-- changed rows get their namespace's next index, and each of them gives an event.
-- Nomad's page on the event stream HTTP API.
use Rattle.std.specs.Prelude.{ℕ, ◌+◌, Bool, true, not, ◌||◌, if◌then◌else◌, List, [], ◌∷◌, ◌++◌, Option, fold, filter}
use Rattle.std.specs.Prelude.{map}
use Rattle.std.specs.Option.{option_map_or}
use Rattle.std.specs.FinMap.{get, insert, entries, contains_key, keys, from_entries}
use Rattle.ns_types.specs.declared.allocation.Allocation.{Allocation}
use Rattle.ns_types.specs.declared.evaluation.Evaluation.{Evaluation}
use Rattle.ns_types.specs.declared.evaluation.Status.TheVariants as Status
use Rattle.ns_types.specs.declared.event.Event.{Event}
use Rattle.ns_types.specs.declared.event.Topic.{Topic}
use Rattle.ns_types.specs.declared.node.Class.{Class}
use Rattle.ns_types.specs.State.Lists.{last}
use Rattle.ns_types.specs.State.Names.{Name, Key, name_cmp, has_key}
use Rattle.ns_types.specs.Working.Queue.{queue}
use Rattle.ns_types.specs.Settling.Releases.{released_classes, releases_quota, woken}
use Rattle.ns_types.specs.State.Rows.{World, Tenant, PoolRows, QuotaRows}
use Rattle.ns_types.specs.Settling.Same.{same_job, same_evaluation, same_allocation}
use Rattle.ns_types.specs.State.Tables.{map_rows, any_row}

-- ---- wakes

abbrev pub pending : Evaluation → Evaluation
pending e = record e { status = Status.Pending }

abbrev pub woken_row : List Key → Name → ℕ → Evaluation → Evaluation
woken_row keys ns n e = if has_key keys (ns, n) then pending e else e

abbrev pub unblocked_in : List Key → Name → Tenant → Tenant
unblocked_in keys ns t = record t { evaluations = map_rows (woken_row keys ns) t.evaluations }

-- the woken evaluations leave `blocked` and become pending; each is ready, or waits for another of its job
unfoldable pub wake : List Key → World → World
wake keys w = fold queue (record w {
  tenants = map_rows (unblocked_in keys) w.tenants;
  blocked = filter (λ key. not (has_key keys key)) w.blocked;
}) keys

-- ---- release numbers

-- if classes of a pool are released, its release number goes up by one, and each of these classes gets that number
abbrev pub after_release : List Class → PoolRows → PoolRows
after_release [] pool = pool
after_release (class ∷ classes) pool = record pool {
  release = pool.release + 1;
  classes = fold (λ known c. insert known c (pool.release + 1)) pool.classes (class ∷ classes);
}

abbrev pub after_quota_release : Bool → QuotaRows → QuotaRows
after_quota_release released quota = if released then record quota { release = quota.release + 1 } else quota

unfoldable pub number_releases : World → World → World → World
number_releases w w' x = record x {
  pools = map_rows (λ name pool. after_release (released_classes w w' name pool) pool) x.pools;
  quotas = map_rows (λ name quota. after_quota_release (releases_quota w w' name quota) quota) x.quotas;
}

-- ---- changed rows

-- a row is changed if it is new, or not the same as before
abbrev pub is_changed : {X : Type 0} → (X → X → Bool) → Option X → X → Bool
is_changed same old x = option_map_or (λ y. not (same y x)) old true

-- a job is new, changed or gone
abbrev pub changes_job : Tenant → Tenant → Name → Bool
changes_job old t id = option_map_or (is_changed same_job (get old.jobs id)) (get t.jobs id) (contains_key old.jobs id)

abbrev pub changes_evaluation : Tenant → ℕ → Evaluation → Bool
changes_evaluation old n e = is_changed same_evaluation (get old.evaluations n) e

abbrev pub changes_allocation : Tenant → ℕ → Allocation → Bool
changes_allocation old n a = is_changed same_allocation (get old.allocations n) a

abbrev pub is_touched : Tenant → Tenant → Bool
is_touched old t = any_row (λ id _. changes_job old t id) t.jobs || any_row (λ id _. changes_job old t id) old.jobs
    || any_row (changes_evaluation old) t.evaluations || any_row (changes_allocation old) t.allocations

-- ---- events

-- a changed job was deregistered if it is stopped or gone after the step, and registered if not
abbrev pub job_topic : Tenant → Name → Topic
job_topic t id =
    if option_map_or (λ job. job.stop) (get t.jobs id) true then Topic.JobDeregistered id else Topic.JobRegistered id

-- the ids of the jobs that exist before or after the step
abbrev pub job_ids : Tenant → Tenant → List Name
job_ids old t = keys (from_entries {R = name_cmp} (entries old.jobs ++ entries t.jobs))

-- one topic for each changed row: jobs, then evaluations, then allocations, each in the order of their keys
abbrev pub topics_of : Tenant → Tenant → List Topic
topics_of old t =
    map (job_topic t) (filter (changes_job old t) (job_ids old t))
    ++ map (λ e. Topic.EvaluationUpdated e.0) (filter (λ e. changes_evaluation old e.0 e.1) (entries t.evaluations))
    ++ map (λ a. Topic.AllocationUpdated a.0) (filter (λ a. changes_allocation old a.0 a.1) (entries t.allocations))

abbrev pub events_of : ℕ → Tenant → Tenant → List Event
events_of index old t = map (λ topic. record { index = index; topic = topic }) (topics_of old t)

-- ---- indexes

-- a row's create index: the one that it had, or the step's index if the row is new
abbrev pub created_at : {X : Type 0} → ℕ → Option X → (X → ℕ) → ℕ
created_at index old created = option_map_or created old index

abbrev pub stamped_evaluation : ℕ → Tenant → ℕ → Evaluation → Evaluation
stamped_evaluation index old n e =
    if changes_evaluation old n e
    then record e {
      create_index = created_at index (get old.evaluations n) (λ o. o.create_index);
      modify_index = index;
    }
    else e

abbrev pub stamped_allocation : ℕ → Tenant → ℕ → Allocation → Allocation
stamped_allocation index old n a =
    if changes_allocation old n a
    then record a {
      create_index = created_at index (get old.allocations n) (λ o. o.create_index);
      modify_index = index;
    }
    else a

-- the changed rows get the index, and their events are added; a changed job has the index already
abbrev pub stamped : ℕ → Tenant → Tenant → Tenant
stamped index old t = record t {
  index = index;
  evaluations = map_rows (stamped_evaluation index old) t.evaluations;
  allocations = map_rows (stamped_allocation index old) t.allocations;
  events = last 100 (t.events ++ events_of index old t);
}

-- the namespace's index goes up by one if one of its rows changed
unfoldable pub stamp_tenant : Option Tenant → Tenant → Tenant
stamp_tenant old t = option_map_or (λ o. if is_touched o t then stamped (o.index + 1) o t else t) old t

unfoldable pub stamp : World → World → World
stamp w x = record x { tenants = map_rows (λ ns t. stamp_tenant (get w.tenants ns) t) x.tenants }

-- all that a step does after its own change, which led from w to w'
unfoldable pub settle : World → World → World
settle w w' = stamp w (number_releases w w' (wake (woken w w') w'))
