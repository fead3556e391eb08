-- The indexes and events that changed rows get at the end of a step, found from the change alone.
use Rattle.std.specs.Prelude.{ℕ, ◌+◌, Bool, true, ◌||◌, if◌then◌else◌, List, ◌++◌, Option, option_map, filter, map}
use Rattle.std.specs.Option.{option_map_or}
use Rattle.std.specs.List.{list_any}
use Rattle.std.specs.Ordering.{nat_cmp}
use Rattle.std.specs.FinMap.{FinMap, get, entries}
use Rattle.keyed.specs.Table.{at_slot}
use Rattle.ns_types.specs.declared.event.Event.{Event}
use Rattle.ns_types.specs.declared.event.Topic.{Topic}
use Rattle.ns_types.specs.declared.job.Job.{Job}
use Rattle.ns_types.specs.State.Names.{Name}
use Rattle.ns_types.specs.State.Rows.{Tenant}
use Rattle.ns_types.specs.Settling.Settle.{changes_evaluation, changes_allocation, created_at}
use Rattle.ns_types.specs.Settling.Settle.{stamped_allocation, stamped_evaluation}
use Rattle.ns_types.specs.State.Tables.{map_rows}
use Rattle.ns_change.specs.declared.change.TenantChange.{TenantChange}
use Rattle.ns_change.specs.Changed.{changed_tenant}
use Rattle.ns_change.specs.Settled.{publish}
use Rattle.ns_release.specs.Shown.{Kind, changes_job_row, changes_row}

-- ---- rows by number: evaluations and allocations

module _ {X : Type 0} (kind : Kind X) where
  abbrev pub topic_at : ℕ × Option X → Topic
  topic_at slot = kind.topic slot.0

  -- the index at which the row was made
  abbrev pub made_at : ℕ → FinMap nat_cmp X → ℕ → ℕ
  made_at index before n = created_at index (get before n) kind.made

  -- a changed row gets the index
  abbrev pub stamped_row : ℕ → FinMap nat_cmp X → ℕ → X → X
  stamped_row index before n row =
      if changes_row kind before n row then kind.marked (made_at index before n) index row else row

  abbrev pub stamped_slot : ℕ → FinMap nat_cmp X → ℕ → Option X → Option X
  stamped_slot index before n row = option_map (stamped_row index before n) row

-- an event of each slot that changes
abbrev pub events_for : {A : Type 0} → ℕ → (A → Topic) → (A → Bool) → List A → List Event
events_for index topic changes slots = map (λ slot. record { index = index; topic = topic slot }) (filter changes slots)

-- ---- a namespace

abbrev pub touches : Tenant → TenantChange → Bool
touches t x = list_any (λ e. changes_job_row t e.0 e.1) (entries x.jobs)
    || list_any (at_slot (λ e. changes_evaluation t e.0 e.1)) (entries x.evaluations)
    || list_any (at_slot (λ e. changes_allocation t e.0 e.1)) (entries x.allocations)

abbrev pub row_topic : Name → Option Job → Topic
row_topic id row = if option_map_or (λ job. job.stop) row true then Topic.JobDeregistered id else Topic.JobRegistered id

abbrev pub job_topic : Name × Option Job → Topic
job_topic slot = row_topic slot.0 slot.1

abbrev pub changed_topics : Tenant → TenantChange → List Topic
changed_topics t x = map (λ e. row_topic e.0 e.1) (filter (λ e. changes_job_row t e.0 e.1) (entries x.jobs))
    ++ map (λ e. Topic.EvaluationUpdated e.0)
    (filter (at_slot (λ e. changes_evaluation t e.0 e.1)) (entries x.evaluations))
    ++ map (λ e. Topic.AllocationUpdated e.0)
    (filter (at_slot (λ e. changes_allocation t e.0 e.1)) (entries x.allocations))

abbrev pub events_at : ℕ → Tenant → TenantChange → List Event
events_at index t x = map (λ topic. record { index = index; topic = topic }) (changed_topics t x)

abbrev pub changed_events : Tenant → TenantChange → List Event
changed_events t x = events_at (t.index + 1) t x

-- the changed rows with that index
abbrev pub stamp_change : ℕ → Tenant → TenantChange → TenantChange
stamp_change index t x = record x {
  evaluations = map_rows (λ n row. option_map (stamped_evaluation index t n) row) x.evaluations;
  allocations = map_rows (λ n row. option_map (stamped_allocation index t n) row) x.allocations;
}

abbrev pub stamped_rows : Tenant → TenantChange → TenantChange
stamped_rows t x = stamp_change (t.index + 1) t x

unfoldable pub stamped_tenant : Tenant → TenantChange → Tenant
stamped_tenant t x = if touches t x then publish (changed_tenant t (stamped_rows t x)) (changed_events t x)
    else changed_tenant t x
