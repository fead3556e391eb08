-- Which changed rows replies show differently than before.
use Rattle.std.specs.Prelude.{ℕ, Bool, Option}
use Rattle.std.specs.Option.{option_map_or}
use Rattle.std.specs.Ordering.{nat_cmp}
use Rattle.std.specs.FinMap.{FinMap, get, contains_key}
use Rattle.keyed.specs.Table.{at_slot}
use Rattle.ns_types.specs.declared.allocation.Allocation.{Allocation}
use Rattle.ns_types.specs.declared.evaluation.Evaluation.{Evaluation}
use Rattle.ns_types.specs.declared.event.Topic.{Topic}
use Rattle.ns_types.specs.declared.job.Job.{Job}
use Rattle.ns_types.specs.State.Names.{Name}
use Rattle.ns_types.specs.State.Rows.{Tenant}
use Rattle.ns_types.specs.Settling.Same.{same_allocation, same_evaluation, same_job}
use Rattle.ns_types.specs.Settling.Settle.{is_changed}

-- ---- rows by number: evaluations and allocations

-- how replies show a kind of row: when two rows look alike, a row's creation index, the row with both indexes set, its event's
-- topic
pub record Kind (X : Type 0) : Type 0 where
  pub same : X → X → Bool
  pub made : X → ℕ
  pub marked : ℕ → ℕ → X → X
  pub topic : ℕ → Topic

abbrev pub evaluations_shown : Kind Evaluation
evaluations_shown = record {
  same = same_evaluation;
  made = λ e. e.create_index;
  marked = λ made index e. record e { create_index = made; modify_index = index };
  topic = Topic.EvaluationUpdated;
}

abbrev pub allocations_shown : Kind Allocation
allocations_shown = record {
  same = same_allocation;
  made = λ a. a.create_index;
  marked = λ made index a. record a { create_index = made; modify_index = index };
  topic = Topic.AllocationUpdated;
}

module _ {X : Type 0} (kind : Kind X) where
  -- a row is new, or replies show it differently than before
  abbrev pub changes_row : FinMap nat_cmp X → ℕ → X → Bool
  changes_row before n row = is_changed kind.same (get before n) row

  abbrev pub changes_slot : FinMap nat_cmp X → ℕ × Option X → Bool
  changes_slot before slot = at_slot (λ e. changes_row before e.0 e.1) slot

-- ---- jobs

-- a job's row is new, shown differently, or removed
abbrev pub changes_job_row : Tenant → Name → Option Job → Bool
changes_job_row t id row = option_map_or (is_changed same_job (get t.jobs id)) row (contains_key t.jobs id)

abbrev pub changes_job_slot : Tenant → Name × Option Job → Bool
changes_job_slot t slot = changes_job_row t slot.0 slot.1
