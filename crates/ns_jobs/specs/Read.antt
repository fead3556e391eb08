-- The replies to reads in a namespace.
use Rattle.std.specs.Prelude.{◌≡◌, ℕ, Bool, true, false, List, Option, Some, Result, filter, map}
use Rattle.keyed.specs.Table.{row_list}
use Rattle.ns_types.specs.declared.allocation.Allocation.{Allocation}
use Rattle.ns_types.specs.declared.evaluation.Evaluation.{Evaluation}
use Rattle.ns_types.specs.declared.id.IdKind.TheVariants as IdKind
use Rattle.ns_types.specs.declared.job.Job.{Job}
use Rattle.ns_types.specs.declared.refusal.Refusal.{Refusal}
use Rattle.ns_types.specs.declared.reply.AllocationShown.{AllocationShown}
use Rattle.ns_types.specs.declared.reply.Content.{Content}
use Rattle.ns_types.specs.declared.reply.EvaluationShown.{EvaluationShown}
use Rattle.ns_types.specs.declared.reply.JobShown.{JobShown}
use Rattle.ns_types.specs.declared.step.AskCommand.{AskCommand}
use Rattle.ns_types.specs.Asking.Asks.{ask, asked_in}
use Rattle.ns_types.specs.Asking.Reads.{job_shown}
use Rattle.ns_types.specs.Settling.Outcome.{Changes}
use Rattle.ns_types.specs.State.Id.{id_text}
use Rattle.ns_types.specs.State.Names.{Name, begins_with, same_name}
use Rattle.ns_types.specs.State.Resources.{IsCounted}
use Rattle.ns_types.specs.State.Rows.{World, Tenant}
use Rattle.ns_types.specs.State.Sums.{quota_use}
use Rattle.ns_tables.specs.declared.tables.Tables.{Tables}
use Rattle.ns_tables.specs.declared.tables.TenantRows.{TenantRows}
use Rattle.ns_tables.specs.Filing.{stands_under}
use Rattle.ns_tables.specs.World.{tenant_of, world_of}

-- the command changes nothing
abbrev pub only_reads : AskCommand → Bool
only_reads (AskCommand.Register r) = false
only_reads (AskCommand.Deregister id purge) = false
only_reads (AskCommand.StopAllocation n) = false
only_reads _ = true

-- the reply to the command, or its refusal; the tables are as they were
abbrev pub Reads : Name → AskCommand → Tables → Result Content Refusal → Type 0
Reads ns command t result = Changes (ask ns command (world_of t)) (world_of t) result (world_of t)

-- the reply to the command in a namespace with these rows, or its refusal
abbrev pub ReadsIn : Name → AskCommand → World → TenantRows → Result Content Refusal → Type 0
ReadsIn ns command w x result = Changes (asked_in ns command w (tenant_of x)) w result w

-- the same reply in every world: it depends on the namespace's rows alone
abbrev pub SaysIn : Name → AskCommand → TenantRows → Result Content Refusal → Type 0
SaysIn ns command x result = (w : World) → ReadsIn ns command w x result

-- ---- lists

-- the jobs of the slots whose ids begin with the prefix, as replies show them
abbrev pub jobs_shown : Name → Name → Tenant → List (Name × Option Job) → List JobShown
jobs_shown ns prefix t slots = map (λ e. job_shown ns t e.0 e.1) (filter (λ e. begins_with prefix e.0) (row_list slots))

-- which evaluations a command lists: those of a job, or those whose ids begin with a prefix
abbrev pub lists_evaluation : AskCommand → EvaluationShown → Bool
lists_evaluation (AskCommand.JobEvaluations job) e = same_name job e.row.job
lists_evaluation (AskCommand.ListEvaluations prefix) e = begins_with prefix (id_text IdKind.Evaluation e.number)
lists_evaluation _ e = false

abbrev pub evaluation_shown : Name → ℕ → Evaluation → EvaluationShown
evaluation_shown ns n e = record { namespace = ns; number = n; row = e }

abbrev pub lists_allocation : AskCommand → AllocationShown → Bool
lists_allocation (AskCommand.JobAllocations job) a = same_name job a.row.job
lists_allocation (AskCommand.ListAllocations prefix) a = begins_with prefix (id_text IdKind.Allocation a.number)
lists_allocation _ a = false

abbrev pub allocation_shown : Name → ℕ → Allocation → AllocationShown
allocation_shown ns n a = record { namespace = ns; number = n; row = a }

module _ {X Shown : Type 0} (as_shown : Name → ℕ → X → Shown) (is_listed : AskCommand → Shown → Bool) where
  -- the rows of the slots that a command lists, as replies show them
  abbrev pub rows_shown : Name → AskCommand → List (ℕ × Option X) → List Shown
  rows_shown ns command slots = filter (is_listed command) (map (λ e. as_shown ns e.0 e.1) (row_list slots))

  -- the command lists only rows of the job
  abbrev pub IsAmongThoseOf : (X → Option Name) → AskCommand → Name → Type 0
  IsAmongThoseOf job_of command job =
      (ns : Name) (n : ℕ) (x : X) → is_listed command (as_shown ns n x) ≡ true
      → stands_under job_of job (Some x) ≡ true

-- ---- the use of a quota

-- the use of the quota that a command asks for fits 64 bits
abbrev pub UsageFits : AskCommand → World → Type 0
UsageFits (AskCommand.QuotaUsage quota) w = IsCounted (quota_use w quota)
UsageFits _ w = Unit {0}
