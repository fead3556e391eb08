use Rattle.std.proofs.Common.{◌∙◌, ◌++◌, ℕ, List, Option, map, filter}
use Rattle.keyed.specs.Table.{at_slot, rows}
use Rattle.std.specs.FinMap.{entries}
use Rattle.ns_types.specs.declared.allocation.Allocation.{Allocation}
use Rattle.ns_types.specs.declared.evaluation.Evaluation.{Evaluation}
use Rattle.ns_types.specs.declared.event.Event.{Event}
use Rattle.ns_types.specs.declared.event.Topic.{Topic}
use Rattle.ns_types.specs.declared.job.Job.{Job}
use Rattle.ns_types.specs.State.Names.{Name}
use Rattle.ns_types.specs.Settling.Settle.{changes_allocation, changes_evaluation}
use Rattle.ns_release.specs.Shown.{allocations_shown, changes_job_row, changes_slot, evaluations_shown}
use Rattle.ns_settlement.specs.Stamped.{row_topic, events_for, topic_at}
use Rattle.ns_tables.specs.World.{tenant_of}
use Rattle.ns_settlement.proofs.Finished.{three}
use Rattle.ns_settlement.proofs.finishing.events_at.Goals as goal

pub returns : goal.returns
returns c =
    let t = tenant_of c.args.tenant.now in
    let at : Topic → Event = λ topic. record { index = c.args.index; topic = topic } in
    let jobs = λ (l : List (Name × Option Job)). map (λ (e : Name × Option Job). at (row_topic e.0 e.1))
    (filter (λ (e : Name × Option Job). changes_job_row t e.0 e.1) l) in
    c.in_ok-publish_rows-2.ensures ∙ (λ i. (c.in_ok-publish_rows.ensures ∙
    (λ j. (c.in_ok-publish_jobs.ensures ∙ (λ k. c.new-events.ensures k ++ jobs (c.as_slice.ensures k))) j
    ++ events_for c.args.index (topic_at evaluations_shown) (changes_slot evaluations_shown (rows (c.rows.ensures j))) (c.as_slice-2.ensures j))) i
    ++ events_for c.args.index (topic_at allocations_shown) (changes_slot allocations_shown (rows (c.rows-2.ensures i))) (c.as_slice-3.ensures i))
    ∙ three at (λ (e : Name × Option Job). row_topic e.0 e.1) (λ (e : ℕ × Option Evaluation). Topic.EvaluationUpdated e.0)
    (λ (e : ℕ × Option Allocation). Topic.AllocationUpdated e.0)
    (filter (λ (e : Name × Option Job). changes_job_row t e.0 e.1) (entries c.args.change.now.jobs))
    (filter (at_slot (λ e. changes_evaluation t e.0 e.1)) (entries c.args.change.now.evaluations))
    (filter (at_slot (λ e. changes_allocation t e.0 e.1)) (entries c.args.change.now.allocations))
