-- The follower of an evaluation, by what is known of the evaluation and of its plan.
use Rattle.std.specs.Prelude.{ℕ, Bool, ◌||◌, if◌then◌else◌, Option, Some, None, option_map}
use Rattle.ns_types.specs.declared.evaluation.Evaluation.{Evaluation}
use Rattle.ns_types.specs.declared.evaluation.Status.TheVariants as Status
use Rattle.ns_types.specs.declared.evaluation.Trigger.TheVariants as Trigger
use Rattle.ns_types.specs.declared.snapshot.Snapshot.{Snapshot}
use Rattle.ns_types.specs.Placing.Plan.{any_escapes, infeasible_classes}
use Rattle.ns_types.specs.Settling.Releases.{missed}
use Rattle.ns_types.specs.Settling.Settle.{pending}
use Rattle.ns_types.specs.State.Names.{Name}
use Rattle.ns_types.specs.State.Rows.{World}
use Rattle.ns_types.specs.Working.Work.{follower_of}
use Rattle.ns_types.specs.Working.Worker.{Worker}

-- the name of the snapshot's quota, if the quota ended placing
abbrev pub limiting : Snapshot → Bool → Option Name
limiting kept limited = if limited then option_map (λ q. q.name) kept.quota else None

-- the follower of the evaluation with that number, by whether the tries are used up and whether the quota ended placing
abbrev pub follower_for : Evaluation → ℕ → Snapshot → Bool → Bool → Evaluation
follower_for e number kept failed limited = record {
  job = e.job;
  kind = e.kind;
  priority = e.priority;
  pool = kept.pool;
  trigger = if failed then Trigger.MaxPlanAttempts else Trigger.QueuedAllocs;
  status = Status.Blocked;
  previous = Some number;
  follower = None;
  quota = if failed then None else limiting kept limited;
  escapes = failed || any_escapes kept;
  infeasible = infeasible_classes kept;
  nacks = 0;
  create_index = 0;
  modify_index = 0;
}

-- the follower as it is made: pending if it missed a release, else blocked
abbrev pub made_follower : World → Evaluation → Worker → Snapshot → Evaluation
made_follower w e worker kept = let follower = follower_of e worker kept in
    if missed w kept follower then pending follower else follower
