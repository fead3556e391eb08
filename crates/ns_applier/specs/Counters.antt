-- When an Apply passes the bound of a counter, by the state before it.
use Rattle.std.specs.Prelude.{◌≡◌, ◌<◌, ℕ, ◌+◌, ◌^◌, true, false, not, ◌&&◌, if◌then◌else◌, Some, filter, length}
use Rattle.std.specs.FinMap.{get}
use Rattle.ns_types.specs.declared.evaluation.Evaluation.{Evaluation}
use Rattle.ns_types.specs.declared.node.Node.{Node}
use Rattle.ns_types.specs.declared.refusal.Refusal.{Refusal}
use Rattle.ns_types.specs.declared.snapshot.Snapshot.{Snapshot}
use Rattle.ns_types.specs.Placing.Plan.{plan}
use Rattle.ns_types.specs.Settling.Outcome.{NotEnabled, Outcome, Refused}
use Rattle.ns_types.specs.Settling.Settle.{settle}
use Rattle.ns_types.specs.State.Names.{Name, same_name}
use Rattle.ns_types.specs.State.Rows.{Tenant, World, node_at}
use Rattle.ns_types.specs.Steps.{is_past_bound}
use Rattle.ns_types.specs.Validity.{IsSound}
use Rattle.ns_types.specs.Working.Commit.{applied, apply, commit, node_name, still_stands}
use Rattle.ns_types.specs.Working.Queue.{is_served}
use Rattle.ns_types.specs.Working.Work.{is_submitted}
use Rattle.ns_types.specs.Working.Worker.{Worker}
use Rattle.ns_change.specs.Prepared.{bounded}
use Rattle.ns_applier.specs.HeadroomApplying.{Doing, apply_passes, losing_in}
use Rattle.ns_applier.specs.Judging.{doing}
use Rattle.ns_applier.specs.Parts.{applied_world}

-- in a valid state the worker is busy for the namespace, and keeps this snapshot
pub record IsAtWork (w : World) (number : ℕ) (ns : Name) (t : Tenant) (worker : Worker) (kept : Snapshot) : Type 0 where
  pub sound : IsSound w
  pub tenant : get w.tenants ns ≡ Some t
  pub worker_row : get t.workers number ≡ Some worker
  pub keeps : worker.kept ≡ Some kept

-- an Apply of a plan that stands passes a bound exactly if what is done of the plan does
abbrev pub ApplyPasses : Type 0
ApplyPasses = (w : World) (number : ℕ) (ns : Name) (t : Tenant) (worker : Worker) (e : Evaluation) (kept : Snapshot)
    → IsAtWork w number ns t worker kept → still_stands kept.job (get t.jobs kept.evaluation.job) ≡ true
    → let a = commit kept (plan kept) w t in is_past_bound (settle w (applied_world number ns worker e a))
    ≡ apply_passes w kept (doing w kept (plan kept) a.checked.committed)

-- an Apply of a plan that no longer stands passes no bound
abbrev pub RefusedPassesNothing : Type 0
RefusedPassesNothing = (w : World) (number : ℕ) (ns : Name) (t : Tenant) (worker : Worker) (e : Evaluation)
    (kept : Snapshot)
    → IsAtWork w number ns t worker kept → still_stands kept.job (get t.jobs kept.evaluation.job) ≡ false
    → is_past_bound (settle w (applied_world number ns worker e (commit kept (plan kept) w t))) ≡ false

-- the step as it is judged before anything is written
abbrev pub judged : ℕ → Name → World → Tenant → Worker → Evaluation → Snapshot → Outcome World
judged number ns w t worker e kept =
    let a = commit kept (plan kept) w t in
    if not (is_submitted worker.phase && is_served w w.plans (ns, worker.evaluation)) then NotEnabled
    else if not a.checked.is_refused && apply_passes w kept (doing w kept (plan kept) a.checked.committed)
    then Refused Refusal.Full
    else applied number ns worker e a

abbrev pub ApplyIsJudged : Type 0
ApplyIsJudged = (w : World) (number : ℕ) (ns : Name) (t : Tenant) (worker : Worker) (e : Evaluation) (kept : Snapshot)
    → IsAtWork w number ns t worker kept → get t.evaluations worker.evaluation ≡ Some e
    → bounded w (apply number ns w) ≡ judged number ns w t worker e kept

-- ---- the room that is left

-- there are numbers and places for all new allocations and evaluations
pub record HasRoom (w : World) (kept : Snapshot) (d : Doing) : Type 0 where
  pub allocations : (t : Tenant) → get w.tenants kept.namespace ≡ Some t → t.allocation_number + length d.placed < 2 ^ 64
  pub evaluations : (ns : Name) (t : Tenant) → get w.tenants ns ≡ Some t →
      t.evaluation_number + losing_in ns d.victims < 2 ^ 64
  pub places : (name : Name) (node : Node) → node_at w kept.pool name ≡ Some node →
      node.places + length (filter (λ q. same_name (node_name kept q.node) name) d.placed) < 2 ^ 64

-- where no bound is passed, there are numbers and places for all that is new
abbrev pub RoomIsLeft : Type 0
RoomIsLeft = (w : World) (kept : Snapshot) (d : Doing) → is_past_bound w ≡ false → apply_passes w kept d ≡ false →
    HasRoom w kept d
