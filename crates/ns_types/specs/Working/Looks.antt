-- Neither the headline nor the wire rests on `first_plan`, `InTurn`, `RefusesPlan`, `InEnding` and `RefusesFinish`: calls are specified by them.
-- What can be read without a step, and why a submission or a finish is refused.
use Rattle.std.specs.Prelude.{◌≡◌, ◌≢◌, ℕ, Bool, true, false, Option, Some, None, find, nat_eq, option_map}
use Rattle.std.specs.FinMap.{get, entries, contains_key}
use Rattle.std.specs.Option.{option_and_then}
use Rattle.ns_types.specs.declared.refusal.Refusal.{Refusal}
use Rattle.ns_types.specs.declared.snapshot.Snapshot.{Snapshot}
use Rattle.ns_types.specs.declared.worker.Phase.{Phase}
use Rattle.ns_types.specs.Working.Worker.{Worker}
use Rattle.ns_types.specs.State.Names.{Name, Key}
use Rattle.ns_types.specs.Placing.Plan.{plan, does_nothing}
use Rattle.ns_types.specs.Working.Queue.{served}
use Rattle.ns_types.specs.State.Rows.{World}
use Rattle.ns_types.specs.Working.Work.{is_snapped, may_finish}

-- the next evaluation to dequeue
abbrev pub served_ready : World → Option Key
served_ready w = served w w.ready

-- the evaluation whose plan is the next to apply
abbrev pub first_plan : World → Option Key
first_plan w = served w w.plans

-- the namespace that a worker is busy for, with the worker's row; none if the worker is idle
abbrev pub row_of : World → ℕ → Option (Name × Worker)
row_of w number = option_and_then (λ t. option_map (λ worker. (t.0, worker)) (get t.1.workers number))
    (find (λ t. contains_key t.1.workers number) (entries w.tenants))

-- ---- the submission of a plan, which is that of a snapshot

abbrev pub worker_at : World → ℕ → Name → Option Worker
worker_at w number ns = option_and_then (λ t. get t.workers number) (get w.tenants ns)

-- the worker has taken a snapshot, and has not submitted a plan since
abbrev pub InTurn : World → ℕ → Name → Worker → Type 0
InTurn w number ns worker = (worker_at w number ns ≡ Some worker) × (is_snapped worker.phase ≡ true)

-- why a submission is refused: the worker is idle or in another phase, or the plan is not that of the kept snapshot, or it
-- does nothing
pub data RefusesPlan (w : World) (number : ℕ) (ns : Name) (planned : Snapshot) : Refusal → Type 0 where
  idle : worker_at w number ns ≡ None → RefusesPlan w number ns planned Refusal.NotEnabled
  out_of_turn : (worker : Worker) → worker_at w number ns ≡ Some worker → is_snapped worker.phase ≡ false →
      RefusesPlan w number ns planned Refusal.NotEnabled
  foreign : (worker : Worker) → InTurn w number ns worker → worker.kept ≢ Some planned →
      RefusesPlan w number ns planned Refusal.Foreign
  empty : (worker : Worker) → InTurn w number ns worker → worker.kept ≡ Some planned →
      does_nothing (plan planned) ≡ true → RefusesPlan w number ns planned Refusal.NotEnabled

-- ---- finishing a worker's evaluation, by the plan of the snapshot that it keeps

-- the worker has a snapshot and has not submitted its plan, nothing of its plan was dropped, or the tries are used up
abbrev pub is_ending : Phase → ℕ → Bool
is_ending Phase.Took tries = false
is_ending Phase.Snapped tries = true
is_ending Phase.Submitted tries = false
is_ending Phase.Applied tries = true
is_ending Phase.Dropped tries = nat_eq tries 0

abbrev pub InEnding : World → ℕ → Name → Worker → Type 0
InEnding w number ns worker =
    (worker_at w number ns ≡ Some worker) × (is_ending worker.phase worker.tries ≡ true)

-- why a finish is refused: the worker is idle or in another phase, the plan is not that of the kept snapshot, or it does
-- something and was not submitted
pub data RefusesFinish (w : World) (number : ℕ) (ns : Name) (planned : Snapshot) : Refusal → Type 0 where
  idle : worker_at w number ns ≡ None → RefusesFinish w number ns planned Refusal.NotEnabled
  out_of_turn : (worker : Worker) → worker_at w number ns ≡ Some worker →
      is_ending worker.phase worker.tries ≡ false → RefusesFinish w number ns planned Refusal.NotEnabled
  foreign : (worker : Worker) → InEnding w number ns worker → worker.kept ≢ Some planned →
      RefusesFinish w number ns planned Refusal.Foreign
  unplaced : (worker : Worker) → InEnding w number ns worker → worker.kept ≡ Some planned →
      may_finish worker planned ≡ false → RefusesFinish w number ns planned Refusal.NotEnabled
