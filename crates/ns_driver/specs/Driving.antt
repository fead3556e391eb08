-- What a driven worker does: worker 0 makes one step after the other, and never nacks.
use Rattle.std.specs.Prelude.{◌≡◌, ◌≢◌, ◌≤◌, ℕ, true, false, List, [], ◌∷◌, ◌++◌, length, Option, Some, None, Ok, Err}
use Rattle.ns_types.specs.declared.refusal.Refusal.{Refusal}
use Rattle.ns_types.specs.declared.reply.Reply.{Reply}
use Rattle.ns_types.specs.declared.snapshot.Snapshot.{Snapshot}
use Rattle.ns_types.specs.declared.step.Step.{Step}
use Rattle.ns_types.specs.State.Names.{Name, Key}
use Rattle.ns_types.specs.State.Rows.{State, World}
use Rattle.ns_types.specs.Steps.{Answer}
use Rattle.ns_types.specs.Working.Looks.{is_ending, row_of, served_ready}
use Rattle.ns_types.specs.Working.Work.{is_submitted, may_finish, may_snap, may_submit}
use Rattle.ns_types.specs.Working.Worker.{Worker}
use Rattle.ns_steps.specs.Chains.{Chain, IsMade}
use Rattle.ns_broker.specs.Snapping.{kept_at}
use Rattle.ns_schedule.specs.Fits.{fits}
use Rattle.ns_driver.specs.declared.stopping.Stop.{Stop}

abbrev pub driven : ℕ
driven = 0

abbrev pub most_steps : ℕ
most_steps = 10000

-- ---- the steps that it makes

-- a step of the driven worker, other than a Nack
abbrev pub IsDriven : Step → Type 0
IsDriven (Step.Dequeue worker ns n) = worker ≡ driven
IsDriven (Step.Snap worker ns) = worker ≡ driven
IsDriven (Step.Submit worker ns) = worker ≡ driven
IsDriven (Step.Apply worker ns) = worker ≡ driven
IsDriven (Step.Finish worker ns) = worker ≡ driven
IsDriven _ = ⊥

-- The snapshot that the driver has after a step that led to this world: the one that the worker's row then keeps, if it
-- took one; none, if it finished; else the one that it had.
abbrev pub Remembers : Step → Option Snapshot → World → Option Snapshot → Type 0
Remembers (Step.Snap worker ns) has w has' =
    (seen : Snapshot) × (kept_at w worker ns ≡ Some seen) × (has' ≡ Some seen)
Remembers (Step.Finish worker ns) has w has' = has' ≡ None
Remembers _ has w has' = has' ≡ has

-- ---- the step that comes next

-- the worker is idle, and no evaluation is ready
abbrev pub IsAtRest : World → Type 0
IsAtRest w = (row_of w driven ≡ None) × (served_ready w ≡ None)

-- the worker has an evaluation of the namespace, and that row
abbrev pub IsBusyFor : World → Name → Worker → Type 0
IsBusyFor w ns worker = row_of w driven ≡ Some (ns, worker)

-- The step that comes next: an idle worker dequeues the next evaluation, and a busy one goes on as its phase says.
pub data IsNext (w : World) : Step → Type 0 where
  dequeue : (key : Key) → row_of w driven ≡ None → served_ready w ≡ Some key →
      IsNext w (Step.Dequeue driven key.0 key.1)
  snap : (ns : Name) (worker : Worker) → IsBusyFor w ns worker → may_snap worker.tries worker.phase ≡ true →
      IsNext w (Step.Snap driven ns)
  submit : (ns : Name) (worker : Worker) (kept : Snapshot) → IsBusyFor w ns worker → worker.kept ≡ Some kept →
      may_submit worker kept ≡ true → IsNext w (Step.Submit driven ns)
  apply : (ns : Name) (worker : Worker) → IsBusyFor w ns worker → is_submitted worker.phase ≡ true →
      IsNext w (Step.Apply driven ns)
  finish : (ns : Name) (worker : Worker) (kept : Snapshot) → IsBusyFor w ns worker → worker.kept ≡ Some kept →
      may_finish worker kept ≡ true → IsNext w (Step.Finish driven ns)

-- The step that a driver with that snapshot tries: the one that comes next, except that it submits and finishes by its
-- own snapshot, which may be another than the row's.
pub data IsTried (w : World) (has : Option Snapshot) : Step → Type 0 where
  next : (step : Step) → IsNext w step → IsTried w has step
  submit : (ns : Name) (worker : Worker) (seen : Snapshot) → IsBusyFor w ns worker → has ≡ Some seen →
      may_submit worker seen ≡ true → IsTried w has (Step.Submit driven ns)
  finish : (ns : Name) (worker : Worker) (seen : Snapshot) → IsBusyFor w ns worker → has ≡ Some seen →
      may_finish worker seen ≡ true → IsTried w has (Step.Finish driven ns)

-- ---- over a server

-- given the state for which a value stands, what else holds of a step that was made, and what a step may lack
module _ {S : Type 0} (state : S → State) (notes : S → Step → Answer → S → Type 0) (lacks : S → Step → Refusal → Type 0) where
  -- one step of the driven worker was made and answered by a reply, and the snapshot that the driver then has
  pub record MakesOne (s : S) (has : Option Snapshot) (s' : S) (has' : Option Snapshot) : Type 0 where
    pub step : Step
    pub reply : Reply
    pub is_driven : IsDriven step
    pub made : IsMade state notes s step (Ok reply) s'
    pub remembers : Remembers step has (state s').world has'

  -- such steps were made, one after the other
  pub data MakesMany (s : S) (has : Option Snapshot) : List Step → List Answer → S → Option Snapshot → Type 0 where
    none : MakesMany s has [] [] s has
    more : (steps : List Step) (answers : List Answer) (mid : S) (held : Option Snapshot) (s' : S)
        (has' : Option Snapshot) → MakesMany s has steps answers mid held → (one : MakesOne mid held s' has') →
        MakesMany s has (steps ++ one.step ∷ []) (answers ++ Ok one.reply ∷ []) s' has'

  -- Why a driver with that snapshot made no further step: there is nothing to do; the step that it tries lacks
  -- something; there is no memory to prepare it; the plan that it needs is of a snapshot that the driver does not have;
  -- or a sum of that plan does not fit 64 bits.
  pub data Stops (s : S) (has : Option Snapshot) : Stop → Type 0 where
    rests : IsAtRest (state s).world → Stops s has Stop.Rests
    lacking : (step : Step) (refusal : Refusal) → IsTried (state s).world has step → lacks s step refusal →
        Stops s has (Stop.Refused refusal)
    memory : (IsAtRest (state s).world → ⊥) → Stops s has (Stop.Refused Refusal.Memory)
    foreign : (ns : Name) (worker : Worker) → IsBusyFor (state s).world ns worker →
        is_ending worker.phase worker.tries ≡ true →
        ((seen : Snapshot) → has ≡ Some seen → worker.kept ≢ Some seen) → Stops s has (Stop.Refused Refusal.Foreign)
    unfit : (seen : Snapshot) → has ≡ Some seen → fits seen ≡ false → Stops s has (Stop.Refused Refusal.Full)

  -- the step that comes next was made, and the model refused it
  pub record IsRefused (s : S) (step : Step) (refusal : Refusal) (s' : S) : Type 0 where
    pub is_next : IsNext (state s).world step
    pub is_driven : IsDriven step
    pub made : IsMade state notes s step (Err refusal) s'

  -- ---- a round

  -- These steps of the driven worker were made. Each was answered by a reply, except the last one if the model refused
  -- it. Then the worker stopped: because of that refusal, for a reason of `Stops`, or because the round had made as
  -- many steps as it may.
  pub data Rounds (s : S) (has : Option Snapshot) : List Step → List Answer → S → Option Snapshot → Stop → Type 0 where
    limit : (steps : List Step) (answers : List Answer) (s' : S) (has' : Option Snapshot) →
        MakesMany s has steps answers s' has' → length steps ≡ most_steps → Rounds s has steps answers s' has' Stop.Limit
    stopped : (steps : List Step) (answers : List Answer) (s' : S) (has' : Option Snapshot) (stop : Stop) →
        MakesMany s has steps answers s' has' → Stops s' has' stop → Rounds s has steps answers s' has' stop
    refused : (steps : List Step) (answers : List Answer) (mid s' : S) (has' : Option Snapshot) (step : Step) (refusal : Refusal) →
        MakesMany s has steps answers mid has' → IsRefused mid step refusal s' →
        Rounds s has (steps ++ step ∷ []) (answers ++ Err refusal ∷ []) s' has' (Stop.Refused refusal)

  -- the steps are a chain, they are at most as many as a round may make, and they are those of a round
  pub record Drives (s : S) (has : Option Snapshot) (steps : List Step) (answers : List Answer) (s' : S)
      (has' : Option Snapshot) (stop : Stop) : Type 0 where
    pub chain : Chain state notes s steps answers s'
    pub few : length steps ≤ most_steps
    pub makes : Rounds s has steps answers s' has' stop
