-- What one turn of a driven worker does.
use Rattle.std.specs.Prelude.{◌≡◌, ◌⊎◌, true, false, Option, Some, None}
use Rattle.ns_types.specs.declared.refusal.Refusal.{Refusal}
use Rattle.ns_types.specs.declared.snapshot.Snapshot.{Snapshot}
use Rattle.ns_types.specs.declared.step.Step.{Step}
use Rattle.ns_types.specs.Placing.Plan.{does_nothing, plan}
use Rattle.ns_types.specs.State.Names.{Name}
use Rattle.ns_types.specs.State.Rows.{State, World}
use Rattle.ns_types.specs.Steps.{Answer}
use Rattle.ns_types.specs.Working.Looks.{is_ending, row_of, served_ready}
use Rattle.ns_types.specs.Working.Work.{is_snapped, is_submitted, may_snap}
use Rattle.ns_types.specs.Working.Worker.{Worker}
use Rattle.ns_schedule.specs.Fits.{fits}
use Rattle.ns_driver.specs.declared.due.Due.{Due}
use Rattle.ns_driver.specs.declared.stopping.Stop.{Stop}
use Rattle.ns_driver.specs.Driving.{driven, IsAtRest, IsBusyFor, IsRefused, Stops}

-- this is what the worker does next, by its phase
abbrev pub IsDue : World → Due → Type 0
IsDue w Due.Nothing = IsAtRest w
IsDue w (Due.Take key) = (row_of w driven ≡ None) × (served_ready w ≡ Some key)
IsDue w (Due.Look ns) =
    (worker : Worker) × IsBusyFor w ns worker × (may_snap worker.tries worker.phase ≡ true)
IsDue w (Due.Plan ns) = (worker : Worker) × IsBusyFor w ns worker × (is_snapped worker.phase ≡ true)
IsDue w (Due.Apply ns) = (worker : Worker) × IsBusyFor w ns worker × (is_submitted worker.phase ≡ true)
IsDue w (Due.End ns) = (worker : Worker) × IsBusyFor w ns worker ×
    (is_ending worker.phase worker.tries ≡ true) × (is_snapped worker.phase ≡ false)

-- the worker may finish with the plan, which does nothing if it was not submitted
abbrev pub IsAtEnd : World → Name → Snapshot → Type 0
IsAtEnd w ns planned = (worker : Worker) × IsBusyFor w ns worker × (is_ending worker.phase worker.tries ≡ true) ×
    (is_snapped worker.phase ≡ true → does_nothing (plan planned) ≡ true)

-- No further step was made, and nothing changed; or the model refused the step that was made.
abbrev pub Ends : {S : Type 0} → (S → State) → (S → Step → Answer → S → Type 0) → (S → Step → Refusal → Type 0) →
    S → Option Snapshot → Stop → S → Type 0
Ends state notes lacks s has stop s' = (Stops state notes lacks s has stop × (s' ≡ s))
    ⊎ ((step : Step) × (refusal : Refusal) × (stop ≡ Stop.Refused refusal) × IsRefused state notes lacks s step refusal s')

-- why there is no plan of the driver's snapshot: the driver has no snapshot, a sum of the plan does not fit 64 bits, or
-- there is no memory
pub data HasNoPlan (has : Option Snapshot) : Refusal → Type 0 where
  nothing : has ≡ None → HasNoPlan has Refusal.Foreign
  unfit : (seen : Snapshot) → has ≡ Some seen → fits seen ≡ false → HasNoPlan has Refusal.Full
  memory : HasNoPlan has Refusal.Memory
