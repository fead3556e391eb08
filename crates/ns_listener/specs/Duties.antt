-- What the threads of a server do.
use Rattle.std.specs.Prelude.{◌≡◌, ℕ, List, ◌++◌, Ok, map}
use Rattle.std.specs.List.{range_with_len}
use Rattle.ns_types.specs.declared.step.Step.{Step}
use Rattle.ns_types.specs.Wire.Http.{Asked}
use Rattle.ns_endpoints.specs.Asking.{asked}
use Rattle.ns_endpoints.specs.Drawing.{DrawsFor}
use Rattle.ns_workers.specs.Growing.{IsOfWorker}
use Rattle.ns_listener.specs.declared.duty.Duty.{Duty}
use Rattle.ns_listener.specs.declared.duty.Duty.TheVariants.{Connections, Worker}

-- the duties: one connection thread for each drawer, then `workers` workers, numbered from 0
abbrev pub duties_of : {D : Type 0} → List D → ℕ → List (Duty D)
duties_of drawers workers = map Connections drawers ++ map Worker (range_with_len 0 workers)

-- the step that a request asks for, with what is drawn for it
pub record IsRequested {D : Type 0} (draws : D → List ℕ → D → Type 0) (step : Step) : Type 0 where
  pub request : Asked
  pub wanted : Step
  pub drawer : D
  pub drawn : D
  pub asks_wanted : asked request ≡ Ok wanted
  pub draws_step : DrawsFor draws wanted drawer step drawn

-- a step that a thread with this duty makes
abbrev pub IsDue : {D : Type 0} → (D → List ℕ → D → Type 0) → Duty D → Step → Type 0
IsDue draws (Connections drawer) = IsRequested draws
IsDue draws (Worker number) = IsOfWorker number
