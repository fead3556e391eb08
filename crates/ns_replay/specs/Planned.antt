-- The plan that a worker's step needs.
use Rattle.std.specs.Prelude.{◌≡◌, ℕ, IsTrue, Option, Some, None, Result, Ok, Err}
use Rattle.ns_types.specs.declared.refusal.Refusal.{Refusal}
use Rattle.ns_types.specs.declared.snapshot.Snapshot.{Snapshot}
use Rattle.ns_types.specs.declared.step.Step.{Step}
use Rattle.ns_types.specs.State.Names.{Name}
use Rattle.ns_types.specs.State.Rows.{State}
use Rattle.ns_types.specs.Working.Worker.{Worker}
use Rattle.ns_broker.specs.Snapping.{kept_at}
use Rattle.ns_schedule.specs.Fits.{fits}
use Rattle.ns_replay.specs.Making.{MakesAny}

-- a plan of the snapshot that the row keeps can be computed
abbrev pub HasFitting : Worker → Type 0
HasFitting worker = (kept : Snapshot) → worker.kept ≡ Some kept → IsTrue (fits kept)

-- the plan is of the snapshot that the worker keeps; or it keeps none, or no memory is left
abbrev pub PlansKept : Option Snapshot → Result Snapshot Refusal → Type 0
PlansKept kept (Ok planned) = kept ≡ Some planned
PlansKept None (Err refusal) = refusal ≡ Refusal.NotEnabled
PlansKept (Some kept) (Err refusal) = refusal ≡ Refusal.Memory

-- the plan is of the snapshot that the worker's row keeps; or the step is refused
abbrev pub PlansFor : Step → ℕ → Name → State → Result Snapshot Refusal → Type 0
PlansFor step worker ns s (Ok planned) = kept_at s.world worker ns ≡ Some planned
PlansFor step worker ns s (Err refusal) = MakesAny step s (Err refusal) s
