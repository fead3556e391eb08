-- Laws of what a call of the server returns: a run of its one step, or a refusal that changes nothing.
use Rattle.std.specs.Prelude.{◌≡◌, ◌≢◌, ◌⊎◌, ℕ, [], ◌∷◌, Some, None, Ok, Err}
use Rattle.ns_types.specs.declared.refusal.Refusal.{Refusal}
use Rattle.ns_types.specs.declared.reply.Reply.{Reply}
use Rattle.ns_types.specs.declared.snapshot.Snapshot.{Snapshot}
use Rattle.ns_types.specs.declared.step.Step.{Step}
use Rattle.ns_types.specs.declared.worker.Phase.{Phase}
use Rattle.ns_types.specs.State.Names.{Name}
use Rattle.ns_types.specs.State.Rows.{State}
use Rattle.ns_types.specs.Steps.{Answer, Makes, Run, after}
use Rattle.ns_types.specs.Working.Looks.{RefusesFinish, RefusesPlan, worker_at}
use Rattle.ns_types.specs.Working.Worker.{Worker}

-- ---- every call that makes a step

-- A call that makes a step is a run of that step with its answer, unless there was no memory or the step was not enabled.
abbrev pub CallIsOneStep : Type 0
CallIsOneStep = (step : Step) (s s' : State) (answer : Answer) → Makes step s answer s' → answer ≢ Err Refusal.Memory
    → answer ≢ Err Refusal.NotEnabled → Run s (step ∷ []) (answer ∷ []) s'

-- A refused call changes nothing.
abbrev pub RefusedCallChangesNothing : Type 0
RefusedCallChangesNothing = (step : Step) (s s' : State) (refusal : Refusal) → Makes step s (Err refusal) s' → s' ≡ s

-- A call is refused for want of memory only where its step would have had a reply.
abbrev pub MemoryComesLast : Type 0
MemoryComesLast = (step : Step) (s s' : State) → Makes step s (Err Refusal.Memory) s'
    → (reply : Reply) × (made : State) × Run s (step ∷ []) (Ok reply ∷ []) made

-- A call is refused as not enabled only where no run has its step.
abbrev pub NotEnabledIsNoStep : Type 0
NotEnabledIsNoStep = (step : Step) (s s' made : State) (answer : Answer) → Makes step s (Err Refusal.NotEnabled) s'
    → Run s (step ∷ []) (answer ∷ []) made → ⊥

-- ---- a plan that a worker hands in

-- the worker keeps another snapshot than this one, or none
abbrev pub KeepsOther : Worker → Snapshot → Type 0
KeepsOther worker planned = worker.kept ≢ Some planned

-- A plan of the snapshot that the worker keeps is refused only where the worker cannot submit it.
abbrev pub OwnPlanIsRefusedOnlySo : Type 0
OwnPlanIsRefusedOnlySo = (s : State) (number : ℕ) (ns : Name) (planned : Snapshot) (worker : Worker) (refusal : Refusal)
    → worker_at s.world number ns ≡ Some worker → worker.kept ≡ Some planned
    → RefusesPlan s.world number ns planned refusal → after (Step.Submit number ns) s ≡ None

-- A plan is refused as foreign only while the worker could submit one, and only if it keeps another snapshot.
abbrev pub ForeignPlanOnlySo : Type 0
ForeignPlanOnlySo = (s : State) (number : ℕ) (ns : Name) (planned : Snapshot)
    → RefusesPlan s.world number ns planned Refusal.Foreign
    → (worker : Worker) × (worker_at s.world number ns ≡ Some worker) × (worker.phase ≡ Phase.Snapped)
    × KeepsOther worker planned

-- A finish by the snapshot that the worker keeps is refused only where the worker cannot finish.
abbrev pub OwnFinishIsRefusedOnlySo : Type 0
OwnFinishIsRefusedOnlySo = (s : State) (number : ℕ) (ns : Name) (planned : Snapshot) (worker : Worker) (refusal : Refusal)
    → worker_at s.world number ns ≡ Some worker → worker.kept ≡ Some planned
    → RefusesFinish s.world number ns planned refusal → after (Step.Finish number ns) s ≡ None

-- the worker has taken a snapshot and not submitted since, all of its plan was applied, or it has no tries left
abbrev pub MightEnd : Worker → Type 0
MightEnd worker = (worker.phase ≡ Phase.Snapped) ⊎ (worker.phase ≡ Phase.Applied)
    ⊎ ((worker.phase ≡ Phase.Dropped) × (worker.tries ≡ 0))

-- A finish is refused as foreign only while the worker might end its evaluation, and only if it keeps another snapshot.
abbrev pub ForeignFinishOnlySo : Type 0
ForeignFinishOnlySo = (s : State) (number : ℕ) (ns : Name) (planned : Snapshot)
    → RefusesFinish s.world number ns planned Refusal.Foreign
    → (worker : Worker) × (worker_at s.world number ns ≡ Some worker) × MightEnd worker × KeepsOther worker planned
