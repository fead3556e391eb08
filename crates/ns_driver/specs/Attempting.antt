-- What a worker's calls do at a server whose value stands for a state of the model and keeps more than that.
use Rattle.std.specs.Prelude.{◌≡◌, ◌⊎◌, ℕ, Some}
use Rattle.ns_types.specs.declared.refusal.Refusal.{Refusal}
use Rattle.ns_types.specs.declared.snapshot.Snapshot.{Snapshot}
use Rattle.ns_types.specs.declared.step.Step.{Step}
use Rattle.ns_types.specs.State.Names.{Name}
use Rattle.ns_types.specs.State.Rows.{State, World}
use Rattle.ns_types.specs.Steps.{Answer}
use Rattle.ns_types.specs.Working.Looks.{RefusesFinish, RefusesPlan}
use Rattle.ns_steps.specs.Chains.{IsLacking, IsMade, MakesOrLacks}
use Rattle.ns_broker.specs.Snapping.{kept_at}

-- given the state for which a value stands, what else holds of a step that was made, and why a step may not be made
module _ {S : Type 0} (state : S → State) (notes : S → Step → Answer → S → Type 0) (lacks : S → Step → Refusal → Type 0) where
  -- the step was made, or it lacked something, and nothing changed
  abbrev pub Attempts : S → Step → Answer → S → Type 0
  Attempts old step answer new = MakesOrLacks state notes (λ s. lacks s step) old step answer new

  -- The plan is of the snapshot that the worker keeps, and the step was made. Or the step lacked something or the plan
  -- is refused, and nothing changed.
  abbrev pub AttemptsBy : (World → Refusal → Type 0) → ℕ → Name → Snapshot → S → Step → Answer → S → Type 0
  AttemptsBy refuses worker ns planned old step answer new =
      ((kept_at (state old).world worker ns ≡ Some planned) × IsMade state notes old step answer new)
      ⊎ IsLacking (λ s refusal. lacks s step refusal ⊎ refuses (state s).world refusal) old answer new

  -- what a call that submits a plan does
  abbrev pub AttemptsSubmit : ℕ → Name → Snapshot → S → Answer → S → Type 0
  AttemptsSubmit worker ns planned old answer new =
      AttemptsBy (λ w. RefusesPlan w worker ns planned) worker ns planned old (Step.Submit worker ns) answer new

  -- what a call that finishes an evaluation does
  abbrev pub AttemptsFinish : ℕ → Name → Snapshot → S → Answer → S → Type 0
  AttemptsFinish worker ns planned old answer new =
      AttemptsBy (λ w. RefusesFinish w worker ns planned) worker ns planned old (Step.Finish worker ns) answer new
