-- Steps of a server whose value stands for a state of the model, and keeps more than that, such as a log.
use Rattle.std.specs.Prelude.{◌≡◌, ◌⊎◌, List, [], ◌∷◌, Err}
use Rattle.ns_types.specs.declared.refusal.Refusal.{Refusal}
use Rattle.ns_types.specs.declared.step.Step.{Step}
use Rattle.ns_types.specs.State.Rows.{State}
use Rattle.ns_types.specs.Steps.{Answer, after, said}

-- given the state for which a value stands, and what else holds of a step that was made
module _ {S : Type 0} (state : S → State) (notes : S → Step → Answer → S → Type 0) where
  -- the step was made, with that answer
  pub record IsMade (old : S) (step : Step) (answer : Answer) (new : S) : Type 0 where
    pub made : after step (state old) ≡ said answer (state new)
    pub noted : notes old step answer new

  -- these steps were made, one after the other, with these answers
  abbrev pub Chain : S → List Step → List Answer → S → Type 0
  Chain s [] [] s' = s' ≡ s
  Chain s (step ∷ steps) (answer ∷ answers) s' = (mid : S) × IsMade s step answer mid × Chain mid steps answers s'
  Chain s [] (answer ∷ answers) s' = ⊥
  Chain s (step ∷ steps) [] s' = ⊥

-- the call lacked something: it was refused for that, made no step, and changed nothing
abbrev pub IsLacking : {S : Type 0} → (S → Refusal → Type 0) → S → Answer → S → Type 0
IsLacking lacks old answer new = (refusal : Refusal) × (answer ≡ Err refusal) × lacks old refusal × (new ≡ old)

-- a call for a step makes the step, or lacks something and changes nothing
abbrev pub MakesOrLacks : {S : Type 0} → (S → State) → (S → Step → Answer → S → Type 0) → (S → Refusal → Type 0) →
    S → Step → Answer → S → Type 0
MakesOrLacks state notes lacks old step answer new =
    IsMade state notes old step answer new ⊎ IsLacking lacks old answer new
