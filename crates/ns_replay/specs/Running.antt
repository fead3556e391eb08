-- The answers of a run over a list of steps, and the state after it.
use Rattle.std.specs.Prelude.{◌≡◌, ℕ, Bool, true, false, List, length, take, Option, Some, None, Err, slice_get}
use Rattle.ns_types.specs.declared.refusal.Refusal.{Refusal}
use Rattle.ns_types.specs.declared.step.Step.{Step}
use Rattle.ns_types.specs.State.Rows.{State}
use Rattle.ns_types.specs.Steps.{Answer, Run}
use Rattle.ns_replay.specs.Making.{MakesAny}

-- a call with this refusal made no step
abbrev pub is_no_step : Refusal → Bool
is_no_step Refusal.Memory = true
is_no_step Refusal.NotEnabled = true
is_no_step _ = false

-- Why no more than the first `made` steps were made: they are all; or the call of the next one made no step; or there was
-- no memory for the list of answers.
pub data Ends (s : State) (steps : List Step) (made : ℕ) : Option Refusal → Type 0 where
  all : made ≡ length steps → Ends s steps made None
  stopped : (step : Step) (refusal : Refusal) → slice_get steps made ≡ Some step → is_no_step refusal ≡ true →
      MakesAny step s (Err refusal) s → Ends s steps made (Some refusal)
  no_list : made ≡ 0 → Ends s steps made (Some Refusal.Memory)

-- The first steps are a run of the model with these answers, each of them a step's, and no more were made.
pub record RunsOver (s : State) (steps : List Step) (answers : List Answer) (stop : Option Refusal) (s' : State) : Type 0
  where
    pub run : Run s (take (length answers) steps) answers s'
    pub ends : Ends s' steps (length answers) stop
