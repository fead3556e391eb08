-- Which answers are noted in a log.
use Rattle.std.specs.Prelude.{◌≡◌, ◌<◌, ℕ, Bool, true, if◌then◌else◌, List, [], ◌∷◌, ◌++◌, Result, Ok, Err}
use Rattle.ns_types.specs.declared.refusal.Refusal.{Refusal}
use Rattle.ns_types.specs.declared.step.Step.{Step}
use Rattle.ns_types.specs.Steps.{Answer}
use Rattle.ns_audit.specs.Refusals.{is_of_steps}
use Rattle.ns_json.specs.Replies.{Entry, rendered}

-- the answer is a step's, and not that of a call that made no step
abbrev pub is_answer : Answer → Bool
is_answer (Ok reply) = true
is_answer (Err refusal) = is_of_steps refusal

-- the log, followed by the step and its answer as bytes, if the answer is a step's
abbrev pub noted : Step → Answer → List Entry → List Entry
noted step answer log = if is_answer answer then log ++ (step, rendered answer) ∷ [] else log

-- whether a log of `entries` entries takes one more; then there is room for it
abbrev pub Begins : {X : Type 0} → ℕ → ℕ → Result X Refusal → Type 0
Begins entries limit (Ok _) = entries < limit
Begins entries limit (Err Refusal.LogFull) = entries ≡ limit
Begins entries limit (Err Refusal.Memory) = entries < limit
Begins entries limit (Err _) = ⊥
