-- What the end of a step makes of a world, given the world as the step's own change leaves it.
use Rattle.std.specs.Prelude.{◌≡◌, true, false, Result, Ok, Err}
use Rattle.ns_types.specs.declared.refusal.Refusal.{Refusal}
use Rattle.ns_types.specs.declared.reply.Content.{Content}
use Rattle.ns_types.specs.declared.step.Step.{Step}
use Rattle.ns_types.specs.State.Rows.{World}
use Rattle.ns_types.specs.Settling.Settle.{settle}
use Rattle.ns_types.specs.Steps.{Answer, is_past_bound, reply_of}

-- The world before is w, the step's own change leads to w', and the step ends in x. `Full`: a counter would pass its bound.
-- `Memory` comes last: no counter would. There is no other error, and an error leaves the world as it was.
abbrev pub Concludes : {A : Type 0} → World → World → Result A Refusal → World → Type 0
Concludes w w' (Ok done) x = (x ≡ settle w w') × (is_past_bound x ≡ false)
Concludes w w' (Err Refusal.Full) x = (is_past_bound (settle w w') ≡ true) × (x ≡ w)
Concludes w w' (Err Refusal.Memory) x = (is_past_bound (settle w w') ≡ false) × (x ≡ w)
Concludes w w' (Err refusal) x = ⊥

-- the reply to a step with that content, given how the step ended
abbrev pub answer_of : {A : Type 0} → Step → Content → World → Result A Refusal → Answer
answer_of step content x (Ok done) = Ok (reply_of step content x)
answer_of step content x (Err refusal) = Err refusal
