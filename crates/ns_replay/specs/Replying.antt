-- A server's answers to steps, as bytes.
use Rattle.std.specs.Prelude.{◌≡◌, false, Option, Some, None, Err, IfErr}
use Rattle.ns_types.specs.declared.refusal.Refusal.TheVariants as Refusal
use Rattle.ns_types.specs.declared.reply.Rendered.{Rendered}
use Rattle.ns_types.specs.declared.step.Step.{Step}
use Rattle.ns_types.specs.State.Rows.{State}
use Rattle.ns_types.specs.Steps.{Answer, after, said}
use Rattle.ns_json.specs.Replies.{Entry, rendered}
use Rattle.ns_replay.specs.Running.{is_no_step}

-- in s the step is enabled and answered as logged, and leads to s'
pub record Fits (entry : Entry) (s s' : State) : Type 0 where
  pub answer : Answer
  pub made : after entry.0 s ≡ said answer s'
  pub logged : rendered answer ≡ entry.1

abbrev pub FitsIn : Entry → State → Type 0
FitsIn entry s = (s' : State) × Fits entry s s'

-- the answer of a step as bytes; or none, because the call was out of turn
abbrev pub Shows : Answer → Option Rendered → Type 0
Shows answer (Some reply) = IfErr answer (λ refusal. is_no_step refusal ≡ false) × (rendered answer ≡ reply)
Shows answer None = answer ≡ Err Refusal.NotEnabled

-- the step is answered with these bytes in s, and leads to s'; or it is not enabled, and s stays
abbrev pub Replies : Step → State → Option Rendered → State → Type 0
Replies step s (Some reply) s' = Fits (step, reply) s s'
Replies step s None s' = (after step s ≡ None) × (s' ≡ s)
