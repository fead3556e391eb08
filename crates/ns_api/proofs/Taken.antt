-- What a core, and a server with its log, do at a call for a step.
use Rattle.std.proofs.Common.{◌≡◌, ◌∙◌, inl, inr, true, Ok, Err, refl, ap, sym}
use Rattle.ns_types.specs.declared.refusal.Refusal.{Refusal}
use Rattle.ns_types.specs.declared.step.Step.{Step}
use Rattle.ns_types.specs.State.Rows.{State}
use Rattle.ns_types.specs.Steps.{Answer, Makes, after, said}
use Rattle.ns_steps.specs.Chains.{MakesOrLacks}
use Rattle.ns_types.specs.declared.reply.Rendered.{Rendered}
use Rattle.ns_types.specs.declared.reply.Response.{Response}
use Rattle.ns_types.specs.Wire.Refused.{refused}
use Rattle.ns_types.specs.Wire.Responses.{rendered_of}
use Rattle.ns_work_log.specs.Logs.{History, IsNoted}
use Rattle.ns_work_log.specs.Rendered.{LogsRendered}
use Rattle.ns_steps.specs.Served.{IsServed, is_reading}
use Rattle.ns_steps.proofs.Telling.{reading_rests, served_decides}
use Rattle.ns_api.specs.Answering.{AnswersOrWants, IsWanting}
use Rattle.ns_api.specs.Lacking.{LacksNothing, LacksRoom}

-- ---- what is no more than a core

module _ {S : Type 0} (state : S → State) where
  abbrev Nothing : S → Step → Answer → S → Type 0
  Nothing s step answer s' = Unit {0}

  abbrev CoreTakes : S → Step → Answer → S → Type 0
  CoreTakes = MakesOrLacks state Nothing (IsWanting LacksNothing)

  core_refused : (step : Step) (s s' : S) (refusal : Refusal) →
      (after step (state s) ≡ said (Err refusal) (state s)) × (state s' ≡ state s) → CoreTakes s step (Err refusal) s'
  core_refused step s s' refusal m = inl (record { made = m.0 ∙ ap (said (Err refusal)) (sym m.1); noted = tt })

  pub core_takes : (step : Step) (s s' : S) (answer : Answer) → IsServed step → (state s' ≡ state s → s' ≡ s) →
      Makes step (state s) answer (state s') → CoreTakes s step answer s'
  core_takes step s s' (Ok reply) served same m = inl (record { made = m; noted = tt })
  core_takes step s s' (Err Refusal.Memory) served same m = inr (Refusal.Memory, refl, inl refl, same m.1)
  core_takes step s s' (Err Refusal.NotEnabled) served same m = absurd (served_decides step (state s) served m.0)
  core_takes step s s' (Err refusal) served same m = core_refused step s s' refusal m

  -- a read leaves it as it is
  pub core_rests : (step : Step) (s s' : S) (answer : Answer) → IsServed step → is_reading step ≡ true → (state s' ≡ state s → s' ≡ s) →
      Makes step (state s) answer (state s') → s' ≡ s
  core_rests step s s' (Ok reply) served reading same m = same (reading_rests step (state s) (state s') (Ok reply) served reading m)
  core_rests step s s' (Err Refusal.Memory) served reading same m = same m.1
  core_rests step s s' (Err Refusal.NotEnabled) served reading same m = same m.1
  core_rests step s s' (Err refusal) served reading same m = same m.1

-- ---- a server with its log

module _ (step : Step) (old new : History) where
  abbrev HeldAnswers : Rendered → Type 0
  HeldAnswers reply = AnswersOrWants (λ h. h.state) IsNoted LacksRoom step old reply new

  pub held_answers : {A : Type 0} (receipt : Rendered) (response : Response A) → LogsRendered step old (Ok (receipt, response)) new →
      HeldAnswers (rendered_of response)
  held_answers receipt response l = inl (l.1.0, l.1.1, l.1.2.1)

  pub held_wants : (A : Type 0) (refusal : Refusal) → LogsRendered {A = A} step old (Err refusal) new → HeldAnswers (refused refusal)
  held_wants A Refusal.LogFull l = inr (Refusal.LogFull, inr (refl, l.0), (refl, l.1))
  held_wants A Refusal.Memory l = inr (Refusal.Memory, inl refl, (refl, l.1))
  held_wants A _ l = absurd l
