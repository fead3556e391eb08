-- Laws of the steps that are served.
use Rattle.std.specs.Prelude.{◌≡◌, ◌≢◌, true, false, None, IsTrue, Result, Ok}
use Rattle.ns_types.specs.declared.refusal.Refusal.{Refusal}
use Rattle.ns_types.specs.declared.reply.Content.{Content}
use Rattle.ns_types.specs.declared.reply.Reply.{Reply}
use Rattle.ns_types.specs.declared.step.Step.{Step}
use Rattle.ns_types.specs.Settling.Outcome.{Changes}
use Rattle.ns_types.specs.State.Rows.{State}
use Rattle.ns_types.specs.Steps.{Answer, Makes, act, after, is_allowed, is_past_bound, said}
use Rattle.ns_steps.specs.Answers.{answer_of}
use Rattle.ns_steps.specs.Served.{IsServed, IsToldBy, is_reading}

-- The reply to a step that is served holds what the table says. Such a step is enabled in every state. A read changes
-- nothing, whatever its answer.
abbrev pub ServedTells : Type 0
ServedTells = (step : Step) (s s' : State) (reply : Reply) → IsServed step → after step s ≡ said (Ok reply) s' →
    IsToldBy step reply.content

abbrev pub ServedDecides : Type 0
ServedDecides = (step : Step) (s : State) → IsServed step → after step s ≢ None

abbrev pub ReadingRests : Type 0
ReadingRests = (step : Step) (s s' : State) (answer : Answer) → IsServed step → IsTrue (is_reading step) →
    after step s ≡ said answer s' → s' ≡ s

-- A read that is allowed, in a state whose counters are within their bounds, answers what its own change gives.
abbrev pub ReadingMakes : Type 0
ReadingMakes = (step : Step) (s : State) (result : Result Content Refusal) → is_allowed step s.acl ≡ true →
    is_past_bound s.world ≡ false → IsServed step → IsTrue (is_reading step)
    → Changes (act step s) s result s → Makes step s (answer_of step s.world result) s
