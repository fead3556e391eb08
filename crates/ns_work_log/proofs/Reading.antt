-- A read leaves the state as it is.
use Rattle.std.specs.Prelude.{◌≡◌, true, false, not, Ok, Err}
use Rattle.std.proofs.Common.{ap, ◌∙◌}
use Rattle.ns_types.specs.declared.refusal.Refusal.{Refusal}
use Rattle.ns_types.specs.declared.step.Step.{Step}
use Rattle.ns_types.specs.State.Rows.{State}
use Rattle.ns_types.specs.Steps.{Answer, Makes}
use Rattle.ns_steps.specs.Served.{IsServed, is_reading}
use Rattle.ns_steps.proofs.Telling.{reading_rests}
use Rattle.ns_replies.specs.Laws.{may_change}
use Rattle.ns_replies.proofs.Reading.{reads_or_changes}

rests : (step : Step) (s : State) (answer : Answer) (s' : State) → IsServed step → is_reading step ≡ true → Makes step s answer s' → s' ≡ s
rests step s (Ok reply) s' served reading m = reading_rests step s s' (Ok reply) served reading m
rests step s (Err Refusal.Memory) s' served reading m = m.1
rests step s (Err Refusal.NotEnabled) s' served reading m = m.1
rests step s (Err refusal) s' served reading m = m.1

pub read_rests : (step : Step) (s : State) (answer : Answer) (s' : State) → IsServed step → may_change step ≡ false → Makes step s answer s' →
    s' ≡ s
read_rests step s answer s' served never m = rests step s answer s' served (reads_or_changes step served ∙ ap not never) m
