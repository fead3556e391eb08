-- Workers' steps that are prepared, and then made.
use Rattle.std.specs.Prelude.{◌≡◌, true, None, Result}
use Rattle.ns_types.specs.declared.refusal.Refusal.{Refusal}
use Rattle.ns_types.specs.declared.step.Step.{Step}
use Rattle.ns_types.specs.Steps.{Answer, index_shown, is_allowed}
use Rattle.ns_change.specs.declared.change.Prepared.{Prepared}
use Rattle.ns_core.specs.declared.parts.Parts.{Parts}
use Rattle.ns_core.specs.Answering.{MakesStep, PreparesStep}
use Rattle.ns_core.specs.Viewed.{world_of}

-- each allowed step that is answered without an index, and for which this was prepared, is made
abbrev pub MakesWork : Result Prepared Refusal → Parts → Answer → Parts → Type 0
MakesWork prepared old result new = (step : Step) → is_allowed step old.acl ≡ true →
    index_shown step (world_of new) ≡ None → PreparesStep step old prepared → MakesStep step old result new
