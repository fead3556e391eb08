-- Why a call on a core makes no step.
use Rattle.std.specs.Prelude.{◌≡◌, true, None}
use Rattle.ns_types.specs.declared.refusal.Refusal.{Refusal}
use Rattle.ns_types.specs.declared.step.Step.{Step}
use Rattle.ns_types.specs.State.Rows.{State}
use Rattle.ns_types.specs.Steps.{after, is_made}

-- there was no memory for a step that would have been made, or the step is out of turn
abbrev pub CoreLacks : State → Step → Refusal → Type 0
CoreLacks s step Refusal.Memory = is_made (after step s) ≡ true
CoreLacks s step Refusal.NotEnabled = after step s ≡ None
CoreLacks s step _ = ⊥
