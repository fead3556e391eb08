-- Why a call on a held server makes no step.
use Rattle.std.specs.Prelude.{◌≡◌, None}
use Rattle.ns_types.specs.declared.refusal.Refusal.{Refusal}
use Rattle.ns_types.specs.declared.step.Step.{Step}
use Rattle.ns_types.specs.Steps.{after}
use Rattle.ns_work_log.specs.Logs.{History, HasPlace, IsFull}

-- the log is full, which is reported first; or it is not full, and no memory was left or the step is out of turn
abbrev pub HeldLacks : History → Step → Refusal → Type 0
HeldLacks h step Refusal.LogFull = IsFull h
HeldLacks h step Refusal.Memory = HasPlace h
HeldLacks h step Refusal.NotEnabled = HasPlace h × (after step h.state ≡ None)
HeldLacks h step _ = ⊥
