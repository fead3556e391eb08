-- How the bound of a counter refuses a worker's step.
use Rattle.std.specs.Prelude.{◌≡◌, ℕ, ◌+◌, Bool, true, false, not, ◌&&◌, nat_lt}
use Rattle.std.specs.Option.{option_map_or}
use Rattle.std.specs.FinMap.{get}
use Rattle.ns_types.specs.declared.evaluation.Evaluation.{Evaluation}
use Rattle.ns_types.specs.declared.evaluation.Status.{Status}
use Rattle.ns_types.specs.declared.reply.Content.{Content}
use Rattle.ns_types.specs.Settling.Outcome.{Outcome, Done}
use Rattle.ns_types.specs.Settling.Settle.{settle}
use Rattle.ns_types.specs.State.Names.{Key, Name}
use Rattle.ns_types.specs.State.Rows.{World}
use Rattle.ns_types.specs.Steps.{greatest, is_past_bound}
use Rattle.ns_types.specs.Working.Work.{dequeue, snap, submit}

-- the namespace's next index would pass its bound
abbrev pub is_last_index : World → Name → Bool
is_last_index w ns = option_map_or (λ t. nat_lt greatest (t.index + 1)) (get w.tenants ns) false

abbrev pub is_failed : Status → Bool
is_failed Status.Failed = true
is_failed _ = false

-- the evaluation is not yet marked as failed, and the namespace has no index left to show that it fails
abbrev pub cannot_fail : World → Name → Evaluation → Bool
cannot_fail w ns e = not (is_failed e.status) && is_last_index w ns

-- no counter passes its bound by the act
abbrev pub PassesNothing : (World → Outcome World) → Type 0
PassesNothing act = (w : World) (content : Content) (x : World) → is_past_bound w ≡ false → act w ≡ Done content x →
    is_past_bound (settle w x) ≡ false

-- no counter passes its bound by a dequeue
abbrev pub DequeuePassesNothing : Type 0
DequeuePassesNothing = (number : ℕ) (key : Key) → PassesNothing (dequeue number key)

-- no counter passes its bound by the taking of a snapshot
abbrev pub SnapPassesNothing : Type 0
SnapPassesNothing = (number : ℕ) (ns : Name) → PassesNothing (snap number ns)

-- no counter passes its bound by the submission of a plan
abbrev pub SubmitPassesNothing : Type 0
SubmitPassesNothing = (number : ℕ) (ns : Name) → PassesNothing (submit number ns)
