-- Laws of replaying.
use Rattle.std.specs.Prelude.{◌≡◌, ◌≢◌, ℕ, List, true}
use Rattle.ns_types.specs.Isolation.{is_own, part_of}
use Rattle.ns_types.specs.State.Names.{Name}
use Rattle.ns_types.specs.State.Rows.{State}
use Rattle.ns_types.specs.Validity.{IsValid}
use Rattle.ns_types.specs.declared.reply.Rendered.{Rendered}
use Rattle.ns_json.specs.Replies.{Entry, IsKept}
use Rattle.ns_replay.specs.declared.fault.ReplayFault.{ReplayFault}
use Rattle.ns_replay.specs.declared.fault.ReplayFault.TheVariants.{Differs, Memory}
use Rattle.ns_replay.specs.Replying.{FitsIn}
use Rattle.ns_replay.specs.Replay.{Breaks, IsFault, IsReached, Replays}

-- An own entry that fits in the whole server and breaks no premise also fits in the server that holds the namespace alone: if
-- it does not fit there, it does not fit in the whole server either.
abbrev pub DiffersFromBoth : Type 0
DiffersFromBoth = (ns : Name) (pools quotas : List Name) (base s t : State) (log : List Entry) (place : ℕ) (entry : Entry) → IsValid base →
    IsReached ns pools quotas base log place entry s t → (Breaks ns pools quotas entry.0 s → ⊥) →
    is_own (part_of ns pools quotas) entry.0 ≡ true → (FitsIn entry t → ⊥) → FitsIn entry s → ⊥

-- So a log that is a run of the server never has the fault `Differs`.
abbrev pub KeptNeverDiffers : Type 0
KeptNeverDiffers = (ns : Name) (pools quotas : List Name) (base s : State) (log : List Entry) (place : ℕ) → IsValid base → IsKept base log s →
    IsFault ns pools quotas base log (Differs place) → ⊥

-- A log has at most one first fault.
abbrev pub OneFault : Type 0
OneFault = (ns : Name) (pools quotas : List Name) (base : State) (log : List Entry) (fault other : ReplayFault) → IsValid base →
    IsFault ns pools quotas base log fault → IsFault ns pools quotas base log other → fault ≢ Memory → other ≢ Memory → fault ≡ other

-- A log that replays has no fault.
abbrev pub ReplayedHasNoFault : Type 0
ReplayedHasNoFault = (ns : Name) (pools quotas : List Name) (base : State) (log : List Entry) (replies : List Rendered) (fault : ReplayFault) →
    IsValid base → Replays ns pools quotas base log replies → IsFault ns pools quotas base log fault → fault ≢ Memory → ⊥

-- A log has at most one list of replies of the server that holds the namespace alone.
abbrev pub OneReplay : Type 0
OneReplay = (ns : Name) (pools quotas : List Name) (base : State) (log : List Entry) (replies other : List Rendered) →
    Replays ns pools quotas base log replies → Replays ns pools quotas base log other → replies ≡ other
