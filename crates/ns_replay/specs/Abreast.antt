-- The two servers side by side, as a log is replayed.
use Rattle.std.specs.Prelude.{◌≡◌, ℕ, Bool, true, false, not, ◌&&◌, List, [], ◌∷◌, ◌++◌, Option, Some, None, Ok, Err}
use Rattle.ns_types.specs.declared.reply.Rendered.{Rendered}
use Rattle.ns_types.specs.declared.step.Step.{Step}
use Rattle.ns_types.specs.Access.Sharing.{is_apart}
use Rattle.ns_types.specs.Isolation.{Agree, Part, is_crowded_out, is_full_answer, is_own, part_of}
use Rattle.ns_types.specs.State.Names.{Name}
use Rattle.ns_types.specs.State.Rows.{State, World}
use Rattle.ns_types.specs.Steps.{Answer, after, said}
use Rattle.ns_audit.specs.Orderly.{IsSteady}
use Rattle.ns_audit.specs.Staying.{puts_namespace}
use Rattle.ns_json.specs.Replies.{Entry}
use Rattle.ns_replay.specs.Replying.{Fits, FitsIn}
use Rattle.ns_replay.specs.declared.claim.Claim.{Claim}
use Rattle.ns_replay.specs.declared.fault.ReplayFault.{ReplayFault}
use Rattle.ns_replay.specs.declared.fault.ReplayFault.TheVariants.{Premise, Differs, NotARun, Memory}
use Rattle.ns_replay.specs.Replay.{Breaks, DiffersAt, IsFault, IsNoStepAt, IsReplayed, RepliesAlone}

-- s is steady, the namespace is apart there, and t holds exactly what the namespace has in s
pub record StandsBeside (ns : Name) (pools quotas : List Name) (s t : State) : Type 0 where
  pub steady : IsSteady s
  pub apart : is_apart s.world ns pools quotas ≡ true
  pub agree : Agree (part_of ns pools quotas) s t

-- ---- one step

-- The step with this answer breaks a premise: it puts a namespace, and the claimed namespace is not apart then; or it is an own
-- put that is refused because its table is full.
abbrev pub breaks_premise : Bool → Bool → Step → Answer → Bool
breaks_premise apart crowded step (Ok reply) = puts_namespace step && not apart
breaks_premise apart crowded step (Err refusal) = crowded && is_full_answer (Err refusal)

-- if the step was made, it leaves the namespace apart, and was not crowded out
abbrev pub KeepsPremises : Name → List Name → List Name → Step → State → Option Rendered → State → Type 0
KeepsPremises ns pools quotas step s (Some reply) s' = (is_apart s'.world ns pools quotas ≡ true)
    × ((answer : Answer) → after step s ≡ said answer s' →
    is_crowded_out (part_of ns pools quotas) step s answer ≡ false)
KeepsPremises ns pools quotas step s None s' = Unit {0}

-- the step at the place breaks a premise; nothing is known if no memory was left
abbrev pub IsBreach : Name → List Name → List Name → Step → State → ℕ → ReplayFault → Type 0
IsBreach ns pools quotas step s place (Premise i) = (i ≡ place) × Breaks ns pools quotas step s
IsBreach ns pools quotas step s place (Differs i) = ⊥
IsBreach ns pools quotas step s place (NotARun i) = ⊥
IsBreach ns pools quotas step s place Memory = Unit {0}

-- the entry is an own one, and does not fit in t; nothing is known if no memory was left
abbrev pub IsDifference : Part → Entry → State → ℕ → ReplayFault → Type 0
IsDifference part entry t place (Differs i) = (i ≡ place) × (is_own part entry.0 ≡ true) × (FitsIn entry t → ⊥)
IsDifference part entry t place (Premise i) = ⊥
IsDifference part entry t place (NotARun i) = ⊥
IsDifference part entry t place Memory = Unit {0}

-- ---- one entry

-- an own entry fits in t, with its reply, and any other leaves t as it is
abbrev pub Strikes : Bool → Entry → State → State → Option Rendered → Type 0
Strikes true entry t t' reply = Fits entry t t' × (reply ≡ Some entry.1)
Strikes false entry t t' reply = (t' ≡ t) × (reply ≡ None)

-- an entry without a fault leads from s to s', and from t to t'
pub record Advances (ns : Name) (pools quotas : List Name) (entry : Entry) (s t s' t' : State) (reply : Option Rendered) : Type 0 where
  pub fits : Fits entry s s'
  pub uncrowded : is_crowded_out (part_of ns pools quotas) entry.0 s fits.answer ≡ false
  pub apart : is_apart s'.world ns pools quotas ≡ true
  pub strikes : Strikes (is_own (part_of ns pools quotas) entry.0) entry t t' reply

-- the replies, followed by the reply to an own step
abbrev pub with_reply : List Rendered → Option Rendered → List Rendered
with_reply replies (Some reply) = replies ++ reply ∷ []
with_reply replies None = replies

-- the fault is the first one at the entry, which stands at the place
abbrev pub IsFaultAt : Name → List Name → List Name → Entry → State → State → ℕ → ReplayFault → Type 0
IsFaultAt ns pools quotas entry s t place (Premise i) = (i ≡ place) × Breaks ns pools quotas entry.0 s
IsFaultAt ns pools quotas entry s t place (Differs i) = (i ≡ place) × DiffersAt ns pools quotas entry s t
IsFaultAt ns pools quotas entry s t place (NotARun i) = (i ≡ place) × IsNoStepAt ns pools quotas entry s t
IsFaultAt ns pools quotas entry s t place Memory = Unit {0}

-- ---- the definitions above, for a claim

abbrev pub its_part : Claim → Part
its_part claim = part_of claim.namespace.now claim.pools.now claim.quotas.now

abbrev pub is_apart_by : Claim → World → Bool
is_apart_by claim w = is_apart w claim.namespace.now claim.pools.now claim.quotas.now

abbrev pub IsBesideBy : Claim → State → State → Type 0
IsBesideBy claim s t = StandsBeside claim.namespace.now claim.pools.now claim.quotas.now s t

abbrev pub KeepsPremisesBy : Claim → Step → State → Option Rendered → State → Type 0
KeepsPremisesBy claim step s told s' =
    KeepsPremises claim.namespace.now claim.pools.now claim.quotas.now step s told s'

abbrev pub IsBreachBy : Claim → Step → State → ℕ → ReplayFault → Type 0
IsBreachBy claim step s place fault =
    IsBreach claim.namespace.now claim.pools.now claim.quotas.now step s place fault

abbrev pub AdvancesBy : Claim → Entry → State → State → State → State → Option Rendered → Type 0
AdvancesBy claim entry s t s' t' reply =
    Advances claim.namespace.now claim.pools.now claim.quotas.now entry s t s' t' reply

abbrev pub IsFaultAtBy : Claim → Entry → State → State → ℕ → ReplayFault → Type 0
IsFaultAtBy claim entry s t place fault =
    IsFaultAt claim.namespace.now claim.pools.now claim.quotas.now entry s t place fault

abbrev pub IsReplayedBy : Claim → State → List Entry → State → State → Type 0
IsReplayedBy claim base log s t = IsReplayed claim.namespace.now claim.pools.now claim.quotas.now base log s t

abbrev pub RepliesAloneBy : Claim → State → List Entry → List Rendered → Type 0
RepliesAloneBy claim base log replies =
    RepliesAlone claim.namespace.now claim.pools.now claim.quotas.now base log replies

abbrev pub IsFaultBy : Claim → State → List Entry → ReplayFault → Type 0
IsFaultBy claim base log fault = IsFault claim.namespace.now claim.pools.now claim.quotas.now base log fault
